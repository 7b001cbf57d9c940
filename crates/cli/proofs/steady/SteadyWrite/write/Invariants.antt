-- What the end holds is kept while it is interrupted.
use Rattle.std.specs.Io.KnownBytes.{Keeps}
use Rattle.cli.proofs.steady.SteadyWrite.write.Given as goal

abbrev pub invariant-loop : goal.invariant-loop
invariant-loop g l = Keeps (g.E.Write.contents l.initial.self.end) (g.E.Write.contents l.self.end)

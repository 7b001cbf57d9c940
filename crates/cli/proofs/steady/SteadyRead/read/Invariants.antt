-- What the end has left is kept while it is interrupted.
use Rattle.std.proofs.Common.{◌≡◌, length}
use Rattle.std.specs.Io.KnownBytes.{Keeps}
use Rattle.cli.proofs.steady.SteadyRead.read.Given as goal

abbrev pub invariant-loop : goal.invariant-loop
invariant-loop g l = (length l.buffer ≡ length l.initial.buffer) × Keeps (g.E.Read.remaining l.initial.self.end) (g.E.Read.remaining l.self.end)

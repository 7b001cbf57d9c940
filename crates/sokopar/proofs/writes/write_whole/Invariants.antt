-- The sink took the text up to what is left of it.
use Rattle.std.proofs.Common.{length}
use Rattle.sokopar.proofs.Writing.{Taken}
use Rattle.sokopar.proofs.writes.write_whole.Given as goal

abbrev pub invariant-loop-rest : goal.invariant-loop-rest
invariant-loop-rest g l = Taken (g.K.Sink.seen l.fn.sink) (g.K.Sink.seen l.sink) l.text l.rest

abbrev pub decreases-loop-rest : goal.decreases-loop-rest
decreases-loop-rest g l = length l.rest

use Rattle.grid.specs.States.{IsScene}
use Rattle.shortest.proofs.plays.append_push.Given as goal

abbrev pub invariant-loop-index : goal.invariant-loop-index
invariant-loop-index l = IsScene l.level l.state

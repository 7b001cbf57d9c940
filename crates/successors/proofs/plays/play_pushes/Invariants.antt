use Rattle.std.proofs.Common.{◌≡◌, take}
use Rattle.grid.specs.States.{IsScene}
use Rattle.successors.specs.LeastPlays.{WritesLeastPlay}
use Rattle.successors.proofs.plays.play_pushes.Given as goal

abbrev pub invariant-loop-push : goal.invariant-loop-push
invariant-loop-push l =
    WritesLeastPlay l.level (take l.push-index l.pushes) l.state l.moves × IsScene l.level l.state × (l.scratch.size ≡ l.fn.scratch.size)

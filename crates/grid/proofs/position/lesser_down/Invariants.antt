use Rattle.std.proofs.Common.{◌≡◌, ◌-◌, ◌<◌, length}
use Rattle.std.specs.List.{remove as remove_at}
use Rattle.grid.proofs.position.lesser_down.Given as goal

abbrev pub invariant-loop-hole : goal.invariant-loop-hole
invariant-loop-hole l = record {
  inside : l.hole < length l.squares;
  others : remove_at l.squares l.hole ≡ remove_at l.initial.squares l.initial.hole;
}

abbrev pub decreases-loop-hole : goal.decreases-loop-hole
decreases-loop-hole l = length l.initial.squares - l.hole

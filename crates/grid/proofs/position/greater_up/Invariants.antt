use Rattle.std.proofs.Common.{◌≡◌, ◌+◌, ◌<◌, ◌≤◌, length, get_or}
use Rattle.std.specs.List.{remove as remove_at}
use Rattle.grid.proofs.position.greater_up.Given as goal

abbrev pub invariant-loop-hole : goal.invariant-loop-hole
invariant-loop-hole l = record {
  inside : l.hole < length l.squares;
  others : remove_at l.squares l.hole ≡ remove_at l.initial.squares l.initial.hole;
  after : l.hole + 1 < length l.squares → l.square ≤ get_or l.squares (l.hole + 1) 0;
}

abbrev pub decreases-loop-hole : goal.decreases-loop-hole
decreases-loop-hole l = l.hole

use Rattle.std.proofs.Common.{◌≡◌, ltb, take}
use Rattle.std.specs.List.{count_by}
use Rattle.grid.proofs.position.place_of.Given as goal

abbrev pub invariant-loop-other : goal.invariant-loop-other
invariant-loop-other l = l.lesser ≡ count_by (λ x. ltb x l.square) (take l.other-index l.squares)

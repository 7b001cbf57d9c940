use Rattle.std.proofs.Common.{drop}
use Rattle.area.specs.inside.PushLists.{IsListing}
use Rattle.area.proofs.possible.possible_pushes.Given as goal

abbrev pub invariant-loop-square : goal.invariant-loop-square
invariant-loop-square l = IsListing l.level l.scratch (drop l.square-index l.boxes) l.square-index l.pushes.items

use Rattle.std.proofs.Common.{◌≡◌, ◌≤◌, length, take}
use Rattle.grid.specs.declared.limits.TheConstants.{MAX_BOXES}
use Rattle.store.proofs.key.Key.position.Given as goal

abbrev pub invariant-loop-index : goal.invariant-loop-index
invariant-loop-index g l = (l.boxes.items ≡ take l.index l.self.boxes) × (l.index-end ≡ length l.self.boxes) × (l.index-end ≤ MAX_BOXES)

use Rattle.std.proofs.Common.{◌≡◌, drop, length, take}
use Rattle.store.specs.inside.KeyRows.{joined_bytes}
use Rattle.store.proofs.key.write_boxes.Given as goal

abbrev pub invariant-loop-index : goal.invariant-loop-index
invariant-loop-index l = (take l.index l.row ≡ take l.index (drop 1 (joined_bytes l.low l.high))) × (length l.row ≡ length l.fn.row)

use Rattle.std.proofs.Common.{◌≡◌, ℕ, ◌<◌, ◌&&◌, not, cond, slice_index}
use Rattle.grid.specs.Board.{is_wall}
use Rattle.grid.specs.Masks.{has_bit}
use Rattle.area.specs.declared.spread.TheConstants.{BOX_MARK}
use Rattle.area.proofs.steps.bar.Given as goal

abbrev pub invariant-loop-index : goal.invariant-loop-index
invariant-loop-index l =
    (q : ℕ) → q < l.index → slice_index l.marks q ≡ cond (has_bit l.barred q && not (is_wall l.level q)) BOX_MARK 0

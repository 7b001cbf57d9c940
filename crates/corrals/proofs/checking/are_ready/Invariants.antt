use Rattle.std.proofs.Common.{◌≡◌, ℕ, suc, ◌<◌, Some}
use Rattle.std.specs.Prelude.{slice_get}
use Rattle.grid.specs.Masks.{has_bit}
use Rattle.prices.specs.Solving.{Allows}
use Rattle.corrals.specs.inside.Checking.{IsReadyBox}
use Rattle.corrals.proofs.checking.are_ready.Given as goal

abbrev pub invariant-loop-square : goal.invariant-loop-square
invariant-loop-square l = record {
  ready : (i b : ℕ) → i < l.square-index → slice_get l.boxes i ≡ Some b → (m : ℕ) → Allows l.ground.left m →
      IsReadyBox l.ground.board (suc m) (has_bit l.sets.held) (has_bit l.sets.room) l.ground.scene b;
  spare : l.spare ≡ l.fn.spare;
}

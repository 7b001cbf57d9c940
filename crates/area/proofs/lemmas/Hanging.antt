-- Boxes that hang together: they are boxes, and whether one does is decided.
use Rattle.std.proofs.Common.{◌≡◌, ◌↔◌, ℕ, Bool, true, false}
use Rattle.grid.specs.Board.{Board, is_wall}
use Rattle.grid.specs.Squares.{Squares, contains}
use Rattle.area.specs.Groups.{HangsWith, itself, onto}
use Rattle.area.proofs.Chains.{ring, ring_scene, hangs_walk, walk_hangs}
use Rattle.area.proofs.Nearness.{area_test}

-- a box hangs together with boxes alone
pub hanging_box : {board : Board} {boxes : Squares} {p q : ℕ} → HangsWith board boxes p q → contains boxes q ≡ true
hanging_box (itself h) = h
hanging_box (onto d w h) = h

-- whether a box hangs together with the one on the square
pub hangs_test : (board : Board) (boxes : Squares) →
    ((q : ℕ) → contains boxes q ≡ true → is_wall board q ≡ false) → (square : ℕ) → contains boxes square ≡ true →
    (test : ℕ → Bool) × ((q : ℕ) → (test q ≡ true) ↔ HangsWith board boxes square q)
hangs_test board boxes clear square there =
    let (test, tells) = area_test board (ring board boxes clear square) (ring_scene board boxes clear square there) in (
      test,
      λ q. (
        λ h. walk_hangs board boxes clear square q there ((tells q).0 h),
        λ w. (tells q).1 (hangs_walk board boxes clear w),
      ),
    )

-- That what the check looks at makes the distances lower bounds.
use Rattle.std.proofs.Common.{◌≡◌, ◌<◌, ◌||◌, ℕ, zero, suc, Bool, true, false, cond, eqb, Some, List, [], ◌∷◌}
use Rattle.std.proofs.Common.{length, get_or, slice_get, take, drop, refl, sym, ap, subst, ◌∙◌, arith}
use Rattle.std.proofs.lemmas.Bool.{eqb-true, false≢true}
use Rattle.std.specs.Cmp.{both_ways}
use Rattle.grid.specs.Board.{Board, next, opposite}
use Rattle.grid.specs.Squares.{contains}
use Rattle.grid.proofs.lemmas.Steps.{inside_grid, next_back}
use Rattle.prices.specs.declared.table.Side.{Side}
use Rattle.prices.specs.declared.table.DistanceTable.{DistanceTable}
use Rattle.prices.specs.Prices.{AreFar, CanStand, goals_of}
use Rattle.prices.specs.inside.Checks.{AreClosed, AreZeroAtHome, DistancesLessenByOne, KeepRows, StayAway}
use Rattle.prices.specs.inside.Tables.{far_in, has_number, number_of, place_in, row_by, row_in, sides_of, spot_of}
use Rattle.prices.proofs.lemmas.Goals.{contains-goals}
use Rattle.prices.proofs.lemmas.Tables.{place_inside}

-- ---- sides

-- numbers that are of the same sides have the same row
same_row : (sides : List Side) (j k other : ℕ)
    → ((i : ℕ) (s : Side) → slice_get sides i ≡ Some s → has_number s j ≡ has_number s k)
    → row_by sides j other ≡ row_by sides k other
same_row [] j k other same = refl
same_row (s ∷ ss) j k other same =
    let here = same 0 s refl in
    let rest = same_row ss j k other (λ i x at. same (suc i) x at) in
    ap (λ (b : Bool). cond b s.row (row_by ss j other)) here ∙ ap (λ (n : ℕ). cond (has_number s k) s.row n) rest

-- where no step leads out of a side, steps that push nothing leave the distances as they are
pub rows_kept : (board : Board) (t : DistanceTable) → ((b : ℕ) → b < length board.cells → AreClosed board t b)
    → KeepRows board t
rows_kept board t closed b p d here there =
    let q = next board p d in
    let sides = sides_of t.spots.items t.sides.items b in
    let back : next board q (opposite d) ≡ p = next_back board p d here.player there.player in
    let number : ℕ → ℕ = λ x. (spot_of t.spots.items x).number in
    ap (λ (n : ℕ). take (length t.goals.items) (drop n t.far.items))
    (same_row sides (number p) (number q) (spot_of t.spots.items b).row (λ i s at. (
    let is = closed b (inside_grid board b here.floor) i s at in
    both_ways (has_number s (spot_of t.spots.items p).number) (has_number s (spot_of t.spots.items q).number)
    (is p d here there)
    (λ h. subst (λ (x : ℕ). has_number s (spot_of t.spots.items x).number ≡ true) back
    (is q (opposite d) there (subst (CanStand board b) (sym back) here) h))
    )))

-- ---- the place of a goal

pub at_place : (xs : List ℕ) (q d : ℕ) → contains xs q ≡ true → get_or xs (place_in xs q) d ≡ q
at_place [] q d here = absurd (false≢true here)
at_place (x ∷ xs) q d here = at_head (eqb x q) (eqb-true x q) (λ h. at_place xs q d h) here
  where
    at_head : (e : Bool) → (e ≡ true → x ≡ q) → (contains xs q ≡ true → get_or xs (place_in xs q) d ≡ q)
        → (e || contains xs q) ≡ true
        → get_or (x ∷ xs) (cond e 0 (suc (place_in xs q))) d ≡ q
    at_head true same tail h = same refl
    at_head false same tail h = tail h

-- where the rows of each goal have a 0 at its place, no goal is far from a box on it
pub none_at_home : (board : Board) (t : DistanceTable)
    → ((i p : ℕ) → i < length t.goals.items → p < length board.cells
    → get_or (row_in t (get_or t.goals.items i 0) p) i 0 ≡ 0) → AreZeroAtHome board t
none_at_home board t none g p there inside =
    let i = place_in t.goals.items g in
    subst (λ (x : ℕ). get_or (row_in t x p) i 0 ≡ 0) (at_place t.goals.items g 0 there)
    (none i p (place_inside t.goals.items g there) inside)

-- ---- all together

pub are_far : (board : Board) (t : DistanceTable) → t.goals.items ≡ goals_of board → KeepRows board t → AreZeroAtHome board t
    → DistancesLessenByOne board t
    → AreFar board (far_in t)
are_far board t goals kept none less = record {
  home = λ g p goal stands. none g p (ap (λ (xs : List ℕ). contains xs g) goals ∙ (contains-goals board g ∙ goal))
      (inside_grid board p stands.player);
  walk = λ g b p d here there. (
      let e : far_in t g b p ≡ far_in t g b (next board p d) =
      ap (λ (row : List ℕ). number_of t.goals.items row g) (kept b p d here there) in
      omega (arith, e)
      );
  push = λ g p d here ahead. (less p d (inside_grid board p here.player) here.player here.floor ahead.floor).within
      (place_in t.goals.items g);
}

-- and a box that can't be brought to a goal can't be brought there after a push either
pub stay_away : (board : Board) (t : DistanceTable) → DistancesLessenByOne board t → StayAway board (far_in t)
stay_away board t less g p d here ahead =
    (less p d (inside_grid board p here.player) here.player here.floor ahead.floor).never (place_in t.goals.items g)

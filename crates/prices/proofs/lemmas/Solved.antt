-- Solved boxes stand on all the goals.
use Rattle.std.proofs.Common.{◌≡◌, ℕ, suc, ◌≤◌, Bool, true, false, eqb, [], ◌∷◌, length, refl, subst, ◌∙◌, arith}
use Rattle.std.proofs.lemmas.Bool.{eqb-true, eqb-false}
use Rattle.grid.specs.Squares.{Squares, contains, remove}
use Rattle.grid.specs.Rising.{rises_from, is_rising}
use Rattle.grid.specs.Board.{Board, Scene, IsSolved}
use Rattle.grid.specs.States.{FitsLevel}
use Rattle.grid.specs.Lawful.{IsLevel}
use Rattle.grid.proofs.lemmas.Levels.{level_counts}
use Rattle.grid.proofs.lemmas.Squares.{contains_head, contains-from, contains-remove_other, is_rising-remove}
use Rattle.grid.proofs.lemmas.Squares.{length-remove, rises_from-parts, same_set_both, contains_tail}
use Rattle.prices.specs.Prices.{goals_of}
use Rattle.prices.proofs.lemmas.Goals.{contains-goals, is_rising-goals}
use Rattle.prices.proofs.Counts.{length-goals}

-- a set that lies within another and is no smaller has all of it
all_of_them : (k : ℕ) (xs ys : Squares) → rises_from k xs ≡ true → is_rising ys ≡ true
    → ((q : ℕ) → contains xs q ≡ true → contains ys q ≡ true)
    → length ys ≤ length xs → (q : ℕ) → contains ys q ≡ true → contains xs q ≡ true
all_of_them k [] [] rises rising within few q there = there
all_of_them k [] (y ∷ ys) rises rising within few q there = absurd (omega (arith, few))
all_of_them k (x ∷ xs) ys rises rising within few q there =
    let parts = rises_from-parts k x xs rises in
    let size = length-remove ys x rising (within x (contains_head x xs)) in
    let other : (z : ℕ) → contains xs z ≡ true → x ≡ z → ⊥ = λ z h e. (let ge = contains-from (suc x) xs z parts.1 h in
    omega (arith, e, ge)) in
    let inner : (z : ℕ) → contains xs z ≡ true → contains (remove ys x) z ≡ true =
    λ z h. contains-remove_other ys x z (other z h) ∙ within z (contains_tail x xs z h) in
    by_eq (all_of_them (suc x) xs (remove ys x) parts.1 (is_rising-remove ys x rising) inner
    (omega (arith, size, few)) q) (eqb x q) refl
  where
    by_eq : (contains (remove ys x) q ≡ true → contains xs q ≡ true) → (b : Bool) → eqb x q ≡ b
        → contains (x ∷ xs) q ≡ true
    by_eq rest true e = subst (λ (z : ℕ). contains (x ∷ xs) z ≡ true) (eqb-true x q e) (contains_head x xs)
    by_eq rest false e = contains_tail x xs q (rest (contains-remove_other ys x q (eqb-false x q e) ∙ there))

-- where all boxes stand on goals, each goal has a box
pub solved_are_goals : (board : Board) (s : Scene) → IsLevel board → FitsLevel board s → IsSolved board s
    → s.boxes ≡ goals_of board
solved_are_goals board s level fits solved =
    let rising = is_rising-goals board in
    let within : (q : ℕ) → contains s.boxes q ≡ true → contains (goals_of board) q ≡ true =
    λ q there. contains-goals board q ∙ solved q there in
    let counts = (level_counts board level).boxes in
    let size = length-goals board in
    let whole = all_of_them 0 s.boxes (goals_of board) fits.scene.rising rising within
    (omega (arith, counts, size, fits.boxes)) in
    same_set_both s.boxes (goals_of board) fits.scene.rising rising within whole

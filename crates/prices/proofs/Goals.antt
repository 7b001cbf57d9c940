-- Goals as they are gathered, one square after the other.
use Rattle.std.proofs.Common.{◌≡◌, ℕ, ◌+◌, ◌<◌, true, false, eqb, eq-eqb, List, [], ◌∷◌, ◌++◌, length, inl, inr, refl}
use Rattle.std.proofs.Common.{sym, ap, subst, ◌∙◌, arith}
use Rattle.std.proofs.lemmas.Bool.{cases_lt, eqb-false, eqb-true, true≢false}
use Rattle.std.proofs.lemmas.Grind.{common_steps}
use Rattle.std.proofs.lemmas.List.{get_or_past}
use Rattle.grid.specs.declared.cell.Cell.TheVariants.{Wall}
use Rattle.grid.specs.Squares.{contains}
use Rattle.grid.specs.Rising.{is_rising}
use Rattle.grid.specs.Board.{Board, is_goal, goal_cell}
use Rattle.grid.proofs.lemmas.Squares.{is_rising-push, same_set_both, contains-push, contains-push_cases}
use Rattle.prices.specs.Prices.{goals_of}
use Rattle.prices.proofs.lemmas.Goals.{contains-goals, is_rising-goals}

-- the list is that of the goals less than k
pub record AreGoalsBelow (board : Board) (k : ℕ) (gs : List ℕ) : Type 0 where
  pub rising : is_rising gs ≡ true
  pub below : (q : ℕ) → contains gs q ≡ true → q < k
  pub goals : (q : ℕ) → contains gs q ≡ true → is_goal board q ≡ true
  pub all : (q : ℕ) → q < k → is_goal board q ≡ true → contains gs q ≡ true

pub goal_gathered : (board : Board) (k : ℕ) (gs : List ℕ) → AreGoalsBelow board k gs → is_goal board k ≡ true
    → AreGoalsBelow board (k + 1) (gs ++ k ∷ [])
goal_gathered board k gs are goal = grind (arith, common_steps, is_rising-push, contains-push, eqb-true, eqb-false)

pub other_passed : (board : Board) (k : ℕ) (gs : List ℕ) → AreGoalsBelow board k gs → is_goal board k ≡ false
    → AreGoalsBelow board (k + 1) gs
other_passed board k gs are none = grind (arith, common_steps)

goal_inside : (board : Board) (q : ℕ) → is_goal board q ≡ true → q < length board.cells
unfolding is_goal
goal_inside board q goal = elim (cases_lt q (length board.cells)) [
  | inl lt ↦ lt
  | inr le ↦ absurd (true≢false (sym goal ∙ ap goal_cell (get_or_past board.cells q Wall le)))
]

-- the goals below all squares are the goals
pub all_gathered : (board : Board) (gs : List ℕ) → AreGoalsBelow board (length board.cells) gs → gs ≡ goals_of board
all_gathered board gs are = same_set_both gs (goals_of board) are.rising (is_rising-goals board)
    (λ q there. contains-goals board q ∙ are.goals q there)
    (λ q there. (let goal = sym (contains-goals board q) ∙ there in are.all q (goal_inside board q goal) goal))

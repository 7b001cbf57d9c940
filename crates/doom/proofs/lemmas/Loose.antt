-- A push that brings a box to where it is loose dooms nothing.
use Rattle.std.proofs.Common.{◌≡◌, ◌<◌, ℕ, length, sym, subst, inl, inr, arith}
use Rattle.std.proofs.lemmas.Bool.{cases_lt}
use Rattle.grid.specs.Squares.{Squares, insert, remove}
use Rattle.grid.specs.Board.{Board}
use Rattle.grid.proofs.lemmas.Squares.{contains-insert_cases, contains-remove_parts}
use Rattle.grid.proofs.lemmas.Steps.{inside_grid}
use Rattle.doom.specs.Deadlocks.{IsDead, IsFrozen}
use Rattle.doom.specs.Loose.{IsLoose, LooseDoomsNothing, IsHeldBothWays}
use Rattle.doom.proofs.Peeling.{held_by_more}
use Rattle.doom.proofs.Ways.{live_floor}

-- a box that came to rest where it is loose is in no frozen set
free_of_frozen : (board : Board) (boxes members : Squares) (q r : ℕ) → IsLoose board boxes q → IsFrozen board boxes members → q ≡ r →
    ¬ (IsHeldBothWays board members r)
free_of_frozen board boxes members q r loose frozen same blocked =
    loose.free (λ d. held_by_more board members boxes q d frozen.some (subst (IsHeldBothWays board members) (sym same) blocked d))

-- so what dooms the boxes then doomed them before
pub loose_dooms_nothing : (board : Board) → LooseDoomsNothing board
loose_dooms_nothing board boxes from to safe loose (inl (q, there, dead)) =
    grind (arith, contains-insert_cases, contains-remove_parts)
loose_dooms_nothing board boxes from to safe loose (inr (members, frozen)) =
    safe (inr (
      members,
      record {
        some = λ q member. elim (contains-insert_cases (remove boxes from) to q (frozen.some q member)) [
          | inl same ↦ absurd (free_of_frozen board (insert (remove boxes from) to) members to q loose frozen same (frozen.blocked q member))
          | inr left ↦ (contains-remove_parts boxes from q left).1
        ];
        off_goal = frozen.off_goal;
        blocked = frozen.blocked;
      },
    ))

-- a square that is not dead is of the grid
pub live_inside : (board : Board) (q : ℕ) → ¬ (IsDead board q) → q < length board.cells
live_inside board q live = grind (arith, cases_lt, inside_grid, live_floor)

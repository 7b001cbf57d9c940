-- The squares next to one that nothing fast holds.
use Rattle.std.proofs.Common.{◌≡◌, ℕ, true, false, [], ◌⊎◌, inl, inr}
use Rattle.std.proofs.lemmas.Bool.{false≢true, false_from_ne_true}
use Rattle.grid.specs.declared.dir.Dir.{Dir}
use Rattle.grid.specs.Squares.{Squares, contains}
use Rattle.grid.specs.Board.{Board, is_wall, next, opposite}
use Rattle.doom.specs.Deadlocks.{IsHeld}
use Rattle.doom.specs.inside.Holding.{IsFast}
use Rattle.doom.proofs.Peeling.{held_by_more}

-- ---- the squares next to one that walls and dead squares alone don't hold

pub floor_ahead : (board : Board) (q : ℕ) (d : Dir) → ¬ (IsFast board q d) → is_wall board (next board q d) ≡ false
floor_ahead board q d loose = false_from_ne_true (is_wall board (next board q d)) (λ wall. loose (inl (inl wall)))

pub floor_behind : (board : Board) (q : ℕ) (d : Dir) → ¬ (IsFast board q d)
    → is_wall board (next board q (opposite d)) ≡ false
floor_behind board q d loose =
    false_from_ne_true (is_wall board (next board q (opposite d))) (λ wall. loose (inr (inl (inl wall))))

-- such a square is held where a member is next to it
pub held_cases : (board : Board) (members : Squares) (q : ℕ) (d : Dir) → ¬ (IsFast board q d) → IsHeld board members q d
    → (contains members (next board q d) ≡ true) ⊎ (contains members (next board q (opposite d)) ≡ true)
held_cases board members q d loose (inl (inl wall)) = absurd (loose (inl (inl wall)))
held_cases board members q d loose (inl (inr ahead)) = inl ahead
held_cases board members q d loose (inr (inl (inl wall))) = absurd (loose (inr (inl (inl wall))))
held_cases board members q d loose (inr (inl (inr behind))) = inr behind
held_cases board members q d loose (inr (inr dead)) = absurd (loose (inr (inr dead)))

-- what is held fast is held among any members
pub held_fast : (board : Board) (members : Squares) (q : ℕ) (d : Dir) → IsFast board q d → IsHeld board members q d
held_fast board members q d fast = held_by_more board [] members q d (λ x none. absurd (false≢true none)) fast

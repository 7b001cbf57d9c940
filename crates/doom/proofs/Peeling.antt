-- Boxes that nothing blocks are in no frozen set.
use Rattle.std.proofs.Common.{ℕ, ◌⊎◌, inl, inr}
use Rattle.grid.specs.declared.dir.Dir.{Dir}
use Rattle.grid.specs.declared.dir.Dir.TheVariants.{D, L, R, U}
use Rattle.grid.specs.Squares.{Squares}
use Rattle.grid.specs.Board.{Board}
use Rattle.doom.specs.Deadlocks.{IsHeld}
use Rattle.doom.specs.Loose.{IsHeldBothWays}
use Rattle.doom.specs.inside.Locking.{AreWithin}

-- what blocks a square among some blocks it among more
pub held_by_more : (board : Board) (few more : Squares) (q : ℕ) (d : Dir) → AreWithin few more → IsHeld board few q d
    → IsHeld board more q d
held_by_more board few more q d within (inl (inl wall)) = inl (inl wall)
held_by_more board few more q d within (inl (inr ahead)) = inl (inr (within _ ahead))
held_by_more board few more q d within (inr (inl (inl wall))) = inr (inl (inl wall))
held_by_more board few more q d within (inr (inl (inr behind))) = inr (inl (inr (within _ behind)))
held_by_more board few more q d within (inr (inr dead)) = inr (inr dead)

-- a square is held on an axis, whichever way one looks along it
pub held_back : {A B C D : Type 0} → A ⊎ (B ⊎ (C × D)) → B ⊎ (A ⊎ (D × C))
held_back (inl a) = inr (inl a)
held_back (inr (inl b)) = inl b
held_back (inr (inr (c, d))) = inr (inr (d, c))

-- both axes make all directions
pub blocked_by_axes : (board : Board) (members : Squares) (q : ℕ) → IsHeld board members q R → IsHeld board members q D
    → IsHeldBothWays board members q
blocked_by_axes board members q across along D = along
blocked_by_axes board members q across along L = held_back across
blocked_by_axes board members q across along R = across
blocked_by_axes board members q across along U = held_back along

-- What is left of a list of successors under a cap.
use Rattle.std.specs.Prelude.{ℕ, ◌≤◌, List, [], ◌∷◌, ◌++◌}
use Rattle.grid.specs.Squares.{Squares}
use Rattle.grid.specs.Board.{Board}
use Rattle.doom.specs.Bounds.{IsLower}
use Rattle.successors.specs.declared.parcel.Successor.{Successor}

-- the boxes need at most `most` pushes, each as if it were alone
abbrev pub IsWithin : Board → Squares → ℕ → Type 0
IsWithin board boxes most = (low : ℕ) × IsLower board boxes low × (low ≤ most)

-- the second list has, in their order, those of the first that hold
pub data Picks {A : Type 0} (Holds : A → Type 0) : List A → List A → Type 0 where
  nothing : Picks Holds [] []
  kept : {xs ys : List A} {x : A} → Picks Holds xs ys → Holds x → Picks Holds (xs ++ x ∷ []) (ys ++ x ∷ [])
  left_out : {xs ys : List A} {x : A} → Picks Holds xs ys → ¬ (Holds x) → Picks Holds (xs ++ x ∷ []) ys

-- those of the successors are picked whose boxes need at most `most` pushes
abbrev pub ArePicked : Board → ℕ → List Successor → List Successor → Type 0
ArePicked board most before after = Picks (λ (s : Successor). IsWithin board s.position.boxes most) before after

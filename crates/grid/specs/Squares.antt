-- Sets of squares.
use Rattle.std.specs.Prelude.{ℕ, suc, Bool, cond, ◌==◌, nat_lt, List, [], ◌∷◌}
use Rattle.std.specs.List.{list_any}

-- a set of squares is the rising list of their numbers, so that equal sets are equal lists
abbrev pub Squares : Type 0
Squares = List ℕ

-- the square is in the set
abbrev pub contains : Squares → ℕ → Bool
contains xs q = list_any (λ x. x == q) xs

-- the set without the square
abbrev pub remove : Squares → ℕ → Squares
remove [] q = []
remove (x ∷ xs) q = cond (x == q) (remove xs q) (x ∷ remove xs q)

-- the set with the square
abbrev pub insert : Squares → ℕ → Squares
insert [] q = q ∷ []
insert (x ∷ xs) q = cond (nat_lt q x) (q ∷ x ∷ xs) (cond (x == q) (x ∷ xs) (x ∷ insert xs q))

-- the places, counted from k, at which a list passes a test
abbrev pub places_from : {A : Type 0} → (A → Bool) → ℕ → List A → Squares
places_from test k [] = []
places_from test k (c ∷ cs) = cond (test c) (k ∷ places_from test (suc k) cs) (places_from test (suc k) cs)

-- Lists that are taken apart.
use Rattle.std.proofs.Common.{◌≡◌, ◌-◌, ◌≤◌, ◌||◌, ℕ, Bool, true, false, eqb, List, [], ◌∷◌, drop, get_or, length, take}
use Rattle.std.proofs.Common.{refl, sym, subst, ap, ◌∙◌, arith}
use Rattle.std.proofs.lemmas.Bool.{eqb-true}
use Rattle.grid.specs.Squares.{Squares, contains}

-- all elements
taken_all : {A : Type 0} (xs : List A) → take (length xs) xs ≡ xs
taken_all [] = refl
taken_all (x ∷ xs) = ap (λ ys. x ∷ ys) (taken_all xs)

-- a list is its first element and the others
pub first_and_rest : {A : Type 0} (xs : List A) (x : A) → 1 ≤ length xs → x ≡ get_or xs 0 x →
    xs ≡ (x ∷ take (length xs - 1) (drop 1 xs))
first_and_rest [] x le is = absurd (omega (arith, le))
first_and_rest (y ∷ ys) x le is =
    ap (λ z. z ∷ ys) (sym is) ∙ ap (λ zs. x ∷ zs) (sym (taken_all ys) ∙ ap (λ n. take n ys) (omega arith))

-- what holds of the first square and of the others holds of each
pub of_each : (P : ℕ → Type 0) (xs : Squares) (x : ℕ) → xs ≡ (x ∷ take (length xs - 1) (drop 1 xs)) → P x
    → ((q : ℕ) → contains (take (length xs - 1) (drop 1 xs)) q ≡ true → P q) → (q : ℕ) → contains xs q ≡ true → P q
of_each P xs x split first rest q there = by (eqb x q) refl (subst (λ (ys : Squares). contains ys q ≡ true) split there)
  where
    by : (b : Bool) → eqb x q ≡ b → (b || contains (take (length xs - 1) (drop 1 xs)) q) ≡ true → P q
    by true e h = subst P (eqb-true x q e) first
    by false e h = rest q h

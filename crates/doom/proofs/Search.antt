-- What `any` says of the squares of a list.
use Rattle.std.proofs.Common.{◌≡◌, ◌↔◌, ◌==◌, ◌<◌, ℕ, Bool, true, false, MatchBool, IsTrue, length, get_or, refl, sym, subst, ◌∙◌, eq-eqb, arith}
use Rattle.std.specs.List.{HoldsAt, AllWithin}
use Rattle.std.proofs.lemmas.List.Folds.{list_any_at, Any-from_list_any}
use Rattle.std.proofs.lemmas.Bool.{false≢true, eqb-true}
use Rattle.grid.specs.Squares.{Squares, contains}

-- `any` is true exactly where a square of the list has the property
pub any_tells : (P Q : ℕ → Type 0) (r : Bool) (xs : Squares) → ((q : ℕ) → Q q → ¬ (P q)) →
    MatchBool r ((k : ℕ) × (k < length xs) × HoldsAt P xs k) (AllWithin Q xs 0 (length xs)) → IsTrue r ↔ ((q : ℕ) × (contains xs q ≡ true) × P q)
any_tells P Q true xs apart (k, lt, holds) =
    (λ _. (get_or xs k 0, list_any_at (λ y. y == get_or xs k 0) xs k 0 lt (eq-eqb (get_or xs k 0) (get_or xs k 0) refl), holds 0), λ _. refl)
any_tells P Q false xs apart none = (
  λ yes. absurd (false≢true yes),
  λ (q, there, p). let (k, x, lt, at, e) = Any-from_list_any (λ y. y == q) xs there in
      absurd (apart (get_or xs k x) (none k x (omega arith) lt) (subst P (sym (at ∙ eqb-true x q e)) p)),
)

-- Closed lists as they are copied into layers.
use Rattle.std.proofs.Common.{◌≡◌, ℕ, zero, suc, List, [], ◌∷◌, ◌++◌, length, map, Option, Some, None, refl, ap, subst, ◌∙◌, arith}
use Rattle.std.proofs.lemmas.List.{length-map}
use Rattle.std.proofs.lemmas.Option.{same_Some, none-some}
use Rattle.std.specs.Prelude.{slice_get}
use Rattle.std.specs.Option.{option_to_list}
use Rattle.grid.specs.declared.square.Push.{Push}
use Rattle.grid.specs.Board.{Scene}
use Rattle.successors.specs.Problems.{Problem}
use Rattle.store.specs.Entries.{Origin, Closed, places_of, origins_of}
use Rattle.successors.specs.Reaching.{total}
use Rattle.layers.specs.Origins.{HasOrigin}
use Rattle.layers.specs.LayerView.{HaveOrigins}
use Rattle.layers.specs.BookView.{HasClosedOrigin}
use Rattle.successors.proofs.lemmas.Lists.{sum_by_first}

-- in layer 0 there is no origin, and beyond it each position has one
pub no_origins : (problem : Problem) (es : List Closed) → ((i : ℕ) (m : Scene) (o : Option (Origin Push)) → slice_get es i ≡ Some (m, o) →
    HasClosedOrigin problem 0 m o) → origins_of es ≡ []
no_origins problem [] each = refl
no_origins problem (e ∷ es) each = (λ i. option_to_list (each zero e.0 e.1 refl i) ++ origins_of es) ∙ no_origins problem es (λ i m o at. each (suc i) m o at)

pub all_origins : (problem : Problem) (k : ℕ) (es : List Closed) → ((i : ℕ) (m : Scene) (o : Option (Origin Push)) → slice_get es i ≡ Some (m, o) →
    HasClosedOrigin problem (suc k) m o) → HaveOrigins problem k (places_of es) (origins_of es)
all_origins problem k [] each = record { each = refl; right = λ r m o at_m at_o. absurd (none-some m at_m) }
all_origins problem k ((n, None) ∷ es) each = absurd (each zero n None refl)
all_origins problem k ((n, Some p) ∷ es) each =
    let rest = all_origins problem k es (λ i m o at. each (suc i) m o at) in
    record { each = ap suc rest.each; right = λ r m o at_m at_o. right r m o at_m at_o rest }
  where
    right : (r : ℕ) (m : Scene) (o : Origin Push) → slice_get (n ∷ places_of es) r ≡ Some m → slice_get (p ∷ origins_of es) r ≡ Some o →
        HaveOrigins problem k (places_of es) (origins_of es) → HasOrigin problem k m o
    right zero m o at_m at_o rest = subst (λ x. HasOrigin problem k x o) (same_Some n m at_m)
        (subst (λ q. HasOrigin problem k n q) (same_Some p o at_o) (each zero n (Some p) refl))
    right (suc r) m o at_m at_o rest = rest.right r m o at_m at_o

pub total-places : (ess : List (List Closed)) → total (map places_of ess) ≡ total ess
total-places [] = refl
total-places (es ∷ ess) = omega (
  arith,
  sum_by_first length (places_of es) (map places_of ess),
  sum_by_first length es ess,
  total-places ess,
  length-map es (λ (e : Closed). e.0),
)

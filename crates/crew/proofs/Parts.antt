-- Books in two parts, of which one closes the next layer before the other.
use Rattle.std.proofs.Common.{◌≡◌, ℕ, zero, suc, List, [], ◌∷◌, ◌++◌, length, Some, refl, subst, arith}
use Rattle.std.proofs.lemmas.Option.{same_Some}
use Rattle.std.specs.Prelude.{slice_get}
use Rattle.layers.specs.BookView.{BookView}
use Rattle.solo.specs.inside.Rests.{MayBeClosed, MayBeClosedEach}

closed_at : (v w : BookView) (before after : List BookView) → ((x : BookView) × (Some w ≡ Some x) × MayBeClosed v x) → MayBeClosedEach before after →
    (i : ℕ) (u : BookView) → slice_get (v ∷ before) i ≡ Some u → (x : BookView) × (slice_get (w ∷ after) i ≡ Some x) × MayBeClosed u x
closed_at v w before after (x, is, closed) rest zero u at = (x, is, subst (λ y. MayBeClosed y x) (same_Some v u at) closed)
closed_at v w before after first rest (suc i) u at = rest.1 i u at

-- one book more in front
closed_more : (v w : BookView) (before after : List BookView) → ((x : BookView) × (Some w ≡ Some x) × MayBeClosed v x) →
    MayBeClosedEach before after → MayBeClosedEach (v ∷ before) (w ∷ after)
closed_more v w before after first rest = (omega (arith, rest.0), closed_at v w before after first rest)

-- what may have closed in either part may have closed in both
pub closed_both : (one one' more more' : List BookView) → MayBeClosedEach one one' → MayBeClosedEach more more' →
    MayBeClosedEach (one ++ more) (one' ++ more')
closed_both [] [] more more' a b = b
closed_both [] (w ∷ ws) more more' a b = absurd (omega (arith, a.0))
closed_both (v ∷ vs) [] more more' a b = absurd (omega (arith, a.0))
closed_both (v ∷ vs) (w ∷ ws) more more' a b =
    closed_more v w (vs ++ more) (ws ++ more') (a.1 zero v refl) (closed_both vs ws more more' (omega (arith, a.0), λ i u at. a.1 (suc i) u at) b)

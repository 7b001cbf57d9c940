-- Books that closed the next layer ahead, among those of a search.
use Rattle.std.proofs.Common.{List, inl, inr, refl, sym, ap, subst, ◌∙◌}
use Rattle.std.proofs.lemmas.Bool.{false≢true}
use Rattle.layers.specs.BookView.{BookView}
use Rattle.layers.specs.Books.{AllDone}
use Rattle.solo.specs.inside.Iterations.{HaveChanged}
use Rattle.solo.specs.inside.Rests.{HasClosed, IsClosedIfDone, MayBeClosed, MayBeClosedEach}
use Rattle.solo.specs.inside.Together.{AreAllDone}

-- a book whose ranks are all done closes the next layer ahead, or with the rest
once : (v u w : BookView) → AllDone v → MayBeClosed v u → IsClosedIfDone u w → HasClosed v w
once v u w all (inl same) (inl (not_all, kept)) = absurd (not_all (subst AllDone (sym same) all))
once v u w all (inl same) (inr closed) = subst (λ x. HasClosed x w) same closed
once v u w all (inr closed) (inl (not_all, kept)) = subst (HasClosed v) (sym kept) closed
once v u w all (inr closed) (inr again) =
    absurd (false≢true (sym (ap (λ (x : BookView). x.begun) closed.1.1.2) ∙ again.1.0.0))

-- and so does each of several books
pub all_closed : (lent books after : List BookView) → AreAllDone lent → MayBeClosedEach lent books →
    HaveChanged IsClosedIfDone books after → HaveChanged HasClosed lent after
all_closed lent books after done (same, ahead) (kept, rest) = (
  kept ∙ same,
  λ i v at. (let u = ahead i v at in let w = rest i u.0 u.1 in (w.0, w.1, once v u.0 w.0 (done i v at) u.2 w.2)),
)

-- the books as they are before any has closed the next layer
pub none_closed : (books : List BookView) → MayBeClosedEach books books
none_closed books = (refl, λ i v at. (v, at, inl refl))

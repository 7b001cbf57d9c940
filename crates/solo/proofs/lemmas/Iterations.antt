-- From one iteration of a search to the next, and what follows from a book that is over.
use Rattle.std.proofs.Common.{◌≡◌, ℕ, suc, ◌≤◌, true, false, List, [], ◌∷◌, ◌++◌, length, get_or, Some, refl, sym, ap, subst, ◌∙◌, arith}
use Rattle.std.specs.Prelude.{slice_get}
use Rattle.std.proofs.lemmas.List.{length-append, length-map}
use Rattle.std.proofs.lemmas.Option.{none-some, same_Some, slice_get-get_or, slice_get_within}
use Rattle.successors.specs.Problems.{Problem}
use Rattle.grid.specs.Lawful.{IsLevel}
use Rattle.grid.specs.declared.square.Push.{Push}
use Rattle.store.specs.Entries.{Origin}
use Rattle.successors.specs.Reaching.{IsLayerOf}
use Rattle.layers.specs.LayerView.{LayerView}
use Rattle.layers.specs.BookView.{BookView, IsLawfulBook}
use Rattle.successors.specs.Distances.{IsAtDistance}
use Rattle.layers.specs.Books.{AreAllShares, IsJoinOf, IsNewBook, MayBegin, with_begun}
use Rattle.layers.proofs.lemmas.Shares.{closed_upto}
use Rattle.solo.specs.Answers.{IsAnswer}
use Rattle.solo.specs.inside.Searched.{IsNextLayer, IsLookedAt, SearchView, new_search, places_by_layer, with_layer}
use Rattle.solo.specs.inside.Iterations.{AreBetweenLayers, AreDealt, AreWorkingOn, HaveBegun, HaveChanged, IsDealtBook, IsWorkingOn}
use Rattle.solo.specs.inside.Rests.{HasClosed}
use Rattle.solo.specs.declared.answer.Answer.TheVariants.{Limit}
use Rattle.solo.proofs.ReadingBack.{trail_long}
use Rattle.solo.proofs.Solving.{none_searched, searched_bound}

-- which book each of several books was before they changed
pub back_to : (After : BookView → BookView → Type 0) (before after : List BookView) → HaveChanged After before after → (i : ℕ) (w : BookView) →
    slice_get after i ≡ Some w → (v : BookView) × (slice_get before i ≡ Some v) × After v w
back_to After before after (same, each) i w at =
    let v = get_or before i w in
    let there : slice_get before i ≡ Some v = slice_get-get_or before i w (omega (arith, slice_get_within after i w at, same)) in
    let x = each i v there in
    (v, there, subst (After v) (same_Some x.0 w (sym x.1 ∙ at)) x.2)

-- before a search nothing was looked at
pub none_looked : (problem : Problem) (limit : ℕ) → IsLookedAt problem limit [] 0
none_looked problem limit = record {
  layers = [];
  trailed = record { each = λ j layer at. absurd (none-some layer at); shown = refl };
  searched = none_searched problem;
  count = refl;
  within = omega arith;
}

-- new books are before the first iteration
pub first_iteration : (problem : Problem) (limit workers shares : ℕ) (books : List BookView) → length books ≡ shares →
    ((i : ℕ) (v : BookView) → slice_get books i ≡ Some v → IsNewBook problem limit workers i shares v) →
    AreBetweenLayers (new_search problem limit) workers shares books
first_iteration problem limit workers shares books all new = record {
  dealt = record { all = all; each = λ i v at. (new i v at).made_with };
  paused = λ i v at. ((new i v at).begun, ap length (new i v at).closed.1);
}

-- ---- between two iterations

-- the books can be joined
pub all_shares : (s : SearchView) (workers shares : ℕ) (books : List BookView) → 1 ≤ shares → AreBetweenLayers s workers shares books → AreAllShares books
all_shares s workers shares [] some between = absurd (omega (arith, between.dealt.all))
all_shares s workers shares (first ∷ books) some between =
    let d = between.dealt.each 0 first refl in record {
      first = first;
      head = refl;
      all = between.dealt.all ∙ sym d.4;
      each = λ i v at. (let e = between.dealt.each i v at in (
        e.3,
        e.0 ∙ sym d.0,
        e.1 ∙ sym d.1,
        e.4 ∙ sym d.4,
        (between.paused i v at).1 ∙ sym (between.paused 0 first refl).1,
      ));
    }

-- the layer that they have closed last comes next
pub next_of : (s : SearchView) (workers shares : ℕ) (books : List BookView) (layer : LayerView) → 1 ≤ shares →
    AreBetweenLayers s workers shares books → IsJoinOf books layer → IsNextLayer s layer
next_of s workers shares [] layer some between join = absurd (omega (arith, between.dealt.all))
next_of s workers shares (first ∷ books) layer some between join =
    let last = join.1 first refl in (last.0 ∙ (between.dealt.each 0 first refl).0, omega (arith, last.1, (between.paused 0 first refl).1))

-- and each of them may begin it
pub may_begin : (s : SearchView) (workers shares : ℕ) (books : List BookView) (layer : LayerView) → AreBetweenLayers s workers shares books →
    IsNextLayer s layer → (i : ℕ) (v : BookView) → slice_get books i ≡ Some v → MayBegin v layer
may_begin s workers shares books layer between next i v at =
    (next.0 ∙ sym (between.dealt.each i v at).0, omega (arith, next.1, (between.paused i v at).1), (between.paused i v at).0)

-- then they are at work on it
pub at_work : (s : SearchView) (workers shares : ℕ) (books after : List BookView) (ranks : ℕ) (layer : LayerView) →
    AreBetweenLayers s workers shares books → IsNextLayer s layer → HaveBegun books ranks after →
    AreDealt s.problem s.limit workers shares after × AreWorkingOn layer after
at_work s workers shares books after ranks layer between next begun = (
  record {
    all = begun.0 ∙ between.dealt.all;
    each = λ i w at. (let b = from i w at in subst (IsDealtBook s.problem s.limit workers shares i) (sym b.2) (between.dealt.each i b.0 b.1));
  },
  λ i w at. (let b = from i w at in subst (IsWorkingOn layer) (sym b.2) (working i b.0 b.1)),
)
  where
    from : (i : ℕ) (w : BookView) → slice_get after i ≡ Some w → (v : BookView) × (slice_get books i ≡ Some v) × (w ≡ with_begun v ranks)
    from i w at = back_to (λ v x. x ≡ with_begun v ranks) books after begun i w at

    working : (i : ℕ) (v : BookView) → slice_get books i ≡ Some v → IsWorkingOn layer (with_begun v ranks)
    working i v at = (
      (
        (may_begin s workers shares books layer between next i v at).0,
        (may_begin s workers shares books layer between next i v at).1,
        refl,
      ),
      omega (arith, next.1, (between.paused i v at).1),
    )

-- once they have closed the next layer, the books are between two iterations again
pub goes_on : (s : SearchView) (workers shares : ℕ) (before after : List BookView) (layer : LayerView) → IsNextLayer s layer →
    AreDealt s.problem s.limit workers shares before → AreWorkingOn layer before → HaveChanged HasClosed before after →
    AreBetweenLayers (with_layer s layer) workers shares after
goes_on s workers shares before after layer next dealt working closed = record {
  dealt = record { all = closed.0 ∙ dealt.all; each = λ i w at. (through i w at).0 };
  paused = λ i w at. ((through i w at).1, (through i w at).2);
}
  where
    through : (i : ℕ) (w : BookView) → slice_get after i ≡ Some w → IsDealtBook s.problem s.limit workers shares i w × (w.begun ≡ false)
        × (length w.closed ≡ suc (length (s.trail ++ layer.origins ∷ [])))
    through i w at =
        let (v, there, (report, (all, (es, sorted, is, number, count)))) = back_to HasClosed before after closed i w at in
        subst (λ x. IsDealtBook s.problem s.limit workers shares i x × (x.begun ≡ false) × (length x.closed ≡ suc (length (s.trail ++ layer.origins ∷ [])))) (sym is) (
          dealt.each i v there,
          refl,
          omega (arith, length-append v.closed (es ∷ []), (working i v there).1, next.1, length-append s.trail (layer.origins ∷ [])),
        )

-- where a book is over, and the layers that it has closed were looked at, the answer is the limit
pub over_limit : (problem : Problem) (limit positions : ℕ) (trail : List (List (Origin Push))) (book : BookView) → IsLookedAt problem limit trail positions →
    IsLawfulBook book → book.level ≡ problem → book.limit ≡ limit → book.over ≡ true → length book.closed ≡ length trail → IsAnswer problem limit Limit
over_limit problem limit positions trail book looked lawful level same over long =
    let layers = looked.layers in
    let p = (lawful.over over).0 in
    let searched = looked.searched in
    let lists : length (places_by_layer layers) ≡ length book.closed = length-map layers (λ (x : LayerView). x.places) ∙ trail_long problem layers trail looked.trailed
    ∙ sym long in record {
      layers = places_by_layer layers;
      are = searched.are;
      more = p.places;
      distinct = p.distinct;
      next = λ n i. subst (λ k. IsAtDistance problem n k) (sym lists) (subst (λ b. IsAtDistance b n (length book.closed)) level (p.next n i).1);
      passed = omega (
        arith,
        same,
        p.passed,
        closed_upto book lawful (places_by_layer layers) (λ j xs at. subst (λ b. IsLayerOf b j xs) (sym level) (searched.are j xs at)) (omega (arith, lists)),
      );
      unsolved = searched_bound problem (places_by_layer layers) (subst (λ (t : Problem). IsLevel t.board) level lawful.level) searched;
    }

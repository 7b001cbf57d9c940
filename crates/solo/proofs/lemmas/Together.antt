-- Books that pass the limit together, and books after an error.
use Rattle.std.proofs.Common.{◌≡◌, ℕ, suc, ◌<◌, ◌≤◌, List, [], ◌∷◌, ◌++◌, length, inl, inr, refl, sym, ap, subst, ◌∙◌, arith}
use Rattle.std.proofs.lemmas.List.{length-append, length-map}
use Rattle.grid.specs.Lawful.{IsLevel}
use Rattle.grid.specs.declared.square.Push.{Push}
use Rattle.successors.specs.Problems.{Problem}
use Rattle.store.specs.Entries.{Origin}
use Rattle.successors.specs.Reaching.{AreLayersOf, IsLayerOf}
use Rattle.layers.specs.LayerView.{LayerView}
use Rattle.successors.specs.Distances.{IsAtDistance}
use Rattle.layers.specs.BookView.{BookView, AreLawfulBooks}
use Rattle.layers.specs.Books.{AreAllShares}
use Rattle.layers.specs.Holding.{all_held}
use Rattle.layers.proofs.lemmas.Holdings.{held_all}
use Rattle.solo.specs.Answers.{IsAnswer}
use Rattle.solo.specs.inside.Searched.{IsNextLayer, IsExamined, IsLookedAt, SearchView, places_by_layer}
use Rattle.solo.specs.inside.Iterations.{AreDealt, AreWorkingOn}
use Rattle.solo.specs.inside.Together.{AreStill, IsStill, PassTogether}
use Rattle.solo.specs.declared.answer.Answer.TheVariants.{Limit}
use Rattle.solo.proofs.ReadingBack.{trail_long}
use Rattle.solo.proofs.Solving.{searched_bound}
use Rattle.solo.proofs.lemmas.Iterations.{back_to, over_limit}

-- where the books of all shares hold more positions together than the limit, and the layers that they have closed were looked
-- at, the answer is the limit
pub more_limit : (problem : Problem) (limit positions : ℕ) (trail : List (List (Origin Push))) (books : List BookView) (all : AreAllShares books) →
    IsLookedAt problem limit trail positions → AreLawfulBooks books → all.first.level ≡ problem → length all.first.closed ≡ length trail → limit < all_held books →
    IsAnswer problem limit Limit
more_limit problem limit positions trail books all looked lawful level long more =
    let layers = looked.layers in
    let searched = looked.searched in
    let lists : length (places_by_layer layers) ≡ length all.first.closed = length-map layers (λ (x : LayerView). x.places)
    ∙ trail_long problem layers trail looked.trailed ∙ sym long in
    let are : AreLayersOf all.first.level (places_by_layer layers) = λ j xs at. subst (λ b. IsLayerOf b j xs) (sym level) (searched.are j xs at) in
    let h = held_all books all lawful (places_by_layer layers) are lists in
    record {
      layers = places_by_layer layers;
      are = searched.are;
      more = h.1.places;
      distinct = h.1.distinct;
      next = λ n i. subst (λ k. IsAtDistance problem n k) (sym lists) (subst (λ b. IsAtDistance b n (length all.first.closed)) level (h.1.away n i));
      passed = omega (arith, more, h.2, h.1.count);
      unsolved = searched_bound problem (places_by_layer layers) (subst (λ (t : Problem). IsLevel t.board) level (lawful 0 all.first all.head).level) searched;
    }

-- books that are dealt and at work on one layer are all the shares
dealt_shares : (problem : Problem) (limit workers shares : ℕ) (books : List BookView) (layer : LayerView) → 1 ≤ shares →
    AreDealt problem limit workers shares books → AreWorkingOn layer books → (all : AreAllShares books) × (all.first.level ≡ problem)
    × (length all.first.closed ≡ suc layer.number)
dealt_shares problem limit workers shares [] layer some dealt working = absurd (omega (arith, dealt.all))
dealt_shares problem limit workers shares (first ∷ books) layer some dealt working =
    let d = dealt.each 0 first refl in (
      record {
        first = first;
        head = refl;
        all = dealt.all ∙ sym d.4;
        each = λ i v at. (let e = dealt.each i v at in (e.3, e.0 ∙ sym d.0, e.1 ∙ sym d.1, e.4 ∙ sym d.4, (working i v at).1 ∙ sym (working 0 first refl).1));
      },
      d.0,
      (working 0 first refl).1,
    )

-- where books at work pass the limit together, and their layer was looked at, the answer is the limit
pub together_limit : (s : SearchView) (workers shares : ℕ) (books : List BookView) (layer : LayerView) → 1 ≤ shares → IsNextLayer s layer →
    IsExamined s layer → AreDealt s.problem s.limit workers shares books → AreWorkingOn layer books → PassTogether s.limit books → IsAnswer s.problem s.limit Limit
together_limit s workers shares books layer some next examined dealt working (lawful, passed) = elim passed [
  | inl over ↦ (let i = over.0 in let v = over.1 in let d = dealt.each i v over.2 in
      over_limit s.problem s.limit _ (s.trail ++ layer.origins ∷ []) v examined.looked (lawful i v over.2) d.0 d.1 over.3
      (omega (arith, (working i v over.2).1, next.1, length-append s.trail (layer.origins ∷ []))))
  | inr more ↦ (let a = dealt_shares s.problem s.limit workers shares books layer some dealt working in
      more_limit s.problem s.limit _ (s.trail ++ layer.origins ∷ []) books a.0 examined.looked lawful a.1
      (omega (arith, a.2, next.1, length-append s.trail (layer.origins ∷ []))) more)
]

-- ---- books that are still at work

-- each is at work on the layer
pub still_working : (layer : LayerView) (before after : List BookView) → AreWorkingOn layer before → AreStill layer before after → AreWorkingOn layer after
still_working layer before after working still i u at =
    let b = back_to (IsStill layer) before after still i u at in
    (b.2.2, ap length b.2.1 ∙ (working i b.0 b.1).1)

-- and dealt as before
pub still_dealt : (problem : Problem) (limit workers shares : ℕ) (layer : LayerView) (before after : List BookView) → AreDealt problem limit workers shares before →
    AreStill layer before after → AreDealt problem limit workers shares after
still_dealt problem limit workers shares layer before after dealt still = record {
  all = still.0 ∙ dealt.all;
  each = λ i u at. (let b = back_to (IsStill layer) before after still i u at in
      let d = dealt.each i b.0 b.1 in
      let a = b.2.0 in
      (sym a.0 ∙ d.0, sym a.1 ∙ d.1, sym a.2 ∙ d.2, sym a.3 ∙ d.3, sym a.4 ∙ d.4));
}

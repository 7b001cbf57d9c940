-- The result of a look at the next layer.
use Rattle.std.proofs.Common.{◌≡◌, ℕ, ◌+◌, ◌<◌, ◌≤◌, List, [], ◌∷◌, ◌++◌, length, Some, inl, inr, sym, ap, subst, ◌∙◌}
use Rattle.std.proofs.Common.{arith}
use Rattle.std.specs.Prelude.{slice_get}
use Rattle.std.proofs.lemmas.List.{nil_from_length, length-map, map-append}
use Rattle.std.proofs.lemmas.List.Sums.{sum_by_push}
use Rattle.grid.specs.declared.moves.Letter.{Letter}
use Rattle.grid.specs.Board.{Scene}
use Rattle.grid.specs.Lawful.{IsLevel}
use Rattle.successors.specs.Problems.{Problem}
use Rattle.grid.specs.declared.square.Push.{Push}
use Rattle.store.specs.Entries.{Origin}
use Rattle.successors.specs.Reaching.{IsLayerOf, total}
use Rattle.layers.specs.LayerView.{LayerView, IsWhole}
use Rattle.successors.proofs.lemmas.Lists.{at-push}
use Rattle.solo.specs.Answers.{HasNone, IsAnswer}
use Rattle.solo.specs.Leads.{AreUnsolved, IsFirstSolved, WritesLead}
use Rattle.solo.specs.inside.Searched.{AreSearched, AreTrailed, IsNextLayer, IsExamined, IsLookedAt, SearchView}
use Rattle.solo.specs.inside.Searched.{places_by_layer}
use Rattle.solo.specs.declared.answer.Answer.TheVariants.{Solved, Limit}
use Rattle.solo.proofs.ReadingBack.{trail_long}
use Rattle.solo.proofs.Solving.{searched_more, solved_answer, none_answer, limit_answer}

-- the next layer is that of the level
next_layer : (problem : Problem) (layers : List LayerView) (trail : List (List (Origin Push))) (layer : LayerView) →
    AreTrailed problem layers trail → layer.level ≡ problem → layer.number ≡ length trail → IsWhole layer →
    IsLayerOf problem (length (places_by_layer layers)) layer.places
next_layer problem layers trail layer trailed level next whole =
    subst (λ k. IsLayerOf problem k layer.places) (next ∙ sym (trail_long problem layers trail trailed) ∙ sym (length-map layers (λ (x : LayerView). x.places)))
    (subst (λ b. IsLayerOf b layer.number layer.places) level whole.layer)

-- with it the layers are a trail
trailed_more : (problem : Problem) (layers : List LayerView) (trail : List (List (Origin Push))) (layer : LayerView) →
    AreTrailed problem layers trail → layer.level ≡ problem → layer.number ≡ length trail → IsWhole layer →
    AreTrailed problem (layers ++ layer ∷ []) (trail ++ layer.origins ∷ [])
trailed_more problem layers trail layer trailed level next whole = record {
  each = λ j l at. elim (at-push layers layer j l at) [
    | inl old ↦ trailed.each j l old
    | inr new ↦ (
      ap (λ (x : LayerView). x.level) new.1 ∙ level,
      ap (λ (x : LayerView). x.number) new.1 ∙ next ∙ sym (trail_long problem layers trail trailed) ∙ sym new.0,
      subst IsWhole (sym new.1) whole,
    )
  ];
  shown =
      map-append (λ (x : LayerView). x.origins) layers (layer ∷ []) ∙ ap (λ (xs : List (List (Origin Push))). xs ++ layer.origins ∷ []) trailed.shown;
}

-- ---- what the layer that comes next gives

module _ (s : SearchView) (layer : LayerView) (looked : IsLookedAt s.problem s.limit s.trail s.positions)
    (next : IsNextLayer s layer) (whole : IsWhole layer) where
  abbrev layers : List LayerView
  layers = looked.layers

  here : IsLayerOf s.problem (length (places_by_layer layers)) layer.places
  here = next_layer s.problem layers s.trail layer looked.trailed next.0 next.1 whole

  level : IsLevel s.problem.board
  level = subst (λ (t : Problem). IsLevel t.board) next.0 whole.lawful

  -- its first solved position gives the answer
  pub solved_here : (rank : ℕ) (letters : List Letter) → IsFirstSolved layer.level.board layer.places rank →
      ((n : Scene) → slice_get layer.places rank ≡ Some n → WritesLead layer.level.board n letters) →
      s.positions + length layer.places ≤ s.limit →
      IsAnswer s.problem s.limit (Solved letters layer.number (s.positions + length layer.places))
  solved_here rank letters first lead within =
      let first_here : IsFirstSolved s.problem.board layer.places rank =
      subst (λ (t : Problem). IsFirstSolved t.board layer.places rank) next.0 first in
      let writes = subst (λ (t : Problem). WritesLead t.board first_here.place letters) next.0
      (lead first_here.place first_here.there) in
      subst (λ p. IsAnswer s.problem s.limit (Solved letters layer.number p)) (omega (arith, looked.count))
      (subst (λ k. IsAnswer s.problem s.limit (Solved letters k (total (places_by_layer layers) + length layer.places)))
      (length-map layers (λ (x : LayerView). x.places) ∙ trail_long s.problem layers s.trail looked.trailed ∙ sym next.1)
      (solved_answer s.problem (places_by_layer layers) level looked.searched layer.places here rank first_here.place
      first_here first_here.there letters writes s.limit (omega (arith, looked.count, within))))

  -- with it the count passes the limit
  pub look_limit : s.limit < s.positions + length layer.places → IsAnswer s.problem s.limit Limit
  look_limit passed = limit_answer s.problem (places_by_layer layers) level looked.searched layer.places here s.limit
      (omega (arith, looked.count, passed))

  -- it is empty
  pub look_none : length layer.places ≡ 0 → HasNone s.problem s.limit (s.positions + length layer.places)
  look_none none =
      let same : total (places_by_layer layers) ≡ s.positions + length layer.places = omega (arith, looked.count, none) in
      let empty = subst (IsLayerOf s.problem (length (places_by_layer layers))) (nil_from_length layer.places none) here in
      subst (HasNone s.problem s.limit) same (none_answer s.problem (places_by_layer layers) level looked.searched empty
      s.limit (omega (arith, looked.count, looked.within)))

  -- it gives no answer
  pub look_on : 1 ≤ length layer.places → AreUnsolved layer.level.board layer.places →
      s.positions + length layer.places ≤ s.limit → IsExamined s layer
  look_on filled unsolved within = record {
    looked = record {
      layers = layers ++ layer ∷ [];
      trailed = trailed_more s.problem layers s.trail layer looked.trailed next.0 next.1 whole;
      searched =
          subst (AreSearched s.problem) (sym places) (searched_more s.problem (places_by_layer layers) layer.places looked.searched here filled
          (subst (λ (t : Problem). AreUnsolved t.board layer.places) next.0 unsolved));
      count = counted;
      within = within;
    };
    filled = filled;
  }
    where
      places : places_by_layer (layers ++ layer ∷ []) ≡ places_by_layer layers ++ layer.places ∷ []
      places = map-append (λ (x : LayerView). x.places) layers (layer ∷ [])

      counted : s.positions + length layer.places ≡ total (places_by_layer (layers ++ layer ∷ []))
      counted = omega (arith, looked.count, ap total places, sum_by_push length (places_by_layer layers) layer.places)

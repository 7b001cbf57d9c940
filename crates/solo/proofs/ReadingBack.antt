-- A lead is read back through the layers, from its last push to its first.
use Rattle.std.proofs.Common.{◌≡◌, ℕ, zero, suc, ◌+◌, ◌-◌, ◌<◌, ◌≤◌, inl, inr, List, [], ◌∷◌, ◌++◌, length, map}
use Rattle.std.proofs.Common.{reverse, get_or, Option, Some, None, option_map, refl, sym, ap, subst, ◌∙◌, append_assoc}
use Rattle.std.proofs.Common.{append-nil, arith}
use Rattle.std.proofs.lemmas.Bool.{cases_lt}
use Rattle.std.proofs.lemmas.Option.{same_Some, none-some, slice_get-map, slice_get_read, slice_get_within}
use Rattle.std.proofs.lemmas.Option.{slice_get-get_or}
use Rattle.std.proofs.lemmas.List.{length-map, reverse-append}
use Rattle.std.specs.Prelude.{slice_get, slice_index_or}
use Rattle.grid.specs.declared.square.Push.{Push}
use Rattle.grid.specs.declared.moves.Letter.{Letter}
use Rattle.grid.specs.Board.{Board, Scene}
use Rattle.grid.proofs.lemmas.Plays.{play_any}
use Rattle.successors.specs.Problems.{Problem}
use Rattle.layers.specs.LayerView.{LayerView, IsWhole}
use Rattle.store.specs.Entries.{Origin}
use Rattle.successors.specs.Reaching.{IsLayerOf}
use Rattle.layers.specs.Leads.{IsLeadOf}
use Rattle.layers.specs.Origins.{HasOrigin}
use Rattle.solo.specs.Leads.{AreFirstLayers, WritesLead, places_or_none, last_places, level_of}
use Rattle.solo.specs.inside.Searched.{AreTrailed, IsNextOf}
use Rattle.solo.specs.inside.LeadsBack.{IsLeadAt, IsOriginAt, IsReadBack}
use Rattle.successors.specs.LeastPlays.{ArePlayed, WritesLeastPlay}
use Rattle.successors.proofs.lemmas.LeastPlays.{least_written, none_lesser}

abbrev nowhere : Scene
nowhere = record { boxes = []; player = 0 }

-- what a rank below the length of a list has
there_is : (places : List Scene) (rank : ℕ) → rank < length places → (m : Scene) × (slice_get places rank ≡ Some m)
there_is places rank lt = (get_or places rank nowhere, slice_get-get_or places rank nowhere lt)

-- where a list has nothing it has ended
pub ended : {A : Type 0} (xs : List A) (i : ℕ) → slice_get xs i ≡ None → length xs ≤ i
ended [] i e = omega arith
ended (x ∷ xs) zero e = absurd (none-some x (sym e))
ended (x ∷ xs) (suc i) e = let r = ended xs i e in omega arith

empty : (ps : List Push) → length ps ≡ 0 → ps ≡ []
empty [] e = refl
empty (p ∷ ps) e = absurd (omega arith)

-- a position of a later layer has an origin
origin_there : (layer : LayerView) (k : ℕ) → IsWhole layer → layer.number ≡ suc k → (rank : ℕ) →
    rank < length layer.places → slice_get layer.origins rank ≡ None → ⊥
origin_there layer k whole number rank lt none =
    let have = (whole.later k number).each in
    let past = ended layer.origins rank none in
    omega arith

-- which leads back to the layer before
origin_at : (before layer : LayerView) → IsWhole before → IsWhole layer → before.level ≡ layer.level →
    layer.number ≡ suc before.number → (rank : ℕ) → rank < length layer.places → (o : Origin Push) →
    slice_get layer.origins rank ≡ Some o → IsOriginAt layer.level before.places layer.places rank o
origin_at before layer whole_before whole level number rank lt o at =
    let m = there_is layer.places rank lt in
    let origin : HasOrigin layer.level before.number m.0 o = (whole.later before.number number).right rank m.0 o m.1 at in
    let x = origin before.places
    (subst (λ (problem : Problem). IsLayerOf problem before.number before.places) level whole_before.layer) in
    record { place = m.0; there = m.1; parent = x.0; parent_there = x.1; lead = x.2 }

-- nothing is read yet
read_begins : (layers : List LayerView) (problem : Problem) (rank : ℕ) → rank < length (last_places layers) →
    IsReadBack layers problem rank (length layers - 1) rank []
read_begins layers problem rank lt = by (slice_get layers (length layers - 1)) refl
  where
    by : (o : Option LayerView) → slice_get layers (length layers - 1) ≡ o →
        IsReadBack layers problem rank (length layers - 1) rank []
    by None e = absurd (let none = ap (λ (o : Option LayerView). length (places_or_none o)) e in omega arith)
    by (Some layer) e =
        let same : last_places layers ≡ layer.places = ap places_or_none e in
        let long = ap (λ (xs : List Scene). length xs) same in
        let m = there_is layer.places rank (omega arith) in
        record {
          layer = layer;
          in_layer = e;
          place = m.0;
          there = m.1;
          end = m.0;
          asked_for = ap (λ (xs : List Scene). slice_get xs rank) same ∙ m.1;
          lead = λ ps lead. subst (IsLeadOf problem.board m.0) (sym (append-nil ps)) lead;
        }

-- one push more is read
read_on : (layers : List LayerView) (problem : Problem) (asked number lower rank : ℕ) (late : List Push) →
    IsReadBack layers problem asked number rank late → (before layer : LayerView) →
    slice_get layers lower ≡ Some before → slice_get layers number ≡ Some layer → (o : Origin Push) →
    IsOriginAt problem before.places layer.places rank o → IsReadBack layers problem asked lower o.0 (o.1 ∷ late)
read_on layers problem asked number lower rank late r before layer at_before at_layer o origin =
    let same : r.layer ≡ layer = same_Some r.layer layer (sym r.in_layer ∙ at_layer) in
    let there : slice_get layer.places rank ≡ Some r.place = subst (λ (l : LayerView). slice_get l.places rank ≡ Some r.place) same r.there in
    let place : origin.place ≡ r.place = same_Some origin.place r.place (sym origin.there ∙ there) in
    record {
      layer = before;
      in_layer = at_before;
      place = origin.parent;
      there = origin.parent_there;
      end = r.end;
      asked_for = r.asked_for;
      lead = λ ps lead. subst (IsLeadOf problem.board r.end) (append_assoc ps (o.1 ∷ []) late)
          (r.lead (ps ++ o.1 ∷ []) (subst (λ (m : Scene). IsLeadOf problem.board m (ps ++ o.1 ∷ [])) place (origin.lead ps lead)));
    }

module _ (problem : Problem) (layers : List LayerView) (trail : List (List (Origin Push)))
    (trailed : AreTrailed problem layers trail) where
  -- the layers of a trail are as many as it has lists
  pub trail_long : length layers ≡ length trail
  trail_long = sym (length-map layers (λ (x : LayerView). x.origins)) ∙
      ap (λ (xs : List (List (Origin Push))). length xs) trailed.shown

  -- what it has of a layer
  trail_at : (k : ℕ) (layer : LayerView) → slice_get layers k ≡ Some layer → slice_get trail k ≡ Some layer.origins
  trail_at k layer at =
      ap (λ (xs : List (List (Origin Push))). slice_get xs k) (sym trailed.shown) ∙
      slice_get-map (λ (x : LayerView). x.origins) layers k ∙ ap (option_map (λ (x : LayerView). x.origins)) at

  -- a position of a later layer that was come to has an origin, and one push more is read
  read_origin : (asked k rank : ℕ) (read : List Push) → 1 ≤ k → IsReadBack layers problem asked k rank (reverse read) →
      (list : List (Origin Push)) → slice_get trail k ≡ Some list → (found : Option (Origin Push)) →
      found ≡ slice_get list rank →
      (o : Origin Push) × (found ≡ Some o) × IsReadBack layers problem asked (k - 1) o.0 (reverse (read ++ o.1 ∷ []))
  read_origin asked k rank read later r list at found is = by found refl
    where
      layer : LayerView
      layer = r.layer

      within : k < length layers
      within = slice_get_within layers k layer r.in_layer

      before : LayerView
      before = get_or layers (k - 1) layer

      at_before : slice_get layers (k - 1) ≡ Some before
      at_before = slice_get-get_or layers (k - 1) layer (omega (arith, within))

      number : layer.number ≡ suc before.number
      number = omega (arith, (trailed.each k layer r.in_layer).1, (trailed.each (k - 1) before at_before).1)

      whole : IsWhole layer
      whole = (trailed.each k layer r.in_layer).2

      lt : rank < length layer.places
      lt = slice_get_within layer.places rank r.place r.there

      here : found ≡ slice_get layer.origins rank
      here = is ∙ ap (λ (xs : List (Origin Push)). slice_get xs rank)
          (same_Some list layer.origins (sym at ∙ trail_at k layer r.in_layer))

      by : (o : Option (Origin Push)) → found ≡ o → (o : Origin Push) × (found ≡ Some o) ×
          IsReadBack layers problem asked (k - 1) o.0 (reverse (read ++ o.1 ∷ []))
      by None e = absurd (origin_there layer before.number whole number rank lt (sym here ∙ e))
      by (Some o) e =
          let level = (trailed.each k layer r.in_layer).0 in
          let own = trailed.each (k - 1) before at_before in
          let origin = origin_at before layer own.2 whole (own.0 ∙ sym level) number rank lt o (sym here ∙ e) in
          let next = read_on layers problem asked k (k - 1) rank (reverse read) r before layer at_before r.in_layer o
          (subst (λ (b : Problem). IsOriginAt b before.places layer.places rank o) level origin) in
          (o, e, subst (IsReadBack layers problem asked (k - 1) o.0) (sym (reverse-append read (o.1 ∷ []))) next)

  -- in layer 0 all is read
  pub read_done : (asked k rank : ℕ) (late : List Push) → k ≡ 0 → IsReadBack layers problem asked k rank late →
      IsLeadAt problem (last_places layers) asked late
  read_done asked k rank late none r =
      let own = (layer_0.leads rank r.place r.there).1 in record {
        place = r.end;
        there = r.asked_for;
        lead = r.lead [] (subst (IsLeadOf problem.board r.place) (empty own.0 own.2) own.1);
      }
    where
      here : (r.layer.level ≡ problem) × (r.layer.number ≡ k) × IsWhole r.layer
      here = trailed.each k r.layer r.in_layer

      layer_0 : IsLayerOf problem 0 r.layer.places
      layer_0 = subst (λ (n : ℕ). IsLayerOf problem n r.layer.places) (here.1 ∙ none)
          (subst (λ (b : Problem). IsLayerOf b r.layer.number r.layer.places) here.0 here.2.layer)

-- for each type that has origins
module _ {P : Type 0} (origins : P → List (Origin Push)) (trail : List P) (problem : Problem) (layers : List LayerView)
    (trailed : AreTrailed problem layers (map origins trail)) (asked : ℕ) where
  -- before the first look nothing is read
  pub read_first : asked < length (last_places layers) →
      IsReadBack layers problem asked (length trail - 1) asked (reverse [])
  read_first lt = subst (λ (n : ℕ). IsReadBack layers problem asked (n - 1) asked [])
      (trail_long problem layers (map origins trail) trailed ∙ length-map trail origins)
      (read_begins layers problem asked lt)

  module _ (number rank : ℕ) (read : List Push) (more : 1 < number) (within : number ≤ length trail)
      (r : IsReadBack layers problem asked (number - 1) rank (reverse read)) (p : P)
      (is : p ≡ slice_index_or trail (number - 1) p) (found : Option (Origin Push))
      (told : found ≡ slice_get (origins p) rank) where
    looked : (o : Origin Push) × (found ≡ Some o) ×
        IsReadBack layers problem asked ((number - 1) - 1) o.0 (reverse (read ++ o.1 ∷ []))
    looked = read_origin problem layers (map origins trail) trailed asked (number - 1) rank read (omega (arith, more)) r
        (origins p) (slice_get-map origins trail (number - 1) ∙ ap (option_map origins)
        (slice_get_read trail (length trail) (number - 1) p refl (omega (arith, more, within)) is)) found told

    -- a look at the parents of the layer that was come to reads one push more
    pub read_some : (after : List Push) (o : Origin Push) → found ≡ Some o → after ≡ read ++ o.1 ∷ [] →
        IsReadBack layers problem asked ((number - 1) - 1) o.0 (reverse after)
    read_some after o some items =
        subst (λ (ps : List Push). IsReadBack layers problem asked ((number - 1) - 1) o.0 (reverse ps)) (sym items)
        (subst (λ (y : Origin Push). IsReadBack layers problem asked ((number - 1) - 1) y.0 (reverse (read ++ y.1 ∷ [])))
        (same_Some looked.0 o (sym looked.1 ∙ some)) looked.2)

    -- and finds one
    pub read_none : found ≡ None → IsReadBack layers problem asked ((number - 1) - 1) rank (reverse read)
    read_none none = absurd (none-some looked.0 (sym none ∙ looked.1))

-- some layers are whole up to a place, and the one there too
pub whole_upto : (layers : List LayerView) (index : ℕ) (here : LayerView) → index < length layers →
    here ≡ slice_index_or layers index here → IsWhole here →
    ((j : ℕ) (layer : LayerView) → j < index → slice_get layers j ≡ Some layer → IsWhole layer) →
    (j : ℕ) (layer : LayerView) → j < index + 1 → slice_get layers j ≡ Some layer → IsWhole layer
whole_upto layers index here lt is whole before j layer below at = elim (cases_lt j index) [
  | inl less ↦ before j layer less at
  | inr ge ↦ (let e : index ≡ j = omega (arith, below, ge) in
      let read = slice_get_read layers (length layers) index here refl lt is in
      subst IsWhole (same_Some here layer (sym read ∙ ap (slice_get layers) e ∙ at)) whole)
]

-- the level of the first layer
pub first_level : (layers : List LayerView) → AreFirstLayers layers → (first : LayerView) →
    first ≡ slice_index_or layers 0 first → first.level ≡ level_of layers
first_level layers are first is =
    (are.each 0 first (slice_get_read layers (length layers) 0 first refl (let some = are.some in omega (arith, some)) is)).0

-- some first layers, each of which is whole, are a trail of their own
pub own_trail : (layers : List LayerView) → AreFirstLayers layers →
    ((j : ℕ) (layer : LayerView) → slice_get layers j ≡ Some layer → IsWhole layer) →
    AreTrailed (level_of layers) layers (map (λ (x : LayerView). x.origins) layers)
own_trail layers first whole = record {
  each = λ j layer at. ((first.each j layer at).0, (first.each j layer at).1, whole j layer at);
  shown = refl;
}

-- a function that is the identity on each element is so on a list
pub told_same : {A : Type 0} (f : A → A) → ((a : A) → f a ≡ a) → (xs : List A) → map f xs ≡ xs
told_same f same [] = refl
told_same f same (x ∷ xs) = λ i. same x i ∷ told_same f same xs i

-- ---- the last layer apart from those before it

module _ (trail : List (List (Origin Push))) (layer : LayerView) (next : IsNextOf trail layer) (whole : IsWhole layer)
    (rank : ℕ) (lt : rank < length layer.places) where
  -- a position without an origin is that of layer 0
  pub back_start : slice_get layer.origins rank ≡ None → IsLeadAt layer.level layer.places rank []
  back_start none = by layer.number refl
    where
      m : (m : Scene) × (slice_get layer.places rank ≡ Some m)
      m = there_is layer.places rank lt

      by : (k : ℕ) → layer.number ≡ k → IsLeadAt layer.level layer.places rank []
      by zero e =
          let own = ((subst (λ (n : ℕ). IsLayerOf layer.level n layer.places) e whole.layer).leads rank m.0 m.1).1 in
          record { place = m.0; there = m.1; lead = subst (IsLeadOf layer.level.board m.0) (empty own.0 own.2) own.1 }
      by (suc k) e = absurd (origin_there layer k whole e rank lt none)

  -- a position with an origin has the lead of its parent, and then the push
  pub back_on : (o : Origin Push) → slice_get layer.origins rank ≡ Some o → (pushes : List Push) →
      ((problem : Problem) (layers : List LayerView) → AreTrailed problem layers trail →
      o.0 < length (last_places layers) → IsLeadAt problem (last_places layers) o.0 pushes) →
      IsLeadAt layer.level layer.places rank (pushes ++ o.1 ∷ [])
  back_on o at pushes read = by layer.number refl
    where
      layers : List LayerView
      layers = next.layers

      long : layer.number ≡ length layers
      long = next.number ∙ sym (trail_long layer.level layers trail next.trailed)

      by : (k : ℕ) → layer.number ≡ k → IsLeadAt layer.level layer.places rank (pushes ++ o.1 ∷ [])
      by zero e =
          absurd (none-some o (sym (ap (λ (xs : List (Origin Push)). slice_get xs rank) (whole.first e)) ∙ at))
      by (suc k) e =
          let before = get_or layers (length layers - 1) layer in
          let at_before = slice_get-get_or layers (length layers - 1) layer (omega (arith, long, e)) in
          let own = next.trailed.each (length layers - 1) before at_before in
          let origin = origin_at before layer own.2 whole own.0 (omega (arith, long, e, own.1)) rank lt o at in
          let last : last_places layers ≡ before.places = ap places_or_none at_before in
          let parent = slice_get_within before.places o.0 origin.parent origin.parent_there in
          let lead = read layer.level layers next.trailed
          (omega (arith, parent, ap (λ (xs : List Scene). length xs) last)) in
          let there : slice_get before.places o.0 ≡ Some lead.place =
          ap (λ (xs : List Scene). slice_get xs o.0) (sym last) ∙ lead.there in
          let same = same_Some lead.place origin.parent (sym there ∙ origin.parent_there) in
          record {
            place = origin.place;
            there = origin.there;
            lead = origin.lead pushes (subst (λ (m : Scene). IsLeadOf layer.level.board m pushes) same lead.lead);
          }

-- ---- a lead that was read

module _ (problem : Problem) (other : Board) (places : List Scene) (rank : ℕ) (ps qs : List Push)
    (level : other ≡ problem.board) (same : qs ≡ ps) (lead : IsLeadAt problem places rank ps) where
  -- is the pushes of a play
  pub lead_played : ArePlayed other qs
  lead_played =
      let reached = lead.lead.reached in
      let played : ArePlayed problem.board ps = (reached.0, reached.1, play_any reached.2) in
      subst (λ (b : Board). ArePlayed b qs) (sym level) (subst (ArePlayed problem.board) (sym same) played)

  -- so its least play is the one that is asked for
  pub lead_moves : (letters : List Letter) → ((t : Scene) × WritesLeastPlay other qs t letters) → (n : Scene) →
      slice_get places rank ≡ Some n → WritesLead problem.board n letters
  lead_moves letters w n at =
      let place : lead.place ≡ n = same_Some lead.place n (sym lead.there ∙ at) in
      let written : WritesLeastPlay problem.board ps w.0 letters =
      subst (λ (b : Board). WritesLeastPlay b ps w.0 letters) level
      (subst (λ (rs : List Push). WritesLeastPlay other rs w.0 letters) same w.1) in
      let play = least_written problem.board ps w.0 letters written in
      record {
        pushes = ps;
        lead = subst (λ (m : Scene). IsLeadOf problem.board m ps) place lead.lead;
        end = w.0;
        play = play.0;
        written = play.1;
        least = none_lesser problem.board ps w.0 letters written;
      }

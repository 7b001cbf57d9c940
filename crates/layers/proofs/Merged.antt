-- All the shares of a layer, merged by their origins, are the layer.
use Rattle.std.proofs.Common.{◌≡◌, ◌≢◌, ℕ, zero, suc, ◌+◌, ◌<◌, false, List, [], ◌∷◌, ◌++◌, length, sum, get_or, Option, Some, None, inl, inr, refl, sym, ap}
use Rattle.std.proofs.Common.{subst, ◌∙◌, arith}
use Rattle.std.proofs.lemmas.Cmp.{tied_itself}
use Rattle.std.proofs.lemmas.Nat.{mod_below}
use Rattle.std.proofs.lemmas.Option.{same_Some}
use Rattle.std.specs.Prelude.{slice_get}
use Rattle.std.specs.declared.cmp.Ordering.{Ordering}
use Rattle.std.specs.declared.cmp.Ordering.TheVariants.{Less, Equal, Greater}
use Rattle.std.specs.Ordering.{is_gt}
use Rattle.std.specs.Cmp.Lexicographic.{slice_cmp, lists_total}
use Rattle.grid.specs.declared.square.Push.{Push}
use Rattle.grid.specs.Board.{Scene, push_cmp}
use Rattle.grid.specs.Lawful.{IsLevel}
use Rattle.grid.specs.States.{FitsLevel}
use Rattle.successors.specs.Layered.{IsIn}
use Rattle.store.specs.Entries.{Origin, origin_cmp, Closed, places_of}
use Rattle.layers.specs.Openings.{IsLayered}
use Rattle.successors.specs.Expansion.{IsSuccessor}
use Rattle.successors.specs.Shares.{share_of}
use Rattle.successors.specs.Problems.{Problem}
use Rattle.successors.specs.Capping.{Admits}
use Rattle.successors.specs.Reaching.{Reaches, IsLayerOf}
use Rattle.layers.specs.Leads.{IsLeadOf}
use Rattle.layers.specs.BookView.{HasClosedOrigin, AreSharesOfLayer}
use Rattle.store.specs.FoundView.{origin_in}
use Rattle.layers.specs.inside.Merging.{IsMerged}
use Rattle.layers.proofs.lemmas.Books.{level_laws, read_at}
use Rattle.successors.proofs.lemmas.Lists.{at_map, map_at, Rises}
use Rattle.layers.proofs.lemmas.Exchange.{lead_unique}
use Rattle.layers.proofs.lemmas.Orders.{slice_cmp-snoc, less_then, equal_then, nat_cmp_less, nat_cmp_equal}
use Rattle.layers.proofs.Ordered.{taken_of, merged_all, merged_rise}

-- two positions that come from one layer, the first by a lesser origin, have leads in that order
leads_less : (problem : Problem) → IsLevel problem.board → (j : ℕ) (xs : List Scene) → IsLayerOf problem j xs → (o p : Origin Push) (n l : Scene) →
    slice_get xs o.0 ≡ Some n → slice_get xs p.0 ≡ Some l → (ps qs : List Push) → IsLeadOf problem.board n ps → IsLeadOf problem.board l qs → length ps ≡ j →
    length qs ≡ j → origin_cmp push_cmp o p ≡ Less → slice_cmp push_cmp (ps ++ o.1 ∷ []) (qs ++ p.1 ∷ []) ≡ Less
leads_less problem level j xs layer o p n l at_n at_l ps qs lead lead' long long' less =
    let laws = level_laws problem level in
    rw (slice_cmp-snoc push_cmp ps qs o.1 p.1 (long ∙ sym long'))
    (elim (nat_cmp_less o.0 p.0 (push_cmp o.1 p.1) less) [
      | inl lower ↦ less_then (slice_cmp push_cmp ps qs) (push_cmp o.1 p.1) (layer.rise o.0 p.0 n l ps qs lower at_n at_l lead lead')
      | inr w ↦ (let g : n ≡ l = same_Some n l (sym at_n ∙ ap (slice_get xs) w.0 ∙ at_l) in
          let h = lead_unique laws l ps qs (subst (λ z. IsLeadOf problem.board z ps) g lead) lead' in
          equal_then (slice_cmp push_cmp ps qs) (push_cmp o.1 p.1) (ap (λ z. slice_cmp push_cmp ps z) (sym h) ∙ tied_itself (lists_total laws.total) ps) ∙ w.1)
    ])

-- positions that come from one layer by origins that are equal are one
origins_same : (problem : Problem) → IsLevel problem.board → (o p : Origin Push) (n l a b : Scene) (xs : List Scene) → slice_get xs o.0 ≡ Some n →
    slice_get xs p.0 ≡ Some l → (ps qs : List Push) → IsLeadOf problem.board n ps → IsLeadOf problem.board l qs → IsLeadOf problem.board a (ps ++ o.1 ∷ []) →
    IsLeadOf problem.board b (qs ++ p.1 ∷ []) → origin_cmp push_cmp o p ≡ Equal → a ≡ b
origins_same problem level o p n l a b xs at_n at_l ps qs lead lead' lead_a lead_b equal =
    let laws = level_laws problem level in
    let w = nat_cmp_equal o.0 p.0 (push_cmp o.1 p.1) equal in
    let push : o.1 ≡ p.1 = laws.exact o.1 p.1 w.1 in
    let g : n ≡ l = same_Some n l (sym at_n ∙ ap (slice_get xs) w.0 ∙ at_l) in
    let h : ps ≡ qs = lead_unique laws l ps qs (subst (λ z. IsLeadOf problem.board z ps) g lead) lead' in
    let e : qs ++ p.1 ∷ [] ≡ ps ++ o.1 ∷ [] = λ i. sym h i ++ sym push i ∷ [] in
    laws.same (ps ++ o.1 ∷ []) a b lead_a.reached (subst (λ zs. Reaches problem.board zs b) e lead_b.reached)

no_longer : (ps : List Push) → length ps ≡ 0 → ps ≡ []
no_longer [] e = refl
no_longer (p ∷ ps) e = absurd (omega (arith, e))

module _ (problem : Problem) (level : IsLevel problem.board) (shares k : ℕ) (lists : List (List Closed)) (are : AreSharesOfLayer problem shares k lists) where
  laws : IsLayered push_cmp (Reaches problem.board) (IsSuccessor problem.board) (Admits problem)
  laws = level_laws problem level

  -- a position's share, that it is admitted, and its lead
  lead_in : (t : ℕ) (es : List Closed) (a : Closed) → slice_get lists t ≡ Some es → IsIn es a →
      ((share_of shares a.0 ≡ t) × Admits problem k a.0) × ((ps : List Push) × IsLeadOf problem.board a.0 ps × (length ps ≡ k))
  lead_in t es a at (i, at_i) = (are.each t es at).layer.leads i a.0 (map_at (λ (e : Closed). e.0) es i a at_i)

  -- the one has an earlier lead than the other
  abbrev IsEarlier : Closed → Closed → Type 0
  IsEarlier a b = (ps : List Push) × (qs : List Push) × IsLeadOf problem.board a.0 ps × IsLeadOf problem.board b.0 qs × (slice_cmp push_cmp ps qs ≡ Less)

  earlier_trans : (a b c : Closed) → IsEarlier a b → IsEarlier b c → IsEarlier a c
  earlier_trans a b c (ps, qs, lead_a, lead_b, less) (qs', rs, lead_b', lead_c, less') = (
    ps,
    rs,
    lead_a,
    lead_c,
    (lists_total laws.total).trans ps qs rs less (subst (λ zs. slice_cmp push_cmp zs rs ≡ Less) (lead_unique laws b.0 qs' qs lead_b' lead_b) less'),
  )

  share_rise : (t : ℕ) (es : List Closed) → slice_get lists t ≡ Some es → Rises IsEarlier es
  share_rise t es at i j a b lt at_a at_b =
      let u = (lead_in t es a at (i, at_a)).1 in let v = (lead_in t es b at (j, at_b)).1 in (
        u.0,
        v.0,
        u.1,
        v.1,
        (are.each t es at).layer.rise i j a.0 b.0 u.0 v.0 lt (map_at (λ (e : Closed). e.0) es i a at_a) (map_at (λ (e : Closed). e.0) es j b at_b) u.1 v.1,
      )

  module _ (before : (j : ℕ) → k ≡ suc j → (xs : List Scene) × IsLayerOf problem j xs) where
    -- of two positions of different shares, the one with the origin that is no greater has the earlier lead
    shares_apart : (s t : ℕ) (es fs : List Closed) (a b : Closed) → s ≢ t → slice_get lists s ≡ Some es → slice_get lists t ≡ Some fs → IsIn es a → IsIn fs b →
        is_gt (origin_cmp push_cmp (origin_in a.1) (origin_in b.1)) ≡ false → IsEarlier a b
    shares_apart s t es fs a b ne at_s at_t (i, at_i) (j, at_j) le =
        go k refl a.1 b.1 refl refl ((are.each s es at_s).origins i a.0 a.1 at_i) ((are.each t fs at_t).origins j b.0 b.1 at_j)
      where
        mine : ((share_of shares a.0 ≡ s) × Admits problem k a.0) × ((ps : List Push) × IsLeadOf problem.board a.0 ps × (length ps ≡ k))
        mine = lead_in s es a at_s (i, at_i)

        other : ((share_of shares b.0 ≡ t) × Admits problem k b.0) × ((ps : List Push) × IsLeadOf problem.board b.0 ps × (length ps ≡ k))
        other = lead_in t fs b at_t (j, at_j)

        not_one : a.0 ≡ b.0 → ⊥
        not_one e = ne (sym mine.0.0 ∙ ap (share_of shares) e ∙ other.0.0)

        go : (n : ℕ) → k ≡ n → (o p : Option (Origin Push)) → a.1 ≡ o → b.1 ≡ p → HasClosedOrigin problem n a.0 o → HasClosedOrigin problem n b.0 p → IsEarlier a b
        go zero e o p is_o is_p has has' =
            let u : mine.1.0 ≡ [] = no_longer mine.1.0 (mine.1.2 ∙ e) in
            let v : other.1.0 ≡ [] = no_longer other.1.0 (other.1.2 ∙ e) in
            absurd (not_one (laws.same [] a.0 b.0 (subst (λ zs. Reaches problem.board zs a.0) u mine.1.1.reached)
            (subst (λ zs. Reaches problem.board zs b.0) v other.1.1.reached)))
        go (suc n) e None p is_o is_p has has' = absurd has
        go (suc n) e (Some o) None is_o is_p has has' = absurd has'
        go (suc n) e (Some o) (Some p) is_o is_p has has' = by (origin_cmp push_cmp o p) refl
          where
            layer : (xs : List Scene) × IsLayerOf problem n xs
            layer = before n e

            from : (l : Scene) × (slice_get layer.0 o.0 ≡ Some l) × ((ps : List Push) → IsLeadOf problem.board l ps → IsLeadOf problem.board a.0 (ps ++ o.1 ∷ []))
            from = has layer.0 layer.1

            from' : (l : Scene) × (slice_get layer.0 p.0 ≡ Some l) × ((ps : List Push) → IsLeadOf problem.board l ps → IsLeadOf problem.board b.0 (ps ++ p.1 ∷ []))
            from' = has' layer.0 layer.1

            parent : (ps : List Push) × IsLeadOf problem.board from.0 ps × (length ps ≡ n)
            parent = (layer.1.leads o.0 from.0 from.1).1

            parent' : (ps : List Push) × IsLeadOf problem.board from'.0 ps × (length ps ≡ n)
            parent' = (layer.1.leads p.0 from'.0 from'.1).1

            not_greater : is_gt (origin_cmp push_cmp o p) ≡ false
            not_greater = (λ i. is_gt (origin_cmp push_cmp (origin_in (sym is_o i)) (origin_in (sym is_p i)))) ∙ le

            by : (c : Ordering) → origin_cmp push_cmp o p ≡ c → IsEarlier a b
            by Less f = (
              parent.0 ++ o.1 ∷ [],
              parent'.0 ++ p.1 ∷ [],
              from.2 parent.0 parent.1,
              from'.2 parent'.0 parent'.1,
              leads_less problem level n layer.0 layer.1 o p from.0 from'.0 from.1 from'.1 parent.0 parent'.0 parent.1 parent'.1 parent.2 parent'.2 f,
            )
            by Equal f = absurd (not_one (origins_same problem level o p from.0 from'.0 a.0 b.0 layer.0 from.1 from'.1 parent.0 parent'.0 parent.1 parent'.1
                (from.2 parent.0 parent.1) (from'.2 parent'.0 parent'.1) f))
            by Greater f = cc

    -- all the shares, merged, are the layer
    pub merged_layer : (es : List Closed) → 0 < shares → IsMerged lists es → IsLayerOf problem k (places_of es)
    merged_layer es some merged = record {
      leads = λ r n at. (let x = at_map (λ (e : Closed). e.0) es r n at in
          let w = taken_of merged.1 x.0 (r, x.1) in
          let l = lead_in w.0 w.1 x.0 w.2 w.3 in
          subst (λ m. Admits problem k m × ((ps : List Push) × IsLeadOf problem.board m ps × (length ps ≡ k))) x.2 (l.0.1, l.1));
      rise = λ r s m n ps qs lt at_r at_s lead lead'. (let x = at_map (λ (e : Closed). e.0) es r m at_r in
          let y = at_map (λ (e : Closed). e.0) es s n at_s in
          let w = merged_rise lists earlier_trans share_rise shares_apart es merged r s x.0 y.0 lt x.1 y.1 in
          let u = lead_unique laws m w.0 ps (subst (λ z. IsLeadOf problem.board z w.0) x.2 w.2) lead in
          let v = lead_unique laws n w.1 qs (subst (λ z. IsLeadOf problem.board z w.1) y.2 w.3) lead' in
          (λ i. slice_cmp push_cmp (sym u i) (sym v i)) ∙ w.4);
      whole = λ ps n reach long adm. (let t = share_of shares n in
          let lt : t < length lists = omega (arith, mod_below (sum n.boxes + n.player) shares some, are.all) in
          let at = read_at lists t lt in
          elim ((are.each t (get_or lists t []) at).layer.whole ps n reach long (refl, adm)) [
            | inl within ↦ (let x = at_map (λ (e : Closed). e.0) (get_or lists t []) within.0 n within.1 in
                let there = merged_all lists es merged t (get_or lists t []) x.0 at (within.0, x.1) in
                inl (there.0, map_at (λ (e : Closed). e.0) es there.0 x.0 there.1 ∙ ap (λ (m : Scene). Some m) x.2))
            | inr fewer ↦ inr fewer
          ]);
    }

  -- each entry has its origin and fits the level
  pub merged_origin : (es : List Closed) → IsMerged lists es → (i : ℕ) (m : Scene) (o : Option (Origin Push)) → slice_get es i ≡ Some (m, o) →
      HasClosedOrigin problem k m o
  merged_origin es merged i m o at = let w = taken_of merged.1 (m, o) (i, at) in (are.each w.0 w.1 w.2).origins w.3.0 m o w.3.1

  pub merged_fits : (es : List Closed) → IsMerged lists es → (i : ℕ) (m : Scene) (o : Option (Origin Push)) → slice_get es i ≡ Some (m, o) →
      FitsLevel problem.board m
  merged_fits es merged i m o at = let w = taken_of merged.1 (m, o) (i, at) in (are.each w.0 w.1 w.2).fits w.3.0 m o w.3.1

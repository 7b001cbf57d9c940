-- The exchange: the kept successors of layer k that are in no layer up to k, by least rank and push, are the next
-- layer in the order of the leads.
use Rattle.std.proofs.Common.{◌≡◌, ℕ, zero, suc, ◌<◌, ◌≤◌, false, List, [], ◌∷◌, ◌++◌, length, map, Some, inl, inr, refl, sym, ap, subst, ◌∙◌, arith}
use Rattle.std.proofs.lemmas.Bool.{cases_lt}
use Rattle.std.proofs.lemmas.Cmp.{tied_itself}
use Rattle.std.proofs.lemmas.List.{length-append}
use Rattle.std.proofs.lemmas.Option.{same_Some}
use Rattle.std.specs.Prelude.{slice_get}
use Rattle.std.specs.declared.cmp.Ordering.{Ordering}
use Rattle.std.specs.declared.cmp.Ordering.TheVariants.{Less, Equal, Greater}
use Rattle.std.specs.Ordering.{ordering_then, ordering_reverse, is_gt}
use Rattle.std.specs.Cmp.Lexicographic.{slice_cmp, lists_total}
use Rattle.grid.specs.Plays.{shortlex}
use Rattle.successors.specs.Layered.{IsIn, IsLead, IsLayer}
use Rattle.store.specs.Entries.{origin_cmp, OpenEntry}
use Rattle.layers.specs.Openings.{IsNext, IsLayered}
use Rattle.layers.proofs.lemmas.Orders.{slice_cmp-snoc, slice_cmp_exact, shortlex-length, shortlex_shorter, shortlex_same, less_upto, then_upto, less_then}
use Rattle.layers.proofs.lemmas.Orders.{equal_then, upto-less, nat_cmp_upto, nat_cmp_less}
use Rattle.successors.proofs.lemmas.Lists.{at_map, map_at}

both_ways : (o : Ordering) → is_gt o ≡ false → is_gt (ordering_reverse o) ≡ false → o ≡ Equal
both_ways Less a b = cc
both_ways Equal a b = refl
both_ways Greater a b = cc

module _ {N P : Type 0} {cmp : P → P → Ordering} {Reach : List P → N → Type 0} {Edge : N → P → N → Type 0} {Adm : ℕ → N →
    Type 0} (laws : IsLayered cmp Reach Edge Adm) where
  -- no push list that leads to a place is shorter than its lead
  pub lead-length : (n : N) (ps qs : List P) → IsLead cmp Reach n ps → Reach qs n → length ps ≤ length qs
  lead-length n ps qs lead reach = shortlex-length cmp ps qs (lead.least qs reach)

  -- of the push lists of its length, the lead is the least
  pub lead_least : (n : N) (ps qs : List P) → IsLead cmp Reach n ps → Reach qs n → length ps ≡ length qs → is_gt (slice_cmp cmp ps qs) ≡ false
  lead_least n ps qs lead reach e = let s = shortlex_same cmp ps qs e in let h = lead.least qs reach in rw (← s) h

  -- a place has one lead
  pub lead_unique : (n : N) (ps qs : List P) → IsLead cmp Reach n ps → IsLead cmp Reach n qs → ps ≡ qs
  lead_unique n ps qs a b =
      let e : length ps ≡ length qs = omega (arith, lead-length n ps qs a b.reached, lead-length n qs ps b a.reached) in
      let h = lead_least n ps qs a b.reached e in
      let g = lead_least n qs ps b a.reached (sym e) in
      let t = (lists_total laws.total).antisymm qs ps in
      slice_cmp_exact cmp laws.exact ps qs (both_ways (slice_cmp cmp ps qs) h (ap is_gt (sym t) ∙ g))

  -- an admitted place that at most b pushes reach is in a layer up to b
  pub found : (layer : ℕ → List N) (k : ℕ) (layers : (j : ℕ) → j ≤ k → IsLayer cmp Reach Adm j (layer j)) (b : ℕ) (ps : List P) (n : N) → b ≤ k →
      length ps ≤ b → Reach ps n → Adm b n → (j : ℕ) × (j ≤ b) × IsIn (layer j) n
  found layer k layers zero ps n bound short reach adm =
      elim ((layers zero bound).whole ps n reach (omega arith) adm) [ inl i ↦ (zero, omega arith, i) | inr w ↦ absurd (omega (arith, w.2)) ]
  found layer k layers (suc b) ps n bound short reach adm =
      let wider : (j : ℕ) × (j ≤ b) × IsIn (layer j) n → (j : ℕ) × (j ≤ suc b) × IsIn (layer j) n = λ w. (w.0, omega (arith, w.1), w.2) in
      let back : (qs : List P) → length qs ≤ b → Reach qs n → (j : ℕ) × (j ≤ suc b)
      × IsIn (layer j) n = λ qs h r. wider (found layer k layers b qs n (omega arith) h r (laws.earlier b (suc b) n (omega arith) adm)) in
      elim (cases_lt (length ps) (suc b)) [
        | inl lt ↦ back ps (omega arith) reach
        | inr ge ↦ elim ((layers (suc b) bound).whole ps n reach (omega arith) adm)
            [ inl i ↦ (suc b, omega arith, i) | inr w ↦ back w.0 (omega (arith, w.2)) w.1 ]
      ]

  -- from here on: the layers up to k, what is kept of the next one, and its entries
  module _ (layer : ℕ → List N) (k : ℕ) (layers : (j : ℕ) → j ≤ k → IsLayer cmp Reach Adm j (layer j)) {Kept : N → Type 0} (kept : (m : N) → Kept m →
      Adm (suc k) m) (ys : List (OpenEntry N P)) (next : IsNext cmp Edge Kept layer k ys) where
    -- fewer pushes than k + 1 lead to no entry's place
    not_sooner : (i : ℕ) (m : N) (r : ℕ) (p : P) → slice_get ys i ≡ Some (m, (r, p)) → (qs : List P) → Reach qs m → suc k ≤ length qs
    not_sooner i m r p at qs reach =
        elim (cases_lt (length qs) (suc k)) [
          | inl lt ↦ (let w = found layer k layers (length qs) qs m (omega arith) (omega arith) reach
              (laws.earlier (length qs) (suc k) m (omega arith) (kept m (next.from i m r p at).0)) in
              absurd (next.fresh i m r p at w.0 (omega (arith, w.1)) w.2))
          | inr ge ↦ ge
        ]

    -- the lead of the place at a rank of layer k
    parent_lead : (r : ℕ) (n : N) → slice_get (layer k) r ≡ Some n → (ps : List P) × IsLead cmp Reach n ps × (length ps ≡ k)
    parent_lead r n at = ((layers k (omega arith)).leads r n at).1

    -- the push list by way of an entry's origin is no later than one by way of another rank of layer k
    before : (r s : ℕ) (p q : P) (n l : N) (ps qs : List P) → slice_get (layer k) r ≡ Some n → slice_get (layer k) s ≡ Some l → IsLead cmp Reach n ps →
        length ps ≡ k → Reach qs l → length qs ≡ k → is_gt (origin_cmp cmp (r, p) (s, q)) ≡ false → is_gt (slice_cmp cmp (ps ++ p ∷ []) (qs ++ q ∷ [])) ≡ false
    before r s p q n l ps qs at_r at_s lead long reach long' le =
        rw (slice_cmp-snoc cmp ps qs p q (long ∙ sym long'))
        (elim (cases_lt r s) [
          | inl lt ↦ (let parent = parent_lead s l at_s in
              let a = (layers k (omega arith)).rise r s n l ps parent.0 lt at_r at_s lead parent.1 in
              let b = lead_least l parent.0 qs parent.1 reach (parent.2 ∙ sym long') in
              upto-less (ordering_then (slice_cmp cmp ps qs) (cmp p q)) (less_then (slice_cmp cmp ps qs) (cmp p q)
              (less_upto (lists_total laws.total) ps parent.0 qs a b)))
          | inr ge ↦ (let w = nat_cmp_upto r s (cmp p q) le ge in
              let e : l ≡ n = same_Some l n (sym at_s ∙ ap (slice_get (layer k)) (sym w.0) ∙ at_r) in
              then_upto (slice_cmp cmp ps qs) (cmp p q) (lead_least n ps qs lead (subst (Reach qs) e reach) (long ∙ sym long')) w.1)
        ])

    -- the push list by way of an entry's origin is no later than any that leads to its place
    entry_least : (i : ℕ) (m : N) (r : ℕ) (p : P) → slice_get ys i ≡ Some (m, (r, p)) → (n : N) (ps : List P) → slice_get (layer k) r ≡ Some n →
        IsLead cmp Reach n ps → length ps ≡ k → (qs : List P) → Reach qs m → length qs ≡ suc k → is_gt (shortlex cmp (ps ++ p ∷ []) qs) ≡ false
    entry_least i m r p at n ps at_r lead long qs reach long' =
        let cut = laws.split qs m k reach long' in
        let qs' = cut.0 in let q = cut.1 in let l = cut.2 in let e : qs ≡ qs' ++ q ∷ [] = cut.3 in let reach' : Reach qs' l = cut.4 in
        let edge : Edge l q m = cut.5 in let len : length qs' ≡ k = omega (arith, ap length e, length-append qs' (q ∷ [])) in
        let long'' : length (ps ++ p ∷ []) ≡ length (qs' ++ q ∷ []) = omega (arith, length-append qs' (q ∷ []), length-append ps (p ∷ [])) in
        elim ((layers k (omega arith)).whole qs' l reach' len (laws.closed k qs' l q m reach' edge (kept m (next.from i m r p at).0))) [
          | inl within ↦ (let b = before r within.0 p q n l ps qs' at_r within.1 lead long reach' len (next.least i m r p at within.0 q l within.1 edge) in
              rw (e, shortlex_same cmp (ps ++ p ∷ []) (qs' ++ q ∷ []) long'') b)
          | inr w ↦ absurd (omega (arith, w.2, length-append w.0 (q ∷ []), not_sooner i m r p at (w.0 ++ q ∷ []) (laws.grow w.0 l q m w.1 edge)))
        ]

    -- an entry's lead is that of its parent with its push added
    pub entry_lead : (i : ℕ) (m : N) (r : ℕ) (p : P) → slice_get ys i ≡ Some (m, (r, p)) → (n : N) (ps : List P) → slice_get (layer k) r ≡ Some n →
        IsLead cmp Reach n ps → length ps ≡ k → IsLead cmp Reach m (ps ++ p ∷ [])
    entry_lead i m r p at n ps at_r lead long =
        grind (arith, same_Some, length-append, cases_lt, shortlex_shorter, entry_least, not_sooner)

    -- the origins of two entries, the first before the second, give leads in that order
    entries_rise : (i j : ℕ) (x y : OpenEntry N P) → i < j → slice_get ys i ≡ Some x → slice_get ys j ≡ Some y → (ps qs : List P) → IsLead cmp Reach x.0 ps →
        IsLead cmp Reach y.0 qs → slice_cmp cmp ps qs ≡ Less
    entries_rise i j x y lt at_i at_j ps qs lead lead' =
        let u = (next.from i x.0 x.1.0 x.1.1 at_i).1 in
        let v = (next.from j y.0 y.1.0 y.1.1 at_j).1 in
        let a = parent_lead x.1.0 u.0 u.1 in
        let b = parent_lead y.1.0 v.0 v.1 in
        let e = lead_unique x.0 ps (a.0 ++ x.1.1 ∷ []) lead (entry_lead i x.0 x.1.0 x.1.1 at_i u.0 a.0 u.1 a.1 a.2) in
        let f = lead_unique y.0 qs (b.0 ++ y.1.1 ∷ []) lead' (entry_lead j y.0 y.1.0 y.1.1 at_j v.0 b.0 v.1 b.1 b.2) in
        rw (e, f, slice_cmp-snoc cmp a.0 b.0 x.1.1 y.1.1 (a.2 ∙ sym b.2))
        (elim (nat_cmp_less x.1.0 y.1.0 (cmp x.1.1 y.1.1) (next.rise i j x y lt at_i at_j)) [
          | inl less ↦ less_then (slice_cmp cmp a.0 b.0) (cmp x.1.1 y.1.1) ((layers k (omega arith)).rise x.1.0 y.1.0 u.0 v.0 a.0 b.0 less u.1 v.1 a.1 b.1)
          | inr w ↦ (let g : u.0 ≡ v.0 = same_Some u.0 v.0 (sym u.1 ∙ ap (slice_get (layer k)) w.0 ∙ v.1) in
              let h = lead_unique v.0 a.0 b.0 (subst (λ z. IsLead cmp Reach z a.0) g a.1) b.1 in
              equal_then (slice_cmp cmp a.0 b.0) (cmp x.1.1 y.1.1) (ap (λ z. slice_cmp cmp a.0 z) (sym h) ∙ tied_itself (lists_total laws.total) a.0) ∙ w.1)
        ])

    -- the exchange: the entries' places are the next layer
    pub next_layer : IsLayer cmp Reach (λ j m. Kept m) (suc k) (map (λ y. y.0) ys)
    next_layer = record {
      leads = λ r m at. (let y = at_map (λ z. z.0) ys r m at in
          let f = next.from r y.0.0 y.0.1.0 y.0.1.1 y.1 in
          let a = parent_lead y.0.1.0 f.1.0 f.1.1 in (
            subst Kept y.2 f.0,
            (
              a.0 ++ y.0.1.1 ∷ [],
              subst (λ z. IsLead cmp Reach z (a.0 ++ y.0.1.1 ∷ [])) y.2 (entry_lead r y.0.0 y.0.1.0 y.0.1.1 y.1 f.1.0 a.0 f.1.1 a.1 a.2),
              omega (arith, a.2, length-append a.0 (y.0.1.1 ∷ [])),
            ),
          ));
      rise = λ r s m n ps qs lt at_r at_s lead lead'. (let x = at_map (λ z. z.0) ys r m at_r in let y = at_map (λ z. z.0) ys s n at_s in
          entries_rise r s x.0 y.0 lt x.1 y.1 ps qs (subst (λ z. IsLead cmp Reach z ps) (sym x.2) lead) (subst (λ z. IsLead cmp Reach z qs) (sym y.2) lead'));
      whole = λ ps m reach len is_kept. (let cut = laws.split ps m k reach len in
          let ps' = cut.0 in let p = cut.1 in let n = cut.2 in let reach' : Reach ps' n = cut.4 in let edge : Edge n p m = cut.5 in
          let len' : length ps' ≡ k = omega (arith, ap length cut.3, length-append ps' (p ∷ [])) in
          elim ((layers k (omega arith)).whole ps' n reach' len' (laws.closed k ps' n p m reach' edge (kept m is_kept))) [
            | inl within ↦ elim (next.whole within.0 n p m within.1 edge is_kept) [
              | inl old ↦ (let w = (layers old.0 old.1).leads old.2.0 m old.2.1 in inr (w.1.0, w.1.1.reached, omega (arith, w.1.2, old.1)))
              | inr entry ↦ inl (entry.0, map_at (λ z. z.0) ys entry.0 (m, entry.1) entry.2)
            ]
            | inr w ↦ inr (w.0 ++ p ∷ [], laws.grow w.0 n p m w.1 edge, omega (arith, w.2, length-append w.0 (p ∷ [])))
          ]);
    }

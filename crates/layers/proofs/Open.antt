-- The open positions while a layer is made: one offered origin more, and all of them.
use Rattle.std.proofs.Common.{◌≡◌, ℕ, ◌<◌, ◌≤◌, false, List, Option, Some, None, ◌⊎◌, inl, inr, refl, sym, ap, subst, ◌∙◌, if◌then◌else◌}
use Rattle.std.proofs.lemmas.Cmp.{upto, tied_itself}
use Rattle.std.proofs.lemmas.Option.{same_Some, none-some}
use Rattle.std.specs.Prelude.{slice_get}
use Rattle.std.specs.declared.cmp.Ordering.{Ordering}
use Rattle.std.specs.declared.cmp.Ordering.TheVariants.{Less, Equal, Greater}
use Rattle.std.specs.Ordering.{ordering_reverse, is_gt, is_lt}
use Rattle.std.specs.Cmp.{IsTotalOrder}
use Rattle.successors.specs.Layered.{IsIn}
use Rattle.store.specs.Entries.{Origin, origin_cmp, lesser, OpenEntry}
use Rattle.layers.specs.Openings.{IsNext, IsOpening}
use Rattle.store.proofs.lemmas.Origins.{origin_total, best}

module _ {P : Type 0} {cmp : P → P → Ordering} (total : IsTotalOrder cmp) where
  -- the lesser of two is no later than either
  lesser_first : (a b : Origin P) → is_gt (origin_cmp cmp (lesser cmp a b) a) ≡ false
  lesser_first a b = go (origin_cmp cmp b a) refl
    where
      go : (o : Ordering) → origin_cmp cmp b a ≡ o → is_gt (origin_cmp cmp (if is_lt o then b else a) a) ≡ false
      go Less e = ap is_gt e
      go Equal e = ap is_gt (tied_itself (origin_total total) a)
      go Greater e = ap is_gt (tied_itself (origin_total total) a)

  lesser_second : (a b : Origin P) → is_gt (origin_cmp cmp (lesser cmp a b) b) ≡ false
  lesser_second a b = go (origin_cmp cmp b a) refl
    where
      turned : (o : Ordering) → origin_cmp cmp b a ≡ o → is_gt (ordering_reverse o) ≡ false → is_gt (origin_cmp cmp a b) ≡ false
      turned o e f = ap is_gt ((origin_total total).antisymm a b ∙ ap ordering_reverse e) ∙ f

      go : (o : Ordering) → origin_cmp cmp b a ≡ o → is_gt (origin_cmp cmp (if is_lt o then b else a) b) ≡ false
      go Less e = ap is_gt (tied_itself (origin_total total) b)
      go Equal e = turned Equal e refl
      go Greater e = turned Greater e refl

  lesser_either : (a b : Origin P) → (lesser cmp a b ≡ a) ⊎ (lesser cmp a b ≡ b)
  lesser_either a b = go (origin_cmp cmp b a)
    where
      go : (o : Ordering) → ((if is_lt o then b else a) ≡ a) ⊎ ((if is_lt o then b else a) ≡ b)
      go Less = inr refl
      go Equal = inl refl
      go Greater = inl refl

  -- the best is no later than the offer, and no later than what was there
  best_offer : (o : Option (Origin P)) (b : Origin P) → is_gt (origin_cmp cmp (best cmp o b) b) ≡ false
  best_offer None b = ap is_gt (tied_itself (origin_total total) b)
  best_offer (Some a) b = lesser_second a b

  best_old : (o : Option (Origin P)) (a b : Origin P) → o ≡ Some a → is_gt (origin_cmp cmp (best cmp o b) a) ≡ false
  best_old None a b e = cc
  best_old (Some c) a b e = subst (λ x. is_gt (origin_cmp cmp (lesser cmp c b) x) ≡ false) (same_Some c a e) (lesser_first c b)

  -- the best is the offer, or was there
  best_either : (o : Option (Origin P)) (b : Origin P) → (best cmp o b ≡ b) ⊎ (o ≡ Some (best cmp o b))
  best_either None b = inl refl
  best_either (Some a) b = elim (lesser_either a b) [ inl e ↦ inr (ap Some (sym e)) | inr e ↦ inl e ]

-- offers that lead nowhere are as good as none, and the names of those that count may change
pub reoffered : {N P : Type 0} {cmp : P → P → Ordering} {Edge : N → P → N → Type 0} {Kept : N → Type 0} {layer : ℕ → List N} {k : ℕ} {Offered : ℕ → P →
    Type 0} {look : N → Option (Origin P)} (Others : ℕ → P → Type 0) →
    ((r : ℕ) (p : P) → Offered r p → Others r p) → ((r : ℕ) (p : P) (n m : N) → Others r p → slice_get (layer k) r ≡ Some n → Edge n p m → Kept m →
    Offered r p) → IsOpening cmp Edge Kept layer k Offered look → IsOpening cmp Edge Kept layer k Others look
reoffered Others more fewer o = record {
  from = λ m r p e. (let f = o.from m r p e in (f.0, more r p f.1, f.2));
  fresh = o.fresh;
  least = λ m r p e s q n offer at edge. o.least m r p e s q n (fewer s q n m offer at edge (o.from m r p e).0) at edge;
  whole = λ r p n m offer at edge kept. o.whole r p n m (fewer r p n m offer at edge kept) at edge kept;
}

-- one origin more is offered
module _ {N P : Type 0} {cmp : P → P → Ordering} {Edge : N → P → N → Type 0} {Kept : N → Type 0} {layer : ℕ → List N} {k : ℕ} {Offered : ℕ → P →
    Type 0} {look : N → Option (Origin P)} (total : IsTotalOrder cmp) (o : IsOpening cmp Edge Kept layer k Offered look)
    (r₀ : ℕ) (p₀ : P) (n₀ m₀ : N) (at : slice_get (layer k) r₀ ≡ Some n₀) (edge : Edge n₀ p₀ m₀) (one : (m : N) → Edge n₀ p₀ m → m ≡ m₀) where
  -- an origin of a place that is not kept, or stands in a layer, changes nothing
  pub offer_nothing : (Kept m₀ → (j : ℕ) × (j ≤ k) × IsIn (layer j) m₀) → IsOpening cmp Edge Kept layer k (λ r p. Offered r p ⊎ ((r ≡ r₀) × (p ≡ p₀))) look
  offer_nothing old = record {
    from = λ m r p e. (let f = o.from m r p e in (f.0, inl f.1, f.2));
    fresh = o.fresh;
    least = λ m r p e s q n offer at_s edge_s. elim offer [
      | inl given ↦ o.least m r p e s q n given at_s edge_s
      | inr new ↦ (let g = o.from m r p e in
          let m_is = one m (subst (λ x. Edge x p₀ m) (same_Some n n₀ (sym at_s ∙ ap (slice_get (layer k)) new.0 ∙ at))
          (subst (λ x. Edge n x m) new.1 edge_s)) in let w = old (subst Kept m_is g.0) in
          absurd (o.fresh m r p e w.0 w.1 (subst (IsIn (layer w.0)) (sym m_is) w.2)))
    ];
    whole = λ r p n m offer at_r edge_r kept. elim offer [
      | inl given ↦ o.whole r p n m given at_r edge_r kept
      | inr new ↦ (let m_is = one m (subst (λ x. Edge x p₀ m) (same_Some n n₀ (sym at_r ∙ ap (slice_get (layer k)) new.0 ∙ at))
          (subst (λ x. Edge n x m) new.1 edge_r)) in let w = old (subst Kept m_is kept) in inl (w.0, w.1, subst (IsIn (layer w.0)) (sym m_is) w.2))
    ];
  }

  -- an origin of a place that is kept and stands in no layer is entered, or lessens what is there
  pub offer_one : Kept m₀ → ((j : ℕ) → j ≤ k → ¬ (IsIn (layer j) m₀)) → (look' : N → Option (Origin P)) → look' m₀ ≡ Some (best cmp (look m₀) (r₀, p₀)) →
      ((m : N) → (look' m ≡ look m) ⊎ (m ≡ m₀)) → IsOpening cmp Edge Kept layer k (λ r p. Offered r p ⊎ ((r ≡ r₀) × (p ≡ p₀))) look'
  offer_one kept new look' here others = record {
    from = λ m r p e. elim (others m) [
      | inl same ↦ (let f = o.from m r p (sym same ∙ e) in (f.0, inl f.1, f.2))
      | inr m_is ↦ from-here m r p m_is (is_best m r p m_is e)
    ];
    fresh = λ m r p e j le. elim (others m) [
      | inl same ↦ o.fresh m r p (sym same ∙ e) j le
      | inr m_is ↦ (λ i. new j le (subst (IsIn (layer j)) m_is i))
    ];
    least = λ m r p e s q n offer at_s edge_s. elim offer [
      | inl given ↦ elim (others m) [
        | inl same ↦ o.least m r p (sym same ∙ e) s q n given at_s edge_s
        | inr m_is ↦ subst (λ x. is_gt (origin_cmp cmp x (s, q)) ≡ false) (sym (is_best m r p m_is e))
            (least-here s q n given at_s (subst (Edge n q) m_is edge_s) (look m₀) refl)
      ]
      | inr w ↦ (let m_is = one m (subst (λ x. Edge x p₀ m) (same_Some n n₀ (sym at_s ∙ ap (slice_get (layer k)) w.0 ∙ at))
          (subst (λ x. Edge n x m) w.1 edge_s)) in subst (λ x. is_gt (origin_cmp cmp x (s, q)) ≡ false) (sym (is_best m r p m_is e))
          (subst (λ x. is_gt (origin_cmp cmp (best cmp (look m₀) (r₀, p₀)) x) ≡ false) (λ i. (sym w.0 i, sym w.1 i)) (best_offer total (look m₀) (r₀, p₀))))
    ];
    whole = λ r p n m offer at_r edge_r kept_m. elim (others m) [
      | inl same ↦ elim offer [
        | inl given ↦ elim (o.whole r p n m given at_r edge_r kept_m) [ inl old ↦ inl old | inr w ↦ inr (w.0, same ∙ w.1) ]
        | inr w ↦ (let m_is = one m (subst (λ x. Edge x p₀ m) (same_Some n n₀ (sym at_r ∙ ap (slice_get (layer k)) w.0 ∙ at))
            (subst (λ x. Edge n x m) w.1 edge_r)) in inr (best cmp (look m₀) (r₀, p₀), ap look' m_is ∙ here))
      ]
      | inr m_is ↦ inr (best cmp (look m₀) (r₀, p₀), ap look' m_is ∙ here)
    ];
  }
    where
      is_best : (m : N) (r : ℕ) (p : P) → m ≡ m₀ → look' m ≡ Some (r, p) → (r, p) ≡ best cmp (look m₀) (r₀, p₀)
      is_best m r p m_is e = same_Some (r, p) (best cmp (look m₀) (r₀, p₀)) (sym e ∙ ap look' m_is ∙ here)

      from-here : (m : N) (r : ℕ) (p : P) → m ≡ m₀ → (r, p) ≡ best cmp (look m₀) (r₀, p₀) →
          Kept m × (Offered r p ⊎ ((r ≡ r₀) × (p ≡ p₀))) × ((n : N) × (slice_get (layer k) r ≡ Some n) × Edge n p m)
      from-here m r p m_is b = elim (best_either total (look m₀) (r₀, p₀)) [
        | inl is_new ↦ (let e = b ∙ is_new in
            let at_r = ap (λ (x : Origin P). x.0) e in let at_p = ap (λ (x : Origin P). x.1) e in (
              subst Kept (sym m_is) kept,
              inr (at_r, at_p),
              (
                n₀,
                ap (slice_get (layer k)) at_r ∙ at,
                subst (λ x. Edge n₀ x m) (sym at_p) (subst (Edge n₀ p₀) (sym m_is) edge),
              ),
            ))
        | inr is_old ↦ (let f = o.from m₀ r p (is_old ∙ ap Some (sym b)) in
            (subst Kept (sym m_is) kept, inl f.1, (f.2.0, f.2.1, subst (Edge f.2.0 p) (sym m_is) f.2.2)))
      ]

      least-here : (s : ℕ) (q : P) (n : N) → Offered s q → slice_get (layer k) s ≡ Some n → Edge n q m₀ → (there : Option (Origin P)) → look m₀ ≡ there →
          is_gt (origin_cmp cmp (best cmp (look m₀) (r₀, p₀)) (s, q)) ≡ false
      least-here s q n given at_s edge_s None e = elim (o.whole s q n m₀ given at_s edge_s kept) [
        | inl old ↦ absurd (new old.0 old.1 old.2)
        | inr w ↦ absurd (none-some w.0 (sym e ∙ w.1))
      ]
      least-here s q n given at_s edge_s (Some a) e =
          upto (origin_total total) (best cmp (look m₀) (r₀, p₀)) a (s, q) (best_old total (look m₀) a (r₀, p₀) e)
          (o.least m₀ a.0 a.1 e s q n given at_s edge_s)

-- the open positions after every origin was offered, in the order of their origins, are the next layer
pub closed_next : {N P : Type 0} {cmp : P → P → Ordering} {Edge : N → P → N → Type 0} {Kept : N → Type 0} {layer : ℕ → List N} {k : ℕ} {Offered : ℕ → P →
    Type 0} {look : N → Option (Origin P)} → IsOpening cmp Edge Kept layer k Offered look →
    ((r : ℕ) (n : N) (p : P) → slice_get (layer k) r ≡ Some n → Offered r p) → (ys : List (OpenEntry N P)) →
    ((i : ℕ) (m : N) (p : Origin P) → slice_get ys i ≡ Some (m, p) → look m ≡ Some p) →
    ((m : N) (p : Origin P) → look m ≡ Some p → (i : ℕ) × (slice_get ys i ≡ Some (m, p))) →
    ((i j : ℕ) (x y : OpenEntry N P) → i < j → slice_get ys i ≡ Some x → slice_get ys j ≡ Some y → origin_cmp cmp x.1 y.1 ≡ Less) → IsNext cmp Edge Kept layer k ys
closed_next o all ys listed lists rise = record {
  from = λ i m r p at. (let f = o.from m r p (listed i m (r, p) at) in (f.0, f.2));
  fresh = λ i m r p at. o.fresh m r p (listed i m (r, p) at);
  least = λ i m r p at s q n at_s edge. o.least m r p (listed i m (r, p) at) s q n (all s n q at_s) at_s edge;
  rise = rise;
  whole = λ r n p m at edge kept. elim (o.whole r p n m (all r n p at) at edge kept) [
    | inl old ↦ inl old
    | inr w ↦ (let i = lists m w.0 w.1 in inr (i.0, w.0, i.1))
  ];
}

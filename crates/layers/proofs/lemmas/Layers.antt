-- What holds of layers, whatever they are made of: their members, and that a layer is one list.
use Rattle.std.proofs.Common.{◌≡◌, ℕ, List, length, Some, inl, inr, sym, ap, ◌∙◌, arith}
use Rattle.std.proofs.lemmas.Bool.{cases_lt}
use Rattle.std.proofs.lemmas.Cmp.{tied_itself}
use Rattle.std.specs.Prelude.{slice_get}
use Rattle.std.specs.declared.cmp.Ordering.{Ordering}
use Rattle.std.specs.declared.cmp.Ordering.TheVariants.{Less}
use Rattle.std.specs.Cmp.Lexicographic.{slice_cmp, lists_total}
use Rattle.successors.specs.Layered.{IsIn, IsLead, IsLayer}
use Rattle.layers.specs.Openings.{IsLayered}
use Rattle.successors.proofs.lemmas.Lists.{Rises, same_lists}
use Rattle.layers.proofs.lemmas.Exchange.{lead_unique}

-- a layer is one too where its part is told in other words
pub recut : {N P : Type 0} {cmp : P → P → Ordering} {Reach : List P → N → Type 0} {Part Other : ℕ → N → Type 0} (k : ℕ) (xs : List N) →
    ((n : N) → Part k n → Other k n) → ((n : N) → Other k n → Part k n) → IsLayer cmp Reach Part k xs → IsLayer cmp Reach Other k xs
recut k xs there back layer = record {
  leads = λ r n at. (let w = layer.leads r n at in (there n w.0, w.1));
  rise = layer.rise;
  whole = λ ps n reach long part. layer.whole ps n reach long (back n part);
}

module _ {N P : Type 0} {cmp : P → P → Ordering} {Reach : List P → N → Type 0} {Edge : N → P → N → Type 0} {Adm : ℕ → N →
    Type 0} (laws : IsLayered cmp Reach Edge Adm) where
  -- a place whose lead has length k is in layer k, however the layer is cut down, if it is of the part
  pub member : {Part : ℕ → N → Type 0} (k : ℕ) (xs : List N) → IsLayer cmp Reach Part k xs → (m : N) (ps : List P) → IsLead cmp Reach m ps → length ps ≡ k →
      Part k m → IsIn xs m
  member k xs layer m ps lead long part = grind arith

  -- the place has an earlier lead than the other
  abbrev Before : N → N → Type 0
  Before m n = (ps : List P) × (qs : List P) × IsLead cmp Reach m ps × IsLead cmp Reach n qs × (slice_cmp cmp ps qs ≡ Less)

  before-asym : (m n : N) → Before m n → Before n m → ⊥
  before-asym m n (ps, qs, a, b, less) (qs', ps', b', a', less') =
      let e = lead_unique laws m ps ps' a a' in let f = lead_unique laws n qs qs' b b' in
      let less'' : slice_cmp cmp qs ps ≡ Less = (λ i. slice_cmp cmp (f i) (e i)) ∙ less' in
      let t = (lists_total laws.total).trans ps qs ps less less'' in
      let u = tied_itself (lists_total laws.total) ps in cc

  -- two lists that are the same layer, cut down alike, are one
  pub layer_unique : {Part : ℕ → N → Type 0} (k : ℕ) (xs ys : List N) → IsLayer cmp Reach Part k xs → IsLayer cmp Reach Part k ys → xs ≡ ys
  layer_unique {Part} k xs ys a b = same_lists before-asym xs ys (rises xs a) (rises ys b) (within xs ys a b) (within ys xs b a)
    where
      rises : (zs : List N) → IsLayer cmp Reach Part k zs → Rises Before zs
      rises zs l i j m n lt at_m at_n = let u = (l.leads i m at_m).1 in let v = (l.leads j n at_n).1 in
          (u.0, v.0, u.1, v.1, l.rise i j m n u.0 v.0 lt at_m at_n u.1 v.1)

      within : (us vs : List N) → IsLayer cmp Reach Part k us → IsLayer cmp Reach Part k vs → (m : N) → IsIn us m → IsIn vs m
      within us vs l l' m i = let u = l.leads i.0 m i.1 in member k vs l' m u.1.0 u.1.1 u.1.2 u.0

  -- no place stands in two layers, nor twice in one
  pub layers_apart : {Part Other : ℕ → N → Type 0} (j k : ℕ) (xs ys : List N) → IsLayer cmp Reach Part j xs → IsLayer cmp Reach Other k ys → (m : N) →
      IsIn xs m → IsIn ys m → j ≡ k
  layers_apart j k xs ys a b m i i' =
      let u = (a.leads i.0 m i.1).1 in let v = (b.leads i'.0 m i'.1).1 in
      sym u.2 ∙ ap length (lead_unique laws m u.0 v.0 u.1 v.1) ∙ v.2

  pub place_unique : {Part : ℕ → N → Type 0} (k : ℕ) (xs : List N) → IsLayer cmp Reach Part k xs → (i j : ℕ) (m : N) → slice_get xs i ≡ Some m →
      slice_get xs j ≡ Some m → i ≡ j
  place_unique k xs l i j m at_i at_j = let u = (l.leads i m at_i).1 in let t = tied_itself (lists_total laws.total) u.0 in
      elim (cases_lt i j) [
        | inl lt ↦ (let r = l.rise i j m m u.0 u.0 lt at_i at_j u.1 u.1 in cc)
        | inr ge ↦ elim (cases_lt j i) [
          | inl lt ↦ (let r = l.rise j i m m u.0 u.0 lt at_j at_i u.1 u.1 in cc)
          | inr le ↦ omega arith
        ]
      ]

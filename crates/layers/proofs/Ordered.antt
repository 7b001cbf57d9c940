-- A merge keeps the order of its lists.
use Rattle.std.proofs.Common.{◌≡◌, ◌≢◌, ℕ, zero, suc, ◌≤◌, false, List, [], ◌∷◌, ◌++◌, length, set, Some, ◌⊎◌, inl, inr, refl, sym, ap, subst, ◌∙◌, arith}
use Rattle.std.proofs.lemmas.Bool.{cases_eq}
use Rattle.std.proofs.lemmas.Cmp.{tied_itself}
use Rattle.std.proofs.lemmas.List.{append-nil, append_assoc}
use Rattle.std.proofs.lemmas.Option.{same_Some, none-some, slice_get_within}
use Rattle.std.specs.Prelude.{slice_get}
use Rattle.std.specs.Ordering.{is_gt}
use Rattle.grid.specs.Board.{push_cmp}
use Rattle.grid.proofs.lemmas.Orders.{push_cmp_total}
use Rattle.successors.specs.Layered.{IsIn}
use Rattle.store.specs.Entries.{origin_cmp, Closed}
use Rattle.successors.specs.Reaching.{total}
use Rattle.store.specs.FoundView.{origin_in}
use Rattle.layers.specs.inside.Merging.{IsLeastFirst, Takes, IsMerged}
use Rattle.layers.specs.inside.Merging.Takes.{nothing, one}
use Rattle.successors.proofs.lemmas.Lists.{Rises, at-push, at_before, at_seam, set_at, set_here, set_there, sum_by_first}
use Rattle.store.proofs.lemmas.Origins.{origin_total}

-- ---- lists

-- a list ends with another
abbrev EndsWith : {A : Type 0} → List A → List A → Type 0
EndsWith {A} xs ys = (front : List A) × (xs ≡ front ++ ys)

ends_itself : {A : Type 0} (xs : List A) → EndsWith xs xs
ends_itself xs = ([], refl)

ends_rest : {A : Type 0} (xs : List A) (y : A) (ys : List A) → EndsWith xs (y ∷ ys) → EndsWith xs ys
ends_rest xs y ys (front, e) = (front ++ y ∷ [], e ∙ sym (append_assoc front (y ∷ []) ys))

after_front : {A : Type 0} (front ys : List A) (i : ℕ) (y : A) → slice_get ys i ≡ Some y → (j : ℕ) × (length front ≤ j) × (slice_get (front ++ ys) j ≡ Some y)
after_front [] ys i y at = (i, omega arith, at)
after_front (x ∷ front) ys i y at = let w = after_front front ys i y at in (suc w.0, omega (arith, w.1), w.2)

at_front : {A : Type 0} (front ys : List A) (y : A) → slice_get (front ++ y ∷ ys) (length front) ≡ Some y
at_front [] ys y = refl
at_front (x ∷ front) ys y = at_front front ys y

ends_in : {A : Type 0} (xs ys : List A) (y : A) → EndsWith xs ys → IsIn ys y → IsIn xs y
ends_in xs ys y (front, e) (i, at) = let w = after_front front ys i y at in (w.0, ap (λ zs. slice_get zs w.0) e ∙ w.2)

-- the first of what a rising list ends with is before the others
ends_rise : {A : Type 0} {Lt : A → A → Type 0} (xs : List A) (y : A) (ys : List A) (z : A) → Rises Lt xs → EndsWith xs (y ∷ ys) → IsIn ys z → Lt y z
ends_rise xs y ys z rise (front, e) (i, at) =
    let w = after_front (front ++ y ∷ []) ys i z at in
    let there : slice_get xs w.0 ≡ Some z = ap (λ zs. slice_get zs w.0) (e ∙ sym (append_assoc front (y ∷ []) ys)) ∙ w.2 in
    let here : slice_get xs (length front) ≡ Some y = ap (λ zs. slice_get zs (length front)) e ∙ at_front front ys y in
    rise (length front) w.0 y z (omega (arith, w.1, longer front y)) here there
  where
    longer : {A : Type 0} (us : List A) (u : A) → length (us ++ u ∷ []) ≡ suc (length us)
    longer [] u = refl
    longer (v ∷ us) u = ap suc (longer us u)

-- ---- one list

-- a list alone is merged into itself
taken_on : (lists : List (List Closed)) (taken left : List Closed) → Takes lists taken (left ∷ []) → Takes lists (taken ++ left) ([] ∷ [])
taken_on lists taken [] takes = subst (λ es. Takes lists es ([] ∷ [])) (sym (append-nil taken)) takes
taken_on lists taken (e ∷ left) takes =
    subst (λ es. Takes lists es ([] ∷ [])) (append_assoc taken (e ∷ []) left) (taken_on lists (taken ++ e ∷ []) left (one {s =
    zero} {e = e} {rest = left} takes (record { here = refl; least = λ t f more at. least t f more at }))) where
      least : (t : ℕ) (f : Closed) (more : List Closed) → slice_get ((e ∷ left) ∷ []) t ≡ Some (f ∷ more) →
          is_gt (origin_cmp push_cmp (origin_in e.1) (origin_in f.1)) ≡ false
      least zero f more at =
          let same : e ≡ f = same_Some e f (ap (λ es. slice_get es 0) (same_Some (e ∷ left) (f ∷ more) at)) in
          ap (λ (g : Closed). is_gt (origin_cmp push_cmp (origin_in e.1) (origin_in g.1))) (sym same)
          ∙ ap is_gt (tied_itself (origin_total push_cmp_total) (origin_in e.1))
      least (suc t) f more at = absurd (none-some (f ∷ more) at)

pub one_merged : (es : List Closed) → IsMerged (es ∷ []) es
one_merged es = ([] ∷ [], taken_on (es ∷ []) [] es nothing, refl)

-- ---- which entries are taken, and which are left

module _ {lists : List (List Closed)} where
  -- what is left of a list is its end
  left_ends : {taken : List Closed} {rests : List (List Closed)} → Takes lists taken rests → (t : ℕ) (rest : List Closed) → slice_get rests t ≡ Some rest →
      (es : List Closed) × (slice_get lists t ≡ Some es) × EndsWith es rest
  left_ends nothing t rest at = (rest, at, ends_itself rest)
  left_ends (one {taken} {rests} {s} {e} {rest = more} takes least) t rest at = elim (set_at rests s t more rest at) [
    | inl same ↦ (let w = left_ends takes s (e ∷ more) least.here in
        (w.0, ap (slice_get lists) same.0 ∙ w.1, subst (EndsWith w.0) (sym same.1) (ends_rest w.0 e more w.2)))
    | inr other ↦ left_ends takes t rest other.1
  ]

  -- what is taken is of a list
  pub taken_of : {taken : List Closed} {rests : List (List Closed)} → Takes lists taken rests → (a : Closed) → IsIn taken a →
      (t : ℕ) × (es : List Closed) × (slice_get lists t ≡ Some es) × IsIn es a
  taken_of nothing a (i, at) = absurd (none-some a at)
  taken_of (one {taken} {rests} {s} {e} {rest = more} takes least) a (i, at) = elim (at-push taken e i a at) [
    | inl old ↦ taken_of takes a (i, old)
    | inr last ↦ (let w = left_ends takes s (e ∷ more) least.here in
        (s, w.0, w.1, ends_in w.0 (e ∷ more) a w.2 (0, ap (λ (g : Closed). Some g) (sym last.1))))
  ]

  -- and each entry of a list is taken or left
  taken_or_left : {taken : List Closed} {rests : List (List Closed)} → Takes lists taken rests → (t : ℕ) (es : List Closed) (a : Closed) →
      slice_get lists t ≡ Some es → IsIn es a → IsIn taken a ⊎ ((rest : List Closed) × (slice_get rests t ≡ Some rest) × IsIn rest a)
  taken_or_left nothing t es a at i = inr (es, at, i)
  taken_or_left (one {taken} {rests} {s} {e} {rest = more} takes least) t es a at i = elim (taken_or_left takes t es a at i) [
    | inl old ↦ inl (old.0, at_before taken (e ∷ []) old.0 a old.1)
    | inr (rest, there, left) ↦ elim (cases_eq t s) [
      | inr other ↦ inr (rest, set_there rests s t more other ∙ there, left)
      | inl same ↦ go rest (same_Some rest (e ∷ more) (sym there ∙ ap (slice_get rests) same ∙ least.here)) left same
    ]
  ]
    where
      go : (rest : List Closed) → rest ≡ e ∷ more → IsIn rest a → t ≡ s → IsIn (taken ++ e ∷ []) a
          ⊎ ((left : List Closed) × (slice_get (set rests s more) t ≡ Some left) × IsIn left a)
      go rest is (j, left) same = by j (ap (λ xs. slice_get xs j) (sym is) ∙ left)
        where
          by : (j : ℕ) → slice_get (e ∷ more) j ≡ Some a → IsIn (taken ++ e ∷ []) a
              ⊎ ((left : List Closed) × (slice_get (set rests s more) t ≡ Some left) × IsIn left a)
          by zero found = inl (length taken, at_seam taken e ∙ found)
          by (suc j) found = let there = set_here rests s more (slice_get_within rests s (e ∷ more) least.here) in
              inr (more, ap (slice_get (set rests s more)) same ∙ there, (j, found))

-- where nothing is left, each is taken
pub merged_all : (lists : List (List Closed)) (es : List Closed) → IsMerged lists es → (t : ℕ) (list : List Closed) (a : Closed) →
    slice_get lists t ≡ Some list → IsIn list a → IsIn es a
merged_all lists es (rests, takes, none) t list a at i = elim (taken_or_left takes t list a at i) [
  | inl taken ↦ taken
  | inr (rest, there, left) ↦ absurd (empty rests t rest there left none)
]
  where
    empty : (xss : List (List Closed)) (t : ℕ) (xs : List Closed) → slice_get xss t ≡ Some xs → IsIn xs a → total xss ≡ 0 → ⊥
    empty [] t xs at_t i z = none-some xs at_t
    empty (ys ∷ xss) zero xs at_t i z = omega (arith, sum_by_first length ys xss, slice_get_within xs i.0 a i.1, ap length (same_Some ys xs at_t))
    empty (ys ∷ xss) (suc t) xs at_t i z = empty xss t xs at_t i (omega (arith, sum_by_first length ys xss))

-- ---- their order

module _ {Sooner : Closed → Closed → Type 0} (lists : List (List Closed)) (trans : (a b c : Closed) → Sooner a b → Sooner b c → Sooner a c)
    (rise : (t : ℕ) (es : List Closed) → slice_get lists t ≡ Some es → Rises Sooner es)
    (apart : (s t : ℕ) (es fs : List Closed) (a b : Closed) → s ≢ t → slice_get lists s ≡ Some es → slice_get lists t ≡ Some fs → IsIn es a → IsIn fs b →
    is_gt (origin_cmp push_cmp (origin_in a.1) (origin_in b.1)) ≡ false → Sooner a b) where
  -- what is taken rises, and is before all that is left
  abbrev IsTakenInOrder : List Closed → List (List Closed) → Type 0
  IsTakenInOrder taken rests = Rises Sooner taken × ((a : Closed) → IsIn taken a → (t : ℕ) (rest : List Closed) (b : Closed) → slice_get rests t ≡ Some rest →
      IsIn rest b → Sooner a b)

  module _ (taken : List Closed) (rests : List (List Closed)) (s : ℕ) (e : Closed) (more : List Closed) (takes : Takes lists taken rests)
      (least : IsLeastFirst rests s e more) (old : IsTakenInOrder taken rests) where
    rises : Rises Sooner (taken ++ e ∷ [])
    rises i j a b lt at_a at_b = grind (arith, at-push, slice_get_within)

    -- the one that is taken now is before what begins another list, and so before all of it
    next : (t : ℕ) (rest : List Closed) (b : Closed) → t ≢ s → slice_get rests t ≡ Some rest → IsIn rest b → Sooner e b
    next t [] b ne there (i, at) = absurd (none-some b at)
    next t (f ∷ rest) b ne there (i, at) = by i at
      where
        mine : (es : List Closed) × (slice_get lists s ≡ Some es) × EndsWith es (e ∷ more)
        mine = left_ends takes s (e ∷ more) least.here

        other : (es : List Closed) × (slice_get lists t ≡ Some es) × EndsWith es (f ∷ rest)
        other = left_ends takes t (f ∷ rest) there

        sooner : Sooner e f
        sooner = apart s t mine.0 other.0 e f (λ same. ne (sym same)) mine.1 other.1 (ends_in mine.0 (e ∷ more) e mine.2 (0, refl))
            (ends_in other.0 (f ∷ rest) f other.2 (0, refl)) (least.least t f rest there)

        by : (j : ℕ) → slice_get (f ∷ rest) j ≡ Some b → Sooner e b
        by zero found = subst (Sooner e) (same_Some f b found) sooner
        by (suc j) found = trans e f b sooner (ends_rise other.0 f rest b (rise t other.0 other.1) other.2 (j, found))

    later : (a : Closed) → IsIn (taken ++ e ∷ []) a → (t : ℕ) (rest : List Closed) (b : Closed) → slice_get (set rests s more) t ≡ Some rest → IsIn rest b →
        Sooner a b
    later a (i, at) t rest b there left = elim (set_at rests s t more rest there) [
      | inl same ↦ (let mine = left_ends takes s (e ∷ more) least.here in
          let in_more : IsIn more b = (left.0, ap (λ xs. slice_get xs left.0) (sym same.1) ∙ left.1) in
          elim (at-push taken e i a at) [
            | inl first ↦ old.1 a (i, first) s (e ∷ more) b least.here (suc in_more.0, in_more.1)
            | inr last ↦ subst (λ x. Sooner x b) (sym last.1) (ends_rise mine.0 e more b (rise s mine.0 mine.1) mine.2 in_more)
          ])
      | inr other ↦ elim (at-push taken e i a at) [
        | inl first ↦ old.1 a (i, first) t rest b other.1 left
        | inr last ↦ subst (λ x. Sooner x b) (sym last.1) (next t rest b other.0 other.1 left)
      ]
    ]

  taken_rise : {taken : List Closed} {rests : List (List Closed)} → Takes lists taken rests → IsTakenInOrder taken rests
  taken_rise nothing = ((λ i j a b lt at_a at_b. absurd (none-some a at_a)), λ a i. absurd (none-some a i.1))
  taken_rise (one {taken} {rests} {s} {e} {rest = more} takes least) = let old = taken_rise takes in
      (rises taken rests s e more takes least old, later taken rests s e more takes least old)

  pub merged_rise : (es : List Closed) → IsMerged lists es → Rises Sooner es
  merged_rise es merged = (taken_rise merged.1).0

-- Boxes that nothing holds are taken out word by word; what is left holds itself, and is the largest set that does.
use Rattle.std.proofs.Common.{◌≡◌, ◌≢◌, ◌↔◌, ◌<◌, ◌≤◌, ◌+◌, ◌-◌, ◌*◌, ◌/◌, ◌%◌, ◌^◌, ℕ, Bool, true, false, not, eqb, ◌&&◌, ◌||◌, ◌⊎◌, List, [], ◌∷◌, IsTrue}
use Rattle.std.proofs.Common.{length, get_or, set, refl, sym, ap, subst, ◌∙◌, inl, inr, arith}
use Rattle.std.specs.Int.{bit_not, trailing_zeros, w64}
use Rattle.std.specs.Int.RustNames.{bit_and, bit_or}
use Rattle.std.proofs.lemmas.Bool.{false≢true, true≢false, cases_eq, cases_lt, or_cases, or_left, or_right, eqb-true, eqb-false, not-true, not_from_false}
use Rattle.std.proofs.lemmas.Bool.{and_parts, and_from, or_parts, not-false}
use Rattle.std.proofs.lemmas.List.{get_or-set_same, get_or-set_other, set-get_or}
use Rattle.std.proofs.lemmas.List.Folds.{list_any_at}
use Rattle.std.specs.List.{list_any}
use Rattle.std.proofs.lemmas.List.Sums.{sum_by-set}
use Rattle.std.proofs.lemmas.Nat.{and_le_l}
use Rattle.grid.specs.declared.masks.TheConstants.{WORD_BITS}
use Rattle.grid.specs.Squares.{Squares, contains}
use Rattle.grid.specs.Masks.{has_bit}
use Rattle.grid.proofs.lemmas.Squares.{place_of_member}
use Rattle.doom.specs.declared.holds.Holds.{Holds}
use Rattle.area.specs.Words.{word_bit, squares_of}
use Rattle.doom.specs.inside.Locking.{AreHeld, AreLocked, AreWithin, IsHeldBy, IsHeldTwice, IsLargest, IsLook, IsPass, weight}
use Rattle.area.proofs.lemmas.WordBits.{word_bit-not, word_bit-or, word_bit-zero, has_bit-at, has_bit-parts, has_bit_inside, square_parts}
use Rattle.area.proofs.lemmas.WordSets.{bit_member, lowest_bit, member_bit}
use Rattle.area.proofs.lemmas.Growing.{and_bit, bit_and_from}

-- ---- what holds a square

-- what holds a square among some holds it among more
pub held_by_more : (fast : List ℕ) (by : ℕ) (few more : Squares) (q : ℕ) → AreWithin few more → IsHeldBy fast by few q → IsHeldBy fast by more q
held_by_more fast by few more q within (inl anyway) = inl anyway
held_by_more fast by few more q within (inr (inl after)) = inr (inl (within (q + by) after))
held_by_more fast by few more q within (inr (inr (p, e, before))) = inr (inr (p, e, within p before))

-- the bits tell it
held_bits : (fast words : List ℕ) (q by : ℕ) (here before after : Bool) → here ≡ has_bit fast q → ((i : ℕ) → i + by ≡ q → before ≡ has_bit words i) →
    (q < by → before ≡ false) → after ≡ has_bit words (q + by)
    → (((here || before) || after) ≡ true) ↔ IsHeldBy fast by (squares_of words) q
held_bits fast words q by here before after anyway on_before none on_after = (
  λ h. elim (or_cases (here || before) after h) [
    | inl two ↦ elim (or_cases here before two) [
      | inl a ↦ inl (sym anyway ∙ a)
      | inr b ↦ elim (cases_lt q by) [
        | inl low ↦ absurd (false≢true (sym (none low) ∙ b))
        | inr ge ↦ inr (inr (q - by, omega (arith, ge), bit_member words (q - by) (sym (on_before (q - by) (omega (arith, ge))) ∙ b)))
      ]
    ]
    | inr a ↦ inr (inl (bit_member words (q + by) (sym on_after ∙ a)))
  ],
  λ held. elim held [
    | inl a ↦ or_left (here || before) after (or_left here before (anyway ∙ a))
    | inr (inl a) ↦ or_right (here || before) after (on_after ∙ member_bit words (q + by) a)
    | inr (inr (p, e, b)) ↦ or_left (here || before) after (or_right here before (on_before p e ∙ member_bit words p b))
  ],
)

-- the same for a word
pub held_word : (fast words : List ℕ) (place by before after j : ℕ) → j < WORD_BITS
    → ((i : ℕ) → i + by ≡ WORD_BITS * place + j → word_bit before j ≡ has_bit words i) → (WORD_BITS * place + j < by → word_bit before j ≡ false)
    → word_bit after j ≡ has_bit words (WORD_BITS * place + j + by)
    → (word_bit (bit_or (bit_or (get_or fast place 0) before) after) j ≡ true) ↔ IsHeldBy fast by (squares_of words) (WORD_BITS * place + j)
held_word fast words place by before after j lt on_before none on_after =
    let three = word_bit-or (bit_or (get_or fast place 0) before) after j ∙
    ap (λ (b : Bool). b || word_bit after j) (word_bit-or (get_or fast place 0) before j) in
    let bits = held_bits fast words (WORD_BITS * place + j) by (word_bit (get_or fast place 0) j) (word_bit before j) (word_bit after j)
    (sym (has_bit-at fast place j lt)) on_before none on_after in
    (λ h. bits.0 (sym three ∙ h), λ h. three ∙ bits.1 h)

-- ---- a look at one word

module _ (holds : Holds) (cols : ℕ) (words : List ℕ) (place across along : ℕ) (inside : place < length words)
    (on_across : (j : ℕ) → j < WORD_BITS → (word_bit across j ≡ true) ↔ IsHeldBy holds.across 1 (squares_of words) (WORD_BITS * place + j))
    (on_along : (j : ℕ) → j < WORD_BITS → (word_bit along j ≡ true) ↔ IsHeldBy holds.along cols (squares_of words) (WORD_BITS * place + j)) where
  abbrev pub left : ℕ
  left = bit_and (bit_and (get_or words place 0) across) along

  bit_there : (ws : List ℕ) (q : ℕ) → q / WORD_BITS ≡ place → has_bit ws q ≡ word_bit (get_or ws place 0) (q % WORD_BITS)
  bit_there ws q e = has_bit-parts ws q ∙ ap (λ (k : ℕ). word_bit (get_or ws k 0) (q % WORD_BITS)) e

  left_there : (q : ℕ) → q / WORD_BITS ≡ place → has_bit (set words place left) q ≡ word_bit left (q % WORD_BITS)
  left_there q e = bit_there (set words place left) q e ∙ ap (λ (w : ℕ). word_bit w (q % WORD_BITS)) (get_or-set_same words place left 0 inside)

  left_other : (q : ℕ) → q / WORD_BITS ≢ place → has_bit (set words place left) q ≡ has_bit words q
  left_other q ne = grind (arith, has_bit-parts, get_or-set_other)

  number : (q : ℕ) → q / WORD_BITS ≡ place → WORD_BITS * place + q % WORD_BITS ≡ q
  number q e = omega (arith, e)

  -- a member of the word stays where both axes hold it
  stays : (q : ℕ) → q / WORD_BITS ≡ place → (has_bit (set words place left) q ≡ true) ↔ ((has_bit words q ≡ true) × IsHeldTwice holds cols (squares_of words) q)
  stays q e = grind (arith, and_bit, left_there, bit_there, number, square_parts, bit_and_from)

  kept_bits : (q : ℕ) → (has_bit (set words place left) q ≡ true) ↔
      ((has_bit words q ≡ true) × (q / WORD_BITS ≡ place → IsHeldTwice holds cols (squares_of words) q))
  kept_bits q = grind (arith, cases_eq, stays, left_other)

  lighter : left ≢ get_or words place 0 → weight (set words place left) < weight words
  lighter ne = grind (arith, sum_by-set, and_le_l)

  pub looked : IsLook holds cols place words (set words place left) (not (eqb left (get_or words place 0)))
  looked = record {
    kept = kept_bits;
    less = λ h. lighter (eqb-false left (get_or words place 0) (not-true (eqb left (get_or words place 0)) h));
    same = λ h. ap (set words place) (eqb-true left (get_or words place 0) (not-false (eqb left (get_or words place 0)) h)) ∙ set-get_or words place 0;
  }

-- ---- a pass over words

-- the words at some places have been looked at
pub record IsPassOver (holds : Holds) (cols : ℕ) (seen : ℕ → Type 0) (old now : List ℕ) (went : Bool) : Type 0 where
  pub within : AreWithin (squares_of now) (squares_of old)
  pub keeps : (others : Squares) → AreHeld holds cols others → AreWithin others (squares_of old) → AreWithin others (squares_of now)
  pub less : went ≡ true → weight now < weight old
  pub same : went ≡ false → now ≡ old
  pub held : went ≡ false → (q : ℕ) → seen (q / WORD_BITS) → has_bit old q ≡ true → IsHeldTwice holds cols (squares_of old) q

-- the places before another
abbrev pub IsBefore : ℕ → ℕ → Type 0
IsBefore place k = k < place

-- the places of the words of the first boxes
abbrev pub IsPlaceOf : Squares → ℕ → ℕ → Type 0
IsPlaceOf boxes n k = (i : ℕ) × (i < n) × (get_or boxes i 0 / WORD_BITS ≡ k)

pub pass_none : (holds : Holds) (cols : ℕ) (seen : ℕ → Type 0) (words : List ℕ) → ((k : ℕ) → seen k → ⊥) → IsPassOver holds cols seen words words false
pass_none holds cols seen words none = grind arith

-- a word without members needs no look
pub looked_empty : (holds : Holds) (cols : ℕ) (words : List ℕ) (place : ℕ) → get_or words place 0 ≡ 0 → IsLook holds cols place words words false
looked_empty holds cols words place none = grind (arith, false≢true, has_bit-parts, word_bit-zero)

-- a look takes no member out that a set within the members blocks
look_within : (holds : Holds) (cols : ℕ) (place : ℕ) (old new : List ℕ) (went : Bool) → IsLook holds cols place old new went →
    AreWithin (squares_of new) (squares_of old)
look_within holds cols place old new went look q h = bit_member old q ((look.kept q).0 (member_bit new q h)).0

look_keeps : (holds : Holds) (cols : ℕ) (place : ℕ) (old new : List ℕ) (went : Bool) → IsLook holds cols place old new went → (others : Squares) →
    AreHeld holds cols others → AreWithin others (squares_of old) → AreWithin others (squares_of new)
look_keeps holds cols place old new went look others blocked within q h =
    bit_member new q ((look.kept q).1 (
      member_bit old q (within q h),
      λ _. (
        held_by_more holds.across 1 others (squares_of old) q within (blocked q h).0,
        held_by_more holds.along cols others (squares_of old) q within (blocked q h).1,
      ),
    ))

pass_one_more : (holds : Holds) (cols : ℕ) (place : ℕ) (seen more : ℕ → Type 0) (old now new : List ℕ) (went gone both : Bool) →
    ((k : ℕ) → more k → (k ≡ place) ⊎ seen k) → both ≡ (went || gone)
    → IsLook holds cols place now new gone → IsPassOver holds cols seen old now went → IsPassOver holds cols more old new both
pass_one_more holds cols place seen more old now new went gone both last e look pass = subst (IsPassOver holds cols more old new) (sym e) (record {
  within = λ q h. pass.within q (look_within holds cols place now new gone look q h);
  keeps = λ others blocked within. look_keeps holds cols place now new gone look others blocked (pass.keeps others blocked within);
  less = less went gone pass.less pass.same look.less look.same;
  same = λ none. (let (a, b) = or_parts went gone none in look.same b ∙ pass.same a);
  held = λ none q there h.
      (let (a, b) = or_parts went gone none in
      let start : now ≡ old = pass.same a in
      let end : new ≡ now = look.same b in
      elim (last (q / WORD_BITS) there) [
        | inl at ↦ subst (λ (ws : List ℕ). IsHeldTwice holds cols (squares_of ws) q) start
            (((look.kept q).0 (ap (λ (ws : List ℕ). has_bit ws q) (end ∙ start) ∙ h)).1 at)
        | inr before ↦ pass.held a q before h
      ]);
})
  where
    less : (a b : Bool) → (a ≡ true → weight now < weight old) → (a ≡ false → now ≡ old) → (b ≡ true → weight new < weight now) → (b ≡ false → new ≡ now) →
        (a || b) ≡ true → weight new < weight old
    less true true f g h i _ = (let x = f refl in let y = h refl in omega (arith, x, y))
    less true false f g h i _ = subst (λ (ws : List ℕ). weight ws < weight old) (sym (i refl)) (f refl)
    less false true f g h i _ = subst (λ (ws : List ℕ). weight new < weight ws) (g refl) (h refl)
    less false false f g h i none = absurd (false≢true none)

pass_over_all : (holds : Holds) (cols : ℕ) (seen : ℕ → Type 0) (old now : List ℕ) (went : Bool) → ((q : ℕ) → has_bit old q ≡ true → seen (q / WORD_BITS)) →
    IsPassOver holds cols seen old now went → IsPass holds cols old now went
pass_over_all holds cols seen old now went all pass = grind (arith, member_bit)

-- word by word
pub pass_more : (holds : Holds) (cols : ℕ) (place : ℕ) (old now new : List ℕ) (went gone both : Bool) → both ≡ (went || gone) →
    IsLook holds cols place now new gone → IsPassOver holds cols (IsBefore place) old now went
    → IsPassOver holds cols (IsBefore (place + 1)) old new both
pass_more holds cols place old now new went gone both e look pass =
    pass_one_more holds cols place (IsBefore place) (IsBefore (place + 1)) old now new went gone both last e look pass
  where
    last : (k : ℕ) → k < place + 1 → (k ≡ place) ⊎ (k < place)
    last k lt = elim (cases_eq k place) [
      | inl e ↦ inl e
      | inr ne ↦ inr (omega (arith, lt, ne))
    ]

pub pass_done : (holds : Holds) (cols : ℕ) (place : ℕ) (old now : List ℕ) (went : Bool) → length old ≤ place →
    IsPassOver holds cols (IsBefore place) old now went → IsPass holds cols old now went
pass_done holds cols place old now went all pass =
    pass_over_all holds cols (IsBefore place) old now went (λ q h. (let lt = has_bit_inside old q h in omega (arith, lt, all))) pass

-- box by box
pub pass_box : (holds : Holds) (cols : ℕ) (boxes : Squares) (n square : ℕ) (old now new : List ℕ) (went gone both : Bool) → square ≡ get_or boxes n 0 →
    both ≡ (went || gone) → IsLook holds cols (square / WORD_BITS) now new gone
    → IsPassOver holds cols (IsPlaceOf boxes n) old now went → IsPassOver holds cols (IsPlaceOf boxes (n + 1)) old new both
pass_box holds cols boxes n square old now new went gone both at e look pass =
    pass_one_more holds cols (square / WORD_BITS) (IsPlaceOf boxes n) (IsPlaceOf boxes (n + 1)) old now new went gone both last e look pass
  where
    last : (k : ℕ) → IsPlaceOf boxes (n + 1) k → (k ≡ square / WORD_BITS) ⊎ IsPlaceOf boxes n k
    last k (i, lt, f) = elim (cases_eq i n) [
      | inl same ↦ inl (sym f ∙ ap (λ (x : ℕ). x / WORD_BITS) (ap (λ (m : ℕ). get_or boxes m 0) same ∙ sym at))
      | inr ne ↦ inr (i, omega (arith, lt, ne), f)
    ]

pub pass_boxes : (holds : Holds) (cols : ℕ) (boxes : Squares) (n : ℕ) (old now : List ℕ) (went : Bool) → length boxes ≤ n → AreWithin (squares_of old) boxes →
    IsPassOver holds cols (IsPlaceOf boxes n) old now went → IsPass holds cols old now went
pass_boxes holds cols boxes n old now went all among pass = pass_over_all holds cols (IsPlaceOf boxes n) old now went there pass
  where
    there : (q : ℕ) → has_bit old q ≡ true → IsPlaceOf boxes n (q / WORD_BITS)
    there q h = (let (i, lt, e) = place_of_member boxes q 0 (among q (bit_member old q h)) in (i, omega (arith, lt, all), ap (λ (x : ℕ). x / WORD_BITS) e))

-- ---- all passes

-- some of the boxes, which every set of boxes that holds itself is within
pub record IsPeeling (holds : Holds) (cols : ℕ) (boxes members : Squares) : Type 0 where
  pub some : AreWithin members boxes
  pub largest : (others : Squares) → AreWithin others boxes → AreHeld holds cols others → AreWithin others members

pub peeling_none : (holds : Holds) (cols : ℕ) (boxes : Squares) → IsPeeling holds cols boxes boxes
peeling_none holds cols boxes = record { some = λ q h. h; largest = λ others within held. within }

pub peeling_pass : (holds : Holds) (cols : ℕ) (boxes : Squares) (old new : List ℕ) (went : Bool) → IsPass holds cols old new went →
    IsPeeling holds cols boxes (squares_of old) → IsPeeling holds cols boxes (squares_of new)
peeling_pass holds cols boxes old new went pass p = record {
  some = λ q h. p.some q (pass.within q h);
  largest = λ others within held. pass.keeps others held (p.largest others within held);
}

pub peeling_done : (holds : Holds) (cols : ℕ) (boxes : Squares) (old new : List ℕ) (went : Bool) → went ≡ false → IsPass holds cols old new went →
    IsPeeling holds cols boxes (squares_of old) → IsLargest holds cols boxes (squares_of new)
peeling_done holds cols boxes old new went none pass p =
    let q = peeling_pass holds cols boxes old new went pass p in
    record { some = q.some; held = pass.held none; largest = q.largest }

-- a remainder by the bits of a word is the number, if that is less
pub pass_narrow : (holds : Holds) (cols : ℕ) (old new : List ℕ) (went : Bool) → cols < WORD_BITS → IsPass holds (cols % WORD_BITS) old new went →
    IsPass holds cols old new went
pass_narrow holds cols old new went narrow =
    subst (λ (n : ℕ). IsPass holds n old new went) (let same : cols % WORD_BITS ≡ cols = omega (arith, narrow) in same)

-- ---- members that are not in another set

pub other_there : (members others : List ℕ) (place : ℕ) → get_or members place 0 < 2 ^ 64 → get_or others place 0 < 2 ^ 64 →
    bit_and (get_or members place 0) (bit_not w64 (get_or others place 0)) ≢ 0 → (q : ℕ) × (has_bit members q ≡ true) × (has_bit others q ≡ false)
other_there members others place fits others_fit some =
    let rest : ℕ = bit_and (get_or members place 0) (bit_not w64 (get_or others place 0)) in
    let few = and_le_l (get_or members place 0) (bit_not w64 (get_or others place 0)) in
    let low = lowest_bit rest (omega (arith, some)) (omega (arith, few, fits)) in
    let j : ℕ = trailing_zeros w64 rest in
    let (here, off) = and_bit (get_or members place 0) (bit_not w64 (get_or others place 0)) j low.1 in (
      WORD_BITS * place + j,
      has_bit-at members place j low.0 ∙ here,
      has_bit-at others place j low.0 ∙
          not-true (word_bit (get_or others place 0) j) (sym (word_bit-not (get_or others place 0) j others_fit low.0) ∙ off),
    )

-- where no word tells of one, there is none
pub other_nowhere : (members others : List ℕ) (n q : ℕ) → length members ≤ n → ((k : ℕ) → get_or others k 0 < 2 ^ 64) →
    ((k : ℕ) → k < n → bit_and (get_or members k 0) (bit_not w64 (get_or others k 0)) ≡ 0) → has_bit members q ≡ true → has_bit others q ≡ false → ⊥
other_nowhere members others n q all fit none here off =
    let k : ℕ = q / WORD_BITS in
    let j : ℕ = q % WORD_BITS in
    let small : j < WORD_BITS = (square_parts q).1 in
    let lt = has_bit_inside members q here in
    let rest = none k (omega (arith, lt, all)) in
    let there = bit_and_from (get_or members k 0) (bit_not w64 (get_or others k 0)) j (sym (has_bit-parts members q) ∙
    here) (word_bit-not (get_or others k 0) j (fit k) small ∙ not_from_false (word_bit (get_or others k 0) j) (sym (has_bit-parts others q) ∙ off)) in
    true≢false (sym there ∙ (ap (λ (w : ℕ). word_bit w j) rest ∙ word_bit-zero j))

-- where all members are boxes, a look at the boxes tells of one
pub other_box : (boxes : Squares) (members others : List ℕ) (told : Bool) → AreWithin (squares_of members) boxes →
    told ≡ list_any (λ q. has_bit members q && not (has_bit others q)) boxes
    → IsTrue told ↔ ((q : ℕ) × (has_bit members q ≡ true) × (has_bit others q ≡ false))
other_box boxes members others told among e = (
  λ h.
      (let (q, passes) = of_any boxes (sym e ∙ h) in
      let (here, off) = and_parts (has_bit members q) (not (has_bit others q)) passes in
      (q, here, not-true (has_bit others q) off)),
  λ (q, here, off).
      (let (i, lt, at) = place_of_member boxes q 0 (among q (bit_member members q here)) in
      e ∙ list_any_at test boxes i 0 lt (ap test at ∙ and_from (has_bit members q) (not (has_bit others q)) here (ap not off))),
)
  where
    test : ℕ → Bool
    test = λ q. has_bit members q && not (has_bit others q)

    of_any : (xs : List ℕ) → list_any test xs ≡ true → (q : ℕ) × (test q ≡ true)
    of_any [] h = absurd (false≢true h)
    of_any (x ∷ xs) h = elim (or_cases (test x) (list_any test xs) h) [
      | inl here ↦ (x, here)
      | inr later ↦ of_any xs later
    ]

-- some of the boxes are locked exactly where a member of the largest set that holds itself is none of the goals
pub locked_by_bits : (holds : Holds) (cols : ℕ) (boxes : Squares) (members : List ℕ) (told : Bool) → IsLargest holds cols boxes (squares_of members)
    → IsTrue told ↔ ((q : ℕ) × (has_bit members q ≡ true) × (has_bit holds.goals q ≡ false)) → IsTrue told ↔
    ((part : Squares) × AreLocked holds cols boxes part)
locked_by_bits holds cols boxes members told largest tells = (
  λ h. (let (q, here, off) = tells.0 h in (squares_of members, record { some = largest.some; off = (q, bit_member members q here, off); held = largest.held })),
  λ (part, locked). (let (q, here, off) = locked.off in tells.1 (q, member_bit members q (largest.largest part locked.some locked.held q here), off)),
)

-- boxes that are locked among some are so among as many
pub locked_among : (holds : Holds) (cols : ℕ) (few more part : Squares) → AreWithin few more → AreLocked holds cols few part → AreLocked holds cols more part
locked_among holds cols few more part within locked = record { some = λ q h. within q (locked.some q h); off = locked.off; held = locked.held }

-- where a set has just these boxes, what is locked of the one is locked of the others
pub locked_of_words : (holds : Holds) (cols : ℕ) (boxes : Squares) (words : List ℕ) (told : Bool) → ((q : ℕ) → has_bit words q ≡ contains boxes q) →
    IsTrue told ↔ ((part : Squares) × AreLocked holds cols (squares_of words) part) → IsTrue told ↔ ((part : Squares) × AreLocked holds cols boxes part)
locked_of_words holds cols boxes words told are tells = (
  λ h. (let (part, locked) = tells.0 h in (part, locked_among holds cols (squares_of words) boxes part (λ q m. sym (are q) ∙ member_bit words q m) locked)),
  λ (part, locked). tells.1 (part, locked_among holds cols boxes (squares_of words) part (λ q m. bit_member words q (are q ∙ m)) locked),
)

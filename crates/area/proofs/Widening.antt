-- Floods over one set of free squares, by their numbers: visits to words, and rounds of them.
use Rattle.std.proofs.Common.{◌≡◌, ◌≢◌, ℕ, ◌+◌, ◌-◌, ◌*◌, ◌/◌, ◌%◌, ◌^◌, ◌<◌, ◌≤◌, Bool, true, false, not, eqb, ◌&&◌}
use Rattle.std.proofs.Common.{◌||◌, ◌↔◌, List, length, get_or, set, inl, inr, refl, sym, ap, subst, ◌∙◌, arith}
use Rattle.std.specs.Int.{bit_not, w64}
use Rattle.std.specs.Int.RustNames.{bit_and, bit_or}
use Rattle.std.proofs.lemmas.Bool.{cases_Bool, cases_lt, cases_eq, not-true, eqb-true, eqb-false, or_cases, true≢false}
use Rattle.std.proofs.lemmas.Bool.{not-false, or_parts}
use Rattle.std.proofs.lemmas.List.{get_or-set_same, get_or-set_other, length-set, ext_get_or}
use Rattle.std.proofs.lemmas.Nat.{le_or_l}
use Rattle.grid.specs.declared.masks.TheConstants.{WORD_BITS}
use Rattle.grid.specs.Masks.{has_bit}
use Rattle.area.specs.Words.{word_bit}
use Rattle.area.specs.inside.Flooding.{AllPass, IsGrown, PassesOn, room_left}
use Rattle.area.specs.inside.RoomFloods.{IsBeside, PassesOver, IsWidened, IsFull, IsVisit, IsPassing, IsRound}
use Rattle.area.specs.inside.RoomFloods.{IsWidening}
use Rattle.area.proofs.lemmas.WordBits.{word_bit-and, word_bit-not, word_bit_inside, has_bit-at, has_bit-parts}
use Rattle.area.proofs.lemmas.WordBits.{has_bit_inside, square_parts}
use Rattle.area.proofs.lemmas.Growing.{or_bit, and_bit, bit_or_left, bit_or_right, bit_and_from}
use Rattle.area.proofs.Visits.{bit_same, written_kept, written_sound, written_less, room_less}

-- ---- one word

-- the numbers beside those of a set, gathered from the four sides
pub beside_bits : (words : List ℕ) (cols q j a b d e : ℕ)
    → ((i : ℕ) → i + 1 ≡ q → word_bit a j ≡ has_bit words i) → (q < 1 → word_bit a j ≡ false)
    → ((i : ℕ) → i ≡ q + 1 → word_bit b j ≡ has_bit words i)
    → ((i : ℕ) → i + cols ≡ q → word_bit d j ≡ has_bit words i) → (q < cols → word_bit d j ≡ false)
    → ((i : ℕ) → i ≡ q + cols → word_bit e j ≡ has_bit words i)
    → (word_bit (bit_or (bit_or a b) (bit_or d e)) j ≡ true) ↔ ((p : ℕ) × IsBeside cols p q × (has_bit words p ≡ true))
beside_bits words cols q j a b d e left none_left right up none_up down = (there, back)
  where
    there : word_bit (bit_or (bit_or a b) (bit_or d e)) j ≡ true
        → (p : ℕ) × IsBeside cols p q × (has_bit words p ≡ true)
    there h = elim (or_bit (bit_or a b) (bit_or d e) j h) [
      | inl row ↦ elim (or_bit a b j row) [
        | inl x ↦ elim (cases_lt q 1) [
          | inl first ↦ absurd (true≢false (sym x ∙ none_left first))
          | inr more ↦ (let z : q - 1 + 1 ≡ q = omega arith in (q - 1, inl (inl z), sym (left (q - 1) z) ∙ x))
        ]
        | inr x ↦ (q + 1, inl (inr refl), sym (right (q + 1) refl) ∙ x)
      ]
      | inr column ↦ elim (or_bit d e j column) [
        | inl x ↦ elim (cases_lt q cols) [
          | inl first ↦ absurd (true≢false (sym x ∙ none_up first))
          | inr more ↦ (let z : q - cols + cols ≡ q = omega arith in (q - cols, inr (inl z), sym (up (q - cols) z) ∙ x))
        ]
        | inr x ↦ (q + cols, inr (inr refl), sym (down (q + cols) refl) ∙ x)
      ]
    ]

    from : (p : ℕ) → IsBeside cols p q → has_bit words p ≡ true → word_bit (bit_or (bit_or a b) (bit_or d e)) j ≡ true
    from p (inl (inl z)) h = bit_or_left (bit_or a b) (bit_or d e) j (bit_or_left a b j (left p z ∙ h))
    from p (inl (inr z)) h = bit_or_left (bit_or a b) (bit_or d e) j (bit_or_right a b j (right p z ∙ h))
    from p (inr (inl z)) h = bit_or_right (bit_or a b) (bit_or d e) j (bit_or_left d e j (up p z ∙ h))
    from p (inr (inr z)) h = bit_or_right (bit_or a b) (bit_or d e) j (bit_or_right d e j (down p z ∙ h))

    back : (p : ℕ) × IsBeside cols p q × (has_bit words p ≡ true) → word_bit (bit_or (bit_or a b) (bit_or d e)) j ≡ true
    back w = from w.0 w.1 w.2

-- nothing is added
pub widened_none : (cols : ℕ) (free words : List ℕ) → IsWidened cols free words words
widened_none cols free words = record { size = refl; kept = λ q h. h; sound = λ test passes all. all }

pub widened_then : (cols : ℕ) (free a b c : List ℕ) → IsWidened cols free a b → IsWidened cols free b c
    → IsWidened cols free a c
widened_then cols free a b c g h = record {
  size = h.size ∙ g.size;
  kept = λ q x. h.kept q (g.kept q x);
  sound = λ test passes all. h.sound test passes (g.sound test passes all);
}

-- where a word is written over with itself, nothing changes
pub set_itself : (words : List ℕ) (index word : ℕ) → word ≡ get_or words index 0 → set words index word ≡ words
set_itself words index word same =
    ext_get_or 0 (set words index word) words (length-set words index word) (λ k lt. elim (cases_eq k index) [
      | inl e ↦ ap (λ (x : ℕ). get_or (set words index word) x 0) e ∙
          (get_or-set_same words index word 0 (let z = length-set words index word in omega (arith, z, e, lt))
          ∙ (same ∙ ap (λ (x : ℕ). get_or words x 0) (sym e)))
      | inr ne ↦ get_or-set_other words index k word 0 ne
    ])

-- a word of free numbers passes a test on within it as the set of free numbers does
module _ (cols : ℕ) (free : List ℕ) (index : ℕ) (fits : get_or free index 0 < 2 ^ 64) (test : ℕ → Bool)
    (passes : PassesOver cols free test) where
  onto : (i j : ℕ) → IsBeside cols (WORD_BITS * index + i) (WORD_BITS * index + j)
      → word_bit (get_or free index 0) j ≡ true
      → test (WORD_BITS * index + i) ≡ true → test (WORD_BITS * index + j) ≡ true
  onto i j near bit old = passes (WORD_BITS * index + i) (WORD_BITS * index + j) near
      (has_bit-at free index j (word_bit_inside (get_or free index 0) j fits bit) ∙ bit) old

  pub all_ways : PassesOn (λ j. test (WORD_BITS * index + j)) cols (get_or free index 0)
  all_ways = grind (arith, onto)

-- ---- a visit

-- a visit to a full word changes nothing
visit_none : (cols : ℕ) (free old : List ℕ) (index : ℕ) → IsFull cols free index old
    → IsVisit cols free index old old false
visit_none cols free old index full = grind arith

-- where a word has each of its free numbers, it is full
pub visit_full : (cols : ℕ) (free old : List ℕ) (index : ℕ)
    → bit_or (get_or old index 0) (get_or free index 0) ≡ get_or old index 0
    → IsVisit cols free index old old false
visit_full cols free old index same = grind (arith, visit_none, has_bit-at, bit_or_right)

module _ (cols : ℕ) (free old : List ℕ) (index came : ℕ) (inside : index < length old)
    (old_fits : get_or old index 0 < 2 ^ 64)
    (free_fits : get_or free index 0 < 2 ^ 64)
    (bits : (j : ℕ) → j < WORD_BITS → (word_bit came j ≡ true)
    ↔ ((p : ℕ) × IsBeside cols p (WORD_BITS * index + j) × (has_bit old p ≡ true))) where
  abbrev pub first_bits : ℕ
  first_bits = bit_or (get_or old index 0) (bit_and came (get_or free index 0))

  pub still_full : first_bits ≡ get_or old index 0 → IsFull cols free index old
  still_full same p j lt near vacant there = grind (arith, has_bit-at, bit_or_right, bit_and_from)

  -- where a visit adds nothing to a word, it is full
  pub visit_still : first_bits ≡ get_or old index 0 → IsVisit cols free index old old false
  visit_still same = visit_none cols free old index (still_full same)

  -- the numbers beside the set pass a test that all of the set pass
  first_pass : (test : ℕ → Bool) → PassesOver cols free test → AllPass test old → (j : ℕ) → word_bit first_bits j ≡ true
      → test (WORD_BITS * index + j) ≡ true
  first_pass test passes all j h = grind (arith, or_bit, has_bit-at, word_bit_inside, and_bit)

  module _ (filled : ℕ) (Passes : (ℕ → Bool) → Type 0) (fits : filled < 2 ^ 64)
      (weaker : (test : ℕ → Bool) → PassesOver cols free test →
      Passes (λ j. test (WORD_BITS * index + j))) (grown : IsGrown first_bits filled Passes) where
    widens : IsWidened cols free old (set old index filled)
    widens = record {
      size = length-set old index filled;
      kept = written_kept old index first_bits filled Passes inside
          (bit_or_left (get_or old index 0) (bit_and came (get_or free index 0))) grown;
      sound = λ test passes all.
          written_sound old index first_bits filled Passes inside
          (bit_or_left (get_or old index 0) (bit_and came (get_or free index 0))) grown
          test (weaker test passes) (first_pass test passes all) all;
    }

    -- where the word changes, there is less room left
    shrinks : filled ≢ get_or old index 0 → room_left (set old index filled) < room_left old
    shrinks more = grind (arith, le_or_l, written_less)

    -- a visit that found something
    pub visit_grown : first_bits ≢ get_or old index 0 → IsVisit cols free index old (set old index filled) true
    visit_grown more = grind (arith, widens, get_or-set_other, shrinks, le_or_l, true≢false)

    -- a visit that writes its word in any case
    pub visit_written : IsVisit cols free index old (set old index filled) (not (eqb filled (get_or old index 0)))
    visit_written = record {
      widened = widens;
      others = λ k ne. get_or-set_other old index k filled 0 ne;
      less = λ h. shrinks (eqb-false filled (get_or old index 0) (not-true (eqb filled (get_or old index 0)) h));
      same = λ h. set_itself old index filled (even h);
      full = λ h. still_full (let first = le_or_l (get_or old index 0) (bit_and came (get_or free index 0)) in
          let last = grown.most in let e = even h in
          omega (arith, first, last, e));
    }
      where
        even : not (eqb filled (get_or old index 0)) ≡ false → filled ≡ get_or old index 0
        even h = eqb-true filled (get_or old index 0) (not-false (eqb filled (get_or old index 0)) h)

-- ---- rounds

pub passing_first : (cols : ℕ) (free words : List ℕ) → IsPassing cols free 0 words words false
passing_first cols free words = grind arith

pub passing_next : (cols : ℕ) (free : List ℕ) (index : ℕ) (old now new : List ℕ) (grew more : Bool)
    → IsPassing cols free index old now grew
    → IsVisit cols free index now new more → IsPassing cols free (index + 1) old new (grew || more)
passing_next cols free index old now new grew more f v = record {
  widened = widened_then cols free old now new f.widened v.widened;
  less = λ h. elim (or_cases grew more h) [
    | inl x ↦ (let a = f.less x in let b = room_less more now new v.less v.same in omega (arith, a, b))
    | inr x ↦ (let a = room_less grew old now f.less f.same in let b = v.less x in omega (arith, a, b))
  ];
  same = λ h. (let n = or_parts grew more h in v.same n.1 ∙ f.same n.0);
  full = λ h k lt.
      (let n = or_parts grew more h in
      elim (cases_lt k index) [
        | inl early ↦ f.full n.0 k early
        | inr late ↦ subst (λ (x : ℕ). IsFull cols free x old) (let e : index ≡ k = omega (arith, late, lt) in
            e) (subst (λ (ws : List ℕ). IsFull cols free index ws) (f.same n.0) (v.full n.1))
      ]);
}

-- where each word of the free numbers is full, the set keeps what it passes on over all of them
full_passes : (cols : ℕ) (free words : List ℕ) (index : ℕ) → length free ≤ index
    → ((k : ℕ) → k < index → IsFull cols free k words)
    → PassesOver cols free (has_bit words)
full_passes cols free words index all full p q near vacant there =
    let at = square_parts q in
    let lt = has_bit_inside free q vacant in
    subst (λ (x : ℕ). IsBeside cols p x → has_bit free x ≡ true → has_bit words x ≡ true) at.0
    (λ close clear. full (q / WORD_BITS) (omega (arith, lt, all)) p (q % WORD_BITS) at.1 close clear there) near vacant

pub passing_last : (cols : ℕ) (free : List ℕ) (index : ℕ) (old new : List ℕ) (grew : Bool) → length free ≤ index
    → IsPassing cols free index old new grew
    → IsRound cols free old new grew
passing_last cols free index old new grew all f = record {
  widened = f.widened;
  less = f.less;
  whole = λ h. subst (λ (ws : List ℕ). PassesOver cols free (has_bit ws)) (sym (f.same h))
      (full_passes cols free old index all (f.full h));
}

-- ---- visits that go back

pub widening_on : (cols : ℕ) (free old now new : List ℕ) (index : ℕ) (grew : Bool) → IsWidening cols free index old now
    → IsVisit cols free index now new grew → grew ≡ false → IsWidening cols free (index + 1) old new
widening_on cols free old now new index grew f v even = grind arith

-- a visit that added numbers changed no word that is so far before it, nor what is beside its own there
pub widening_back : (cols : ℕ) (free old now new : List ℕ) (index back : ℕ) (grew : Bool) → cols / WORD_BITS + 1 ≤ back
    → IsWidening cols free index old now
    → IsVisit cols free index now new grew → IsWidening cols free (index - back) old new
widening_back cols free old now new index back grew far f v = record {
  widened = widened_then cols free old now new f.widened v.widened;
  full = λ k lt p j inner near vacant there. v.widened.kept (WORD_BITS * k + j)
      (f.full k (omega (arith, lt)) p j inner near vacant (sym (before p (low k p j lt inner near)) ∙ there));
}
  where
    low : (k p j : ℕ) → k < index - back → j < WORD_BITS → IsBeside cols p (WORD_BITS * k + j) → p < WORD_BITS * index
    low k p j lt inner (inl (inl e)) = omega (arith, lt, inner, e)
    low k p j lt inner (inl (inr e)) = omega (arith, lt, inner, e, far)
    low k p j lt inner (inr (inl e)) = omega (arith, lt, inner, e)
    low k p j lt inner (inr (inr e)) = omega (arith, lt, inner, e, far)

    before : (x : ℕ) → x < WORD_BITS * index → has_bit new x ≡ has_bit now x
    before x lt = bit_same now new x (v.others (x / WORD_BITS) (λ e. omega (arith, e, lt)))

pub widening_last : (cols : ℕ) (free old new : List ℕ) (index : ℕ) → length free ≤ index
    → IsWidening cols free index old new
    → PassesOver cols free (has_bit new)
widening_last cols free old new index all f = full_passes cols free new index all f.full

-- ---- squares that others are not

-- in the midst of leaving squares out word by word: those before an index are left out, and the others are as they were
abbrev pub AreCleared : List ℕ → List ℕ → ℕ → List ℕ → Type 0
AreCleared squares words index now =
    (length now ≡ length words)
    × ((k j : ℕ) → k < index → j < WORD_BITS → word_bit
    (get_or now k 0) j ≡ (word_bit (get_or squares k 0) j && not (word_bit (get_or words k 0) j)))
    × ((k : ℕ) → index ≤ k → get_or now k 0 ≡ get_or words k 0)

pub cleared_on : (squares words now : List ℕ) (index word : ℕ) → AreCleared squares words index now → index < length now
    → word ≡ get_or now index 0
    → word < 2 ^ 64
    → AreCleared squares words (index + 1) (set now index (bit_and (get_or squares index 0) (bit_not w64 word)))
cleared_on squares words now index word (size, before, rest) inside read fits =
    grind (arith, length-set, cases_eq, get_or-set_same, word_bit-and, word_bit-not, get_or-set_other)

none_past : (words : List ℕ) (q : ℕ) → WORD_BITS * length words ≤ q → has_bit words q ≡ false
none_past words q past = grind (arith, cases_Bool, has_bit_inside)

pub cleared_bit : (squares words now : List ℕ) (index q : ℕ) → AreCleared squares words index now
    → length squares ≡ length words → length words ≤ index
    → has_bit now q ≡ (has_bit squares q && not (has_bit words q))
cleared_bit squares words now index q (size, before, rest) room whole =
    grind (arith, cases_lt, has_bit-parts, none_past)

-- Marks over ranks, as bits of words.
use Rattle.std.proofs.Common.{◌≡◌, ℕ, zero, suc, ◌≢◌, ◌+◌, ◌-◌, ◌*◌, ◌/◌, ◌<◌, ◌≤◌, Bool, true, false, eqb, cond, ◌||◌, List, [], ◌∷◌, ◌++◌, length, take, drop}
use Rattle.std.proofs.Common.{count_by, get_or, set, replicate, Some, None, refl, sym, ap, ◌∙◌, arith}
use Rattle.std.proofs.lemmas.Bool.{ne_eqb, eq-eqb, eqb-true, true≢false}
use Rattle.std.proofs.lemmas.List.{length-replicate, length-set, take_at}
use Rattle.std.proofs.lemmas.Option.{slice_get_within}
use Rattle.std.specs.Bool.{MatchBool}
use Rattle.std.proofs.lemmas.List.Sums.{count_by-le-length}
use Rattle.std.specs.Prelude.{slice_get}
use Rattle.grid.specs.Masks.{has_bit, word_count}
use Rattle.grid.specs.declared.masks.TheConstants.{WORD_BITS}
use Rattle.layers.specs.inside.Bits.{AreRankBits, marks_from, marks_of}
use Rattle.area.proofs.lemmas.WordSets.{none_set}
use Rattle.layers.proofs.lemmas.Books.{none_counted}
use Rattle.successors.proofs.lemmas.Lists.{count-set_true, sum_by_first}

-- ---- marks by their ranks

pub length-marks : (words : List ℕ) (k n : ℕ) → length (marks_from words k n) ≡ n
length-marks words k zero = refl
length-marks words k (suc n) = ap suc (length-marks words (suc k) n)

pub mark_at : (words : List ℕ) (k n r : ℕ) → r < n → slice_get (marks_from words k n) r ≡ Some (has_bit words (k + r))
mark_at words k zero r lt = absurd (omega arith)
mark_at words k (suc n) zero lt = ap (λ (i : ℕ). Some (has_bit words i)) (let e : k ≡ k + 0 = omega arith in e)
mark_at words k (suc n) (suc r) lt = mark_at words (suc k) n r (omega (arith, lt))
    ∙ ap (λ (i : ℕ). Some (has_bit words i)) (let e : suc k + r ≡ k + suc r = omega arith in e)

pub mark_past : (words : List ℕ) (k n r : ℕ) → n ≤ r → slice_get (marks_from words k n) r ≡ None
mark_past words k zero r le = refl
mark_past words k (suc n) zero le = absurd (omega (arith, le))
mark_past words k (suc n) (suc r) le = mark_past words (suc k) n r (omega (arith, le))

pub mark_read : (words : List ℕ) (k n r : ℕ) → r < n → get_or (marks_from words k n) r false ≡ has_bit words (k + r)
mark_read words k zero r lt = absurd (omega arith)
mark_read words k (suc n) zero lt = ap (has_bit words) (let e : k ≡ k + 0 = omega arith in e)
mark_read words k (suc n) (suc r) lt = mark_read words (suc k) n r (omega (arith, lt)) ∙ ap (has_bit words) (let e : suc k + r ≡ k + suc r = omega arith in e)

-- ---- marks that are set

-- where no bit is set, no mark is
pub no_marks : (words : List ℕ) (k n : ℕ) → ((q : ℕ) → has_bit words q ≡ false) → marks_from words k n ≡ replicate n false
no_marks words k zero none = refl
no_marks words k (suc n) none = λ i. none k i ∷ no_marks words (suc k) n none i

-- where the bits from k on are the same, so are the marks
same_marks : (words more : List ℕ) (k n : ℕ) → ((q : ℕ) → k ≤ q → has_bit words q ≡ has_bit more q) → marks_from words k n ≡ marks_from more k n
same_marks words more k zero same = refl
same_marks words more k (suc n) same = λ i. same k (omega arith) i ∷ same_marks words more (suc k) n (λ q le. same q (omega (arith, le))) i

or_true : (b c : Bool) → c ≡ true → (b || c) ≡ true
or_true true c e = refl
or_true false c e = e

or_false : (b c : Bool) → c ≡ false → (b || c) ≡ b
or_false true c e = refl
or_false false c e = e

-- one more bit is one more mark
pub one_marked : (words more : List ℕ) (k n r rank : ℕ) → rank ≡ k + r → r < n → ((q : ℕ) → has_bit more q ≡ (has_bit words q || eqb rank q)) →
    marks_from more k n ≡ set (marks_from words k n) r true
one_marked words more k zero r rank e lt bits = absurd (omega (arith, lt))
one_marked words more k (suc n) zero rank e lt bits = grind (arith, or_true, eq-eqb, same_marks, or_false, ne_eqb)
one_marked words more k (suc n) (suc r) rank e lt bits =
    grind (arith, one_marked words more (suc k) n r rank (omega (arith, e)) (omega (arith, lt)) bits)

-- ---- how many are set

-- where as many marks are set as there are, each is
pub all_counted : (bs : List Bool) → count_by (λ b. b) bs ≡ length bs → (r : ℕ) → r < length bs → get_or bs r false ≡ true
all_counted [] e r lt = absurd (omega (arith, lt))
all_counted (b ∷ bs) e r lt = go (all_counted bs) b refl r lt
  where
    few : count_by (λ (x : Bool). x) bs ≤ length bs
    few = count_by-le-length (λ (x : Bool). x) bs

    first : count_by (λ (x : Bool). x) (b ∷ bs) ≡ cond b 1 0 + count_by (λ (x : Bool). x) bs
    first = sum_by_first (λ (x : Bool). cond x 1 0) b bs

    go : (count_by (λ (x : Bool). x) bs ≡ length bs → (r : ℕ) → r < length bs → get_or bs r false ≡ true) → (x : Bool) → b ≡ x → (r : ℕ) →
        r < length (b ∷ bs) → get_or (b ∷ bs) r false ≡ true
    go rest true f zero lt = f
    go rest true f (suc r) lt = rest (omega (arith, e, first, ap {B = ℕ} (λ (x : Bool). cond x 1 0) f)) r (omega (arith, lt))
    go rest false f r lt = absurd (omega (arith, e, few, first, ap {B = ℕ} (λ (x : Bool). cond x 1 0) f))

-- and where fewer are, one is not
pub one_missing : (bs : List Bool) → count_by (λ b. b) bs < length bs → (r : ℕ) × (slice_get bs r ≡ Some false)
one_missing [] lt = absurd (omega (arith, lt))
one_missing (b ∷ bs) lt = go (one_missing bs) b refl
  where
    first : count_by (λ (x : Bool). x) (b ∷ bs) ≡ cond b 1 0 + count_by (λ (x : Bool). x) bs
    first = sum_by_first (λ (x : Bool). cond x 1 0) b bs

    go : (count_by (λ (x : Bool). x) bs < length bs → (r : ℕ) × (slice_get bs r ≡ Some false)) → (x : Bool) → b ≡ x →
        (r : ℕ) × (slice_get (b ∷ bs) r ≡ Some false)
    go rest true f = let found = rest (omega (arith, lt, first, ap {B = ℕ} (λ (x : Bool). cond x 1 0) f)) in (suc found.0, found.1)
    go rest false f = (zero, ap (λ (x : Bool). Some x) f)

-- ---- marks on the fields

-- each rank has a bit
pub enough_words : (words : List ℕ) (len set rank : ℕ) → AreRankBits words len set → rank < len → rank < WORD_BITS * length words
unfolding word_count
enough_words words len set rank marks lt = omega (arith, marks.enough, lt)

from_none : (n : ℕ) → n ≡ 0 + n
from_none n = omega arith

module _ (words : List ℕ) (len : ℕ) (now : List Bool) (view : marks_of words len ≡ now) where
  -- there are so many marks
  pub marks_long : len ≡ length now
  marks_long = sym (length-marks words 0 len) ∙ ap length view

  -- the mark of a rank
  pub told_mark : (read : List ℕ) (rank : ℕ) (b : Bool) → read ≡ words → rank < len → b ≡ has_bit read rank → Some b ≡ slice_get now rank
  told_mark read rank b same lt e = grind (arith, from_none, mark_at)

  pub read_mark : (read : List ℕ) (rank : ℕ) (b : Bool) → read ≡ words → rank < len → b ≡ has_bit read rank → b ≡ get_or now rank false
  read_mark read rank b same lt e = grind (arith, from_none, mark_read)

  -- and none beyond them
  pub told_none : (rank : ℕ) → len ≤ rank → None ≡ slice_get now rank
  told_none rank le = sym (mark_past words 0 len rank le) ∙ ap (λ (bs : List Bool). slice_get bs rank) view

  module _ (count : ℕ) (marks : AreRankBits words len count) where
    counted : count ≡ count_by (λ (x : Bool). x) now
    counted = marks.counted ∙ ap (count_by (λ (x : Bool). x)) view

    -- whether all are set
    pub all_or_not : (b : Bool) → b ≡ eqb count len → MatchBool b ((r : ℕ) → r < length now →
        get_or now r false ≡ true) ((r : ℕ) × (slice_get now r ≡ Some false))
    all_or_not true e = all_counted now (omega (arith, counted, marks_long, eqb-true count len (sym e)))
    all_or_not false e = grind (arith, one_missing, count_by-le-length, true≢false, eq-eqb, counted, marks_long)

    -- one more is set
    module _ (rank : ℕ) (free : slice_get now rank ≡ Some false) where
      pub within_marks : rank < len
      within_marks = omega (arith, marks_long, slice_get_within now rank false free)

      pub count_fits : suc count ≤ len
      count_fits = omega (
        arith,
        counted,
        marks_long,
        count-set_true now rank free,
        count_by-le-length (λ (x : Bool). x) (set now rank true),
        length-set now rank true,
      )

      module _ (read more : List ℕ) (same : read ≡ words) (bits : (q : ℕ) → has_bit more q ≡ (has_bit read q || eqb rank q))
          (long : length more ≡ length read) where
        pub marks_more : marks_of more len ≡ set now rank true
        marks_more =
            one_marked words more 0 len rank rank (from_none rank) within_marks (λ q. bits q ∙ ap (λ (ws : List ℕ). has_bit ws q || eqb rank q) same)
            ∙ ap (λ (bs : List Bool). set bs rank true) view

        pub are_more : AreRankBits more len (count + 1)
        are_more = record {
          enough = long ∙ ap length same ∙ marks.enough;
          counted = let e : count + 1 ≡ suc (count_by (λ (x : Bool). x) now) = omega (arith, counted) in
              e ∙ sym (count-set_true now rank free) ∙ ap (count_by (λ (x : Bool). x)) (sym marks_more);
        }

-- none at all
pub no_words : (words : List ℕ) → words ≡ [] → AreRankBits words 0 0
unfolding word_count
no_words words none = record { enough = ap length none; counted = refl }

-- so many that are not set
module _ (words : List ℕ) (many ranks : ℕ) (zeros : words ≡ replicate many 0) where
  pub fresh_marks : marks_of words ranks ≡ replicate ranks false
  fresh_marks = no_marks words 0 ranks (λ q. none_set words many q zeros)

  pub are_fresh : many ≡ word_count ranks → AreRankBits words ranks 0
  are_fresh enough = grind (arith, length-replicate, counted, fresh_marks, none_counted)

-- as many words as bits for so many ranks
pub word_count_is : (many ranks : ℕ) → many ≡ (ranks + (WORD_BITS - 1)) / WORD_BITS → many ≡ word_count ranks
unfolding word_count
word_count_is many ranks e = e

-- words that were written over
pub over_words : (n : ℕ) (more old : List ℕ) → n ≡ length old → length more ≡ length old → take n (more ++ drop (length more) old) ≡ more
over_words n more old e long = take_at more (drop (length more) old) n (long ∙ sym e)

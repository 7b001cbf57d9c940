-- What a visit to a word of a set writes there.
use Rattle.std.proofs.Common.{◌≡◌, ℕ, ◌+◌, ◌*◌, ◌/◌, ◌%◌, ◌^◌, ◌<◌, ◌≤◌, Bool, true, false, ◌⊎◌, List, length}
use Rattle.std.proofs.Common.{get_or, set, sym, ap, ◌∙◌, arith, refl}
use Rattle.std.proofs.lemmas.Bool.{cases_eq}
use Rattle.std.proofs.lemmas.List.{get_or-set_same, get_or-set_other}
use Rattle.std.proofs.lemmas.List.Sums.{sum_by-set}
use Rattle.grid.specs.declared.masks.TheConstants.{WORD_BITS}
use Rattle.grid.specs.Masks.{has_bit}
use Rattle.area.specs.Words.{word_bit}
use Rattle.area.specs.inside.Flooding.{AllPass, IsGrown, room_left}
use Rattle.area.proofs.lemmas.WordBits.{has_bit-parts}

-- a square of an unchanged word is in the set if it was
pub bit_same : (now new : List ℕ) (q : ℕ) → get_or new (q / WORD_BITS) 0 ≡ get_or now (q / WORD_BITS) 0
    → has_bit new q ≡ has_bit now q
bit_same now new q same =
    has_bit-parts new q ∙ (ap (λ (w : ℕ). word_bit w (q % WORD_BITS)) same ∙ sym (has_bit-parts now q))

-- a square's bit is of the word that was written, or as before
bit_written : (old : List ℕ) (index filled q : ℕ) → index < length old
    → (q / WORD_BITS ≡ index) × (has_bit (set old index filled) q ≡ word_bit filled (q % WORD_BITS))
    × (has_bit old q ≡ word_bit (get_or old index 0) (q % WORD_BITS))
    ⊎ (has_bit (set old index filled) q ≡ has_bit old q)
bit_written old index filled q inside =
    grind (arith, cases_eq, has_bit-parts, get_or-set_same, bit_same, get_or-set_other)

-- a word is written that has grown from a first one, which has the squares of the old word
module _ (old : List ℕ) (index first filled : ℕ) (Passes : (ℕ → Bool) → Type 0) (inside : index < length old)
    (more : (j : ℕ) → word_bit (get_or old index 0) j ≡ true → word_bit first j ≡ true)
    (grown : IsGrown first filled Passes) where
  -- no square is lost
  pub written_kept : (q : ℕ) → has_bit old q ≡ true → has_bit (set old index filled) q ≡ true
  written_kept q h = grind (arith, bit_written)

  -- a test that the old set and the first word pass, and that passes on within the word, the new set passes
  pub written_sound : (test : ℕ → Bool) → Passes (λ j. test (WORD_BITS * index + j)) →
      ((j : ℕ) → word_bit first j ≡ true → test (WORD_BITS * index + j) ≡ true) → AllPass test old
      → AllPass test (set old index filled)
  written_sound test passes at_first all q h = grind (arith, bit_written)

-- a greater word leaves less room
pub written_less : (old : List ℕ) (index filled : ℕ) → index < length old → filled < 2 ^ 64
    → get_or old index 0 < filled
    → room_left (set old index filled) < room_left old
written_less old index filled inside fits more = grind (arith, sum_by-set)

-- a set that grew, or stayed the same, has no more room
pub room_less : (grew : Bool) (old new : List ℕ) → (grew ≡ true → room_left new < room_left old)
    → (grew ≡ false → new ≡ old)
    → room_left new ≤ room_left old
room_less true old new less same = (let l = less refl in omega (arith, l))
room_less false old new less same = (let l = ap room_left (same refl) in omega (arith, l))

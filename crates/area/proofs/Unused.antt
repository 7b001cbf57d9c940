-- Words that have nothing after all others, and floods that leave them aside.
use Rattle.std.proofs.Common.{◌≡◌, ℕ, ◌≤◌, ◌/◌, ◌%◌, List, ◌++◌, length, take, drop, get_or, sym, ap, ◌∙◌, arith}
use Rattle.std.proofs.lemmas.Bool.{cases_lt}
use Rattle.std.proofs.lemmas.List.{get_or-take, get_or_append_left, get_or-append_right, get_or_past, get_or-drop, length-take-le}
use Rattle.grid.specs.declared.masks.TheConstants.{WORD_BITS}
use Rattle.grid.specs.Masks.{has_bit}
use Rattle.area.specs.Words.{word_bit}
use Rattle.area.specs.inside.RoomFloods.{IsWidened, PassesOver}
use Rattle.area.proofs.lemmas.WordBits.{has_bit-parts}

-- the two have the same numbers
abbrev pub AreSame : List ℕ → List ℕ → Type 0
AreSame few more = (q : ℕ) → has_bit few q ≡ has_bit more q

same_words : (few more : List ℕ) → ((k : ℕ) → get_or few k 0 ≡ get_or more k 0) → AreSame few more
same_words few more same q =
    has_bit-parts few q ∙ (ap (λ (w : ℕ). word_bit w (q % WORD_BITS)) (same (q / WORD_BITS)) ∙ sym (has_bit-parts more q))

-- the first words have all numbers where the others have none
pub same_front : (words : List ℕ) (n : ℕ) → n ≤ length words → ((k : ℕ) → n ≤ k → get_or words k 0 ≡ 0) → AreSame (take n words) words
same_front words n inside none = grind (arith, same_words, cases_lt, get_or-take, get_or_past, length-take-le)

-- so do words that are put in their index
pub same_whole : (part words : List ℕ) (n : ℕ) → length part ≡ n → ((k : ℕ) → n ≤ k → get_or words k 0 ≡ 0) → AreSame part (part ++ drop n words)
same_whole part words n size none =
    grind (arith, same_words, cases_lt, get_or_append_left, get_or_past, get_or-append_right, get_or-drop)

-- what widens a set widens another that has the same numbers
pub widened_same : (cols : ℕ) (free free_too old old_too new new_too : List ℕ) → AreSame free free_too → AreSame old old_too → AreSame new new_too →
    length new_too ≡ length old_too → IsWidened cols free old new → IsWidened cols free_too old_too new_too
widened_same cols free free_too old old_too new new_too in_free in_old in_new size w = record {
  size = size;
  kept = λ q h. sym (in_new q) ∙ w.kept q (in_old q ∙ h);
  sound = λ test passes all q h. w.sound test (λ p r near f t. passes p r near (sym (in_free r) ∙ f) t) (λ r g. all r (sym (in_old r) ∙ g)) q (in_new q ∙ h);
}

pub passes_same : (cols : ℕ) (free free_too new new_too : List ℕ) → AreSame free free_too → AreSame new new_too → PassesOver cols free (has_bit new) →
    PassesOver cols free_too (has_bit new_too)
passes_same cols free free_too new new_too in_free in_new passes p q near f t = sym (in_new q) ∙ passes p q near (in_free q ∙ f) (in_new p ∙ t)

-- A list of slots that are written over in turn, of which the first so many count.
use Rattle.std.proofs.Common.{◌≡◌, ℕ, ◌+◌, ◌<◌, List, [], ◌∷◌, ◌++◌, length, take, drop, get_or, set, sym, ap, ◌∙◌}
use Rattle.std.proofs.lemmas.List.{length-set, take-set, take_more_set, get_or-set_same}
use Rattle.std.proofs.Math.Seq.{take-append_seam}

module _ {A : Type 0} (old slots lent : List A) (count : ℕ) (s : A) (inside : count < length slots) (kept : take count slots ≡ take count old) (same : lent ≡
    slots) where
  -- what the slots hold after one of them was written while all were lent
  slots_written : take (length slots) (set lent count s ++ drop (length (set lent count s)) slots) ≡ set slots count s
  slots_written =
      let size : length (set lent count s) ≡ length slots = length-set lent count s ∙ ap length same in
      ap (λ n. take n (set lent count s ++ drop (length (set lent count s)) slots)) (sym size)
      ∙ (take-append_seam (set lent count s) (drop (length (set lent count s)) slots) ∙ ap (λ xs. set xs count s) same)

  -- the next slot is written and counts
  pub slot_more : take (count + 1) (take (length slots) (set lent count s ++ drop (length (set lent count s)) slots)) ≡ take count old ++ s ∷ []
  slot_more = ap (take (count + 1)) slots_written ∙ (take_more_set slots count s inside ∙ ap (λ (xs : List A). xs ++ s ∷ []) kept)

  -- the next slot is written and does not count
  pub slot_same : take count (take (length slots) (set lent count s ++ drop (length (set lent count s)) slots)) ≡ take count old
  slot_same = ap (take count) slots_written ∙ (take-set slots count s ∙ kept)

  -- what is written is read there
  pub slot_read : (now : List A) → now ≡ take (length slots) (set lent count s ++ drop (length (set lent count s)) slots) → (d : A) → get_or now count d ≡ s
  slot_read now is d = ap (λ (xs : List A). get_or xs count d) (is ∙ slots_written) ∙ get_or-set_same slots count s d inside

-- what the slots hold after all of them were lent and given back
pub slots_refilled : {A : Type 0} (slots lent back : List A) → length back ≡ length lent → lent ≡ slots →
    take (length slots) (back ++ drop (length back) slots) ≡ back
slots_refilled slots lent back long same =
    let size : length back ≡ length slots = long ∙ ap length same in
    ap (λ n. take n (back ++ drop (length back) slots)) (sym size) ∙ take-append_seam back (drop (length back) slots)

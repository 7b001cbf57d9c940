-- The words that a position feeds a hasher: four squares more.
use Rattle.std.proofs.Common.{◌≡◌, ℕ, ◌-◌, ◌≤◌, List, [], ◌∷◌, length, take, drop, get_or, fold, sym, ap, ◌∙◌, arith}
use Rattle.std.proofs.lemmas.List.{take_rest}
use Rattle.std.specs.List.{flat_map}
use Rattle.std.specs.Hash as fed
use Rattle.grid.specs.Hashing.{word_of, words_of}

-- the first four squares make the first word
words_of_four : (xs : List ℕ) (player a b c d : ℕ) → 4 ≤ length xs → a ≡ get_or xs 0 a → b ≡ get_or xs 1 b → c ≡ get_or xs 2 c → d ≡ get_or xs 3 d →
    words_of xs player ≡ word_of a b c d ∷ words_of (take (length xs - 4) (drop 4 xs)) player
words_of_four [] player a b c d long p q r s = absurd (omega arith)
words_of_four (x ∷ []) player a b c d long p q r s = absurd (omega arith)
words_of_four (x ∷ y ∷ []) player a b c d long p q r s = absurd (omega arith)
words_of_four (x ∷ y ∷ z ∷ []) player a b c d long p q r s = absurd (omega arith)
words_of_four (x ∷ y ∷ z ∷ w ∷ xs) player a b c d long p q r s =
    let rest = take_rest (x ∷ y ∷ z ∷ w ∷ xs) 4 in
    let first : word_of x y z w ≡ word_of a b c d = λ i. word_of (sym p i) (sym q i) (sym r i) (sym s i) in
    λ i. first i ∷ words_of (sym rest i) player

-- where that word was written, the words of the others are left to write
pub four_written : {S : Type 0} (write : S → List ℕ → S) (s t u : S) (xs : List ℕ) (player a b c d n : ℕ) → 4 ≤ length xs → a ≡ get_or xs 0 a →
    b ≡ get_or xs 1 b → c ≡ get_or xs 2 c → d ≡ get_or xs 3 d → n ≡ word_of a b c d → t ≡ write s (fed.le_bytes 8 n) →
    fold write s (flat_map fed.u64 (words_of xs player)) ≡ u → fold write t (flat_map fed.u64 (words_of (take (length xs - 4) (drop 4 xs)) player)) ≡ u
four_written write s t u xs player a b c d n long p q r z word written all =
    let left = flat_map fed.u64 (words_of (take (length xs - 4) (drop 4 xs)) player) in
    let four = ap (λ ws. fold write s (flat_map fed.u64 ws)) (words_of_four xs player a b c d long p q r z) in
    ap (λ x. fold write x left) written ∙ ap (λ x. fold write (write s (fed.le_bytes 8 x)) left) word ∙ sym four ∙ all

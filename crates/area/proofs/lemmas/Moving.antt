-- A box that was moved, in a set of bits and in a list of squares.
use Rattle.std.proofs.Common.{◌≡◌, ℕ, Bool, true, false, not, eqb, ◌&&◌, ◌||◌, List, refl, sym, ap, ◌∙◌}
use Rattle.grid.specs.Masks.{has_bit}
use Rattle.grid.specs.Squares.{Squares, contains, insert, remove}
use Rattle.grid.proofs.lemmas.Squares.{contains-insert, contains-remove}
use Rattle.area.specs.Words.{squares_of}
use Rattle.area.proofs.lemmas.WordSets.{contains-squares_of}

swapped : (old left put : Bool) → ((old && not left) || put) ≡ (put || (not left && old))
swapped true true true = refl
swapped true true false = refl
swapped true false true = refl
swapped true false false = refl
swapped false true true = refl
swapped false true false = refl
swapped false false true = refl
swapped false false false = refl

-- a copy of the set, with one square taken out and another one put in
pub moved_bit : (boxes copy out moved : List ℕ) (square ahead : ℕ) → copy ≡ boxes → ((q : ℕ) → has_bit out q ≡ (has_bit copy q && not (eqb square q))) →
    ((q : ℕ) → has_bit moved q ≡ (has_bit out q || eqb ahead q)) → (q : ℕ) → has_bit moved q ≡ contains (insert (remove (squares_of boxes) square) ahead) q
moved_bit boxes copy out moved square ahead same taken put q =
    put q ∙ (ap (λ (b : Bool). b || eqb ahead q) (taken q ∙ ap (λ (b : Bool). b && not (eqb square q)) old) ∙
    (swapped (contains (squares_of boxes) q) (eqb square q) (eqb ahead q) ∙ sym listed))
  where
    old : has_bit copy q ≡ contains (squares_of boxes) q
    old = ap (λ (ws : List ℕ). has_bit ws q) same ∙ sym (contains-squares_of boxes q)

    listed : contains (insert (remove (squares_of boxes) square) ahead) q ≡ (eqb ahead q || (not (eqb square q) && contains (squares_of boxes) q))
    listed = contains-insert (remove (squares_of boxes) square) ahead q ∙ ap (λ (b : Bool). eqb ahead q || b) (contains-remove (squares_of boxes) square q)

-- the same of the boxes after the push
pub moved_boxes : (boxes moved : List ℕ) (before after : Squares) (square ahead : ℕ) → squares_of boxes ≡ before → after ≡ insert (remove before square) ahead →
    ((q : ℕ) → has_bit moved q ≡ contains (insert (remove (squares_of boxes) square) ahead) q) → (q : ℕ) → has_bit moved q ≡ contains after q
moved_boxes boxes moved before after square ahead same pushed bits q =
    bits q ∙ (ap (λ (bs : Squares). contains (insert (remove bs square) ahead) q) same ∙ ap (λ (bs : Squares). contains bs q) (sym pushed))

-- What writing letters gives is a text of them.
use Rattle.std.proofs.Common.{◌≡◌, ◌≤◌, List, [], ◌∷◌, length, map, refl, ap, inl}
use Rattle.std.specs.List.{AllByRecursion, flat_map}
use Rattle.grid.specs.declared.moves.Letter.{Letter}
use Rattle.lurd.specs.declared.limits.TheConstants.{MAX_MOVES}
use Rattle.lurd.specs.Text.{letter_byte, bytes_of, Piece, item, spelling, meaning, IsPiece, IsText}

-- a letter without a count
abbrev alone : Letter → Piece
alone x = item [] x

each_alone : (letters : List Letter) → AllByRecursion IsPiece (map alone letters)
each_alone [] = tt
each_alone (x ∷ xs) = (inl refl, each_alone xs)

spelled_alone : (letters : List Letter) → bytes_of letters ≡ flat_map spelling (map alone letters)
spelled_alone [] = refl
spelled_alone (x ∷ xs) = ap (λ ys. letter_byte x ∷ ys) (spelled_alone xs)

meant_alone : (letters : List Letter) → letters ≡ flat_map meaning (map alone letters)
meant_alone [] = refl
meant_alone (x ∷ xs) = ap (λ ys. x ∷ ys) (meant_alone xs)

-- the letters' bytes are a text of them
pub written_text : (letters : List Letter) → length letters ≤ MAX_MOVES → IsText (bytes_of letters) letters
written_text letters few = record {
  pieces = map alone letters;
  each = each_alone letters;
  spelled = spelled_alone letters;
  meant = meant_alone letters;
  few = few;
}

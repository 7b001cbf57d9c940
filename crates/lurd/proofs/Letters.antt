-- Letters and their bytes, which are neither digits nor blanks.
use Rattle.std.proofs.Common.{◌≡◌, eqb, Option, Some, None, ℕ, Bool, true, false, cond, List, [], ◌∷◌, ◌⊎◌}
use Rattle.std.proofs.Common.{refl, ap, inl, inr, arith}
use Rattle.std.specs.Char.{is_ascii_digit}
use Rattle.std.proofs.lemmas.Bool.{eqb-true}
use Rattle.std.proofs.lemmas.Bool.Decides.{nat_tests}
use Rattle.grid.specs.declared.dir.Dir.{Dir}
use Rattle.grid.specs.declared.dir.Dir.TheVariants.{D, L, R, U}
use Rattle.grid.specs.declared.moves.Letter.{Letter}
use Rattle.grid.proofs.lemmas.Directions.{each_way}
use Rattle.lurd.specs.inside.Item.{IsLetterByte}
use Rattle.lurd.specs.Text.{letter_byte, is_skipped}

-- the letter with a direction and a case
abbrev letter_by : Dir → Bool → Letter
letter_by d b = record { dir = d; push = b }

-- what holds of the letters of each direction in either case holds of each letter
each_letter : (P : Letter → Type 0) → ((d : Dir) → P (letter_by d true)) → ((d : Dir) → P (letter_by d false)) →
    (x : Letter) → P x
each_letter P upper lower x = by x.dir x.push
  where
    by : (d : Dir) (b : Bool) → P (letter_by d b)
    by d true = upper d
    by d false = lower d

-- a letter's byte is no digit
pub letter_no_digit : (x : Letter) → is_ascii_digit (letter_byte x) ≡ false
letter_no_digit x = each_letter (λ y. is_ascii_digit (letter_byte y) ≡ false) (each_way _ refl refl refl refl)
    (each_way _ refl refl refl refl) x

-- and no blank
pub letter_no_blank : (x : Letter) → is_skipped (letter_byte x) ≡ false
letter_no_blank x = each_letter (λ y. is_skipped (letter_byte y) ≡ false) (each_way _ refl refl refl refl)
    (each_way _ refl refl refl refl) x

-- a blank is no digit
pub blank_no_digit : (b : ℕ) → is_skipped b ≡ true → is_ascii_digit b ≡ false
blank_no_digit b is = grind (arith, nat_tests)

-- the letters, and the one that a byte writes
abbrev letters_all : List Letter
letters_all = letter_by D true ∷ letter_by L true ∷ letter_by R true ∷ letter_by U true ∷ letter_by D false ∷ letter_by L false ∷ letter_by R false ∷
    letter_by U false ∷ []

abbrev find_letter : ℕ → List Letter → Option Letter
find_letter b [] = None
find_letter b (x ∷ xs) = cond (eqb (letter_byte x) b) (Some x) (find_letter b xs)

found : (x : Letter) → find_letter (letter_byte x) letters_all ≡ Some x
found x = each_letter (λ y. find_letter (letter_byte y) letters_all ≡ Some y) (each_way _ refl refl refl refl)
    (each_way _ refl refl refl refl) x

-- two letters with one byte are one
pub one_letter : (x y : Letter) → letter_byte x ≡ letter_byte y → x ≡ y
one_letter x y same =
    let a = found x in
    let b = found y in
    cc

search_by : (b : ℕ) (x : Letter) (v : Bool) (rest : Option Letter) → eqb (letter_byte x) b ≡ v → IsLetterByte b ⊎ (rest ≡ None) → IsLetterByte b ⊎
    (cond v (Some x) rest ≡ None)
search_by b x true rest is more = inl (x, eqb-true (letter_byte x) b is)
search_by b x false rest is more = more

search_letter : (b : ℕ) (xs : List Letter) → IsLetterByte b ⊎ (find_letter b xs ≡ None)
search_letter b [] = inr refl
search_letter b (x ∷ xs) = search_by b x (eqb (letter_byte x) b) (find_letter b xs) refl (search_letter b xs)

not_letter : (b : ℕ) → find_letter b letters_all ≡ None → ¬ (IsLetterByte b)
not_letter b none (x, is) =
    let there = found x in
    let here : find_letter (letter_byte x) letters_all ≡ find_letter b letters_all = ap (λ c. find_letter c letters_all) is in
    cc

-- a byte writes a letter or does not
pub letter_or_not : (b : ℕ) → IsLetterByte b ⊎ (¬ (IsLetterByte b))
letter_or_not b = elim (search_letter b letters_all) [ inl is ↦ inl is | inr none ↦ inr (not_letter b none) ]

-- LURD text: which bytes are a text, which letters it stands for, and which fault is the first.
use Rattle.std.specs.Prelude.{◌≡◌, ℕ, ◌+◌, ◌-◌, ◌<◌, ◌≤◌, Bool, true, false, if◌then◌else◌, ◌||◌, ◌==◌, ◌⊎◌, List, []}
use Rattle.std.specs.Prelude.{◌∷◌, ◌++◌, length, replicate, map}
use Rattle.std.specs.Char.{is_ascii_digit}
use Rattle.std.specs.List.{AllByRecursion, flat_map}
use Rattle.counts.specs.Counts.{AreDigits, IsCount, begins_with_digit, repeats}
use Rattle.grid.specs.declared.dir.Dir.{Dir}
use Rattle.grid.specs.declared.dir.Dir.TheVariants.{D, L, R, U}
use Rattle.grid.specs.declared.moves.Letter.{Letter}
use Rattle.lurd.specs.declared.fault.LurdFault.{LurdFault}
use Rattle.lurd.specs.declared.fault.LurdFault.TheVariants.{BadByte, BadCount, TooManyMoves, OutOfMemory}
use Rattle.lurd.specs.declared.limits.TheConstants.{MAX_MOVES}

-- the byte of a letter in lower case: d, l, r or u
abbrev pub lower_byte : Dir → ℕ
lower_byte D = 100
lower_byte L = 108
lower_byte R = 114
lower_byte U = 117

-- the byte that writes a letter: a step that pushes is written in upper case, whose bytes are 32 less, any other in
-- lower case
abbrev pub letter_byte : Letter → ℕ
letter_byte letter = if letter.push then lower_byte letter.dir - 32 else lower_byte letter.dir

-- the bytes that write letters: one each, without counts or blanks
abbrev pub bytes_of : List Letter → List ℕ
bytes_of letters = map letter_byte letters

-- space, tab, CR and LF stand for nothing
abbrev pub is_skipped : ℕ → Bool
is_skipped b = b == 32 || b == 9 || b == 13 || b == 10

-- what a text is made of: a blank, or a letter with the digits of its count right before it, if it has one
pub data Piece : Type 0 where
  blank : ℕ → Piece
  item : List ℕ → Letter → Piece

-- a piece is a blank that is one, or a letter with a count or none
abbrev pub IsPiece : Piece → Type 0
IsPiece (blank b) = is_skipped b ≡ true
IsPiece (item digits letter) = (digits ≡ []) ⊎ IsCount digits

-- the bytes of a piece
abbrev pub spelling : Piece → List ℕ
spelling (blank b) = b ∷ []
spelling (item digits letter) = digits ++ letter_byte letter ∷ []

-- the letters that a piece stands for
abbrev pub meaning : Piece → List Letter
meaning (blank b) = []
meaning (item digits letter) = replicate (repeats digits) letter

-- the bytes are pieces one after the other, which stand for these letters, and these are not too many
pub record IsText (bytes : List ℕ) (letters : List Letter) : Type 0 where
  pub pieces : List Piece
  pub each : AllByRecursion IsPiece pieces
  pub spelled : bytes ≡ flat_map spelling pieces
  pub meant : letters ≡ flat_map meaning pieces
  pub few : length letters ≤ MAX_MOVES

-- the bytes begin with a letter
abbrev pub BeginsWithLetter : List ℕ → Type 0
BeginsWithLetter bytes = (letter : Letter) × (more : List ℕ) × (bytes ≡ letter_byte letter ∷ more)

-- the bytes begin with one that is no letter, no digit and no blank
pub record BeginsBadly (bytes : List ℕ) : Type 0 where
  pub byte : ℕ
  pub more : List ℕ
  pub cut : bytes ≡ byte ∷ more
  pub no_letter : (letter : Letter) → ¬ (letter_byte letter ≡ byte)
  pub no_digit : is_ascii_digit byte ≡ false
  pub no_blank : is_skipped byte ≡ false

-- the bytes begin with a longest run of digits that is no count, or has no letter right after it
pub record BeginsWithBadCount (bytes : List ℕ) : Type 0 where
  pub digits : List ℕ
  pub more : List ℕ
  pub cut : bytes ≡ digits ++ more
  pub some : 1 ≤ length digits
  pub all : AreDigits digits
  pub whole : begins_with_digit more ≡ false
  pub bad : (¬ (IsCount digits)) ⊎ (¬ (BeginsWithLetter more))

-- the bytes begin with a letter, with its count if it has one, that brings this many moves above the greatest number
pub record BeginsWithTooMany (moves : ℕ) (bytes : List ℕ) : Type 0 where
  pub digits : List ℕ
  pub letter : Letter
  pub more : List ℕ
  pub cut : bytes ≡ spelling (item digits letter) ++ more
  pub lawful : IsPiece (item digits letter)
  pub above : MAX_MOVES < moves + repeats digits

-- after this many moves, what comes at this place, counted from 1, has the fault
abbrev pub FaultsAt : ℕ → ℕ → List ℕ → LurdFault → Type 0
FaultsAt place moves bytes (BadByte at) = (at ≡ place) × BeginsBadly bytes
FaultsAt place moves bytes (BadCount at) = (at ≡ place) × BeginsWithBadCount bytes
FaultsAt place moves bytes TooManyMoves = BeginsWithTooMany moves bytes
FaultsAt place moves bytes OutOfMemory = ⊥

-- the fault is the first in the bytes: those before it are a text
pub record HasTextFault (bytes : List ℕ) (fault : LurdFault) : Type 0 where
  pub front : List ℕ
  pub letters : List Letter
  pub rest : List ℕ
  pub cut : bytes ≡ front ++ rest
  pub text : IsText front letters
  pub stands : FaultsAt (length front + 1) (length letters) rest fault

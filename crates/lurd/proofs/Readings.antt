-- Each list of bytes is read in one way.
use Rattle.std.proofs.Common.{◌≡◌, ◌≢◌, ℕ, zero, suc, ◌+◌, ◌<◌, ◌≤◌, Bool, true, false, List, [], ◌∷◌, ◌++◌, ◌⊎◌, length, take}
use Rattle.std.proofs.Common.{drop, Result, Ok, Err, refl, sym, ap, subst, ◌∙◌, inl, inr, arith, append_assoc, length-append}
use Rattle.std.specs.Char.{is_ascii_digit}
use Rattle.std.specs.List.{AllByRecursion, flat_map}
use Rattle.std.proofs.lemmas.List.{append-nil, length-replicate, length-take}
use Rattle.std.proofs.lemmas.Bool.{cases_lt}
use Rattle.grid.specs.declared.moves.Letter.{Letter}
use Rattle.lurd.specs.declared.fault.LurdFault.{LurdFault}
use Rattle.lurd.specs.declared.fault.LurdFault.TheVariants.{BadByte, BadCount, TooManyMoves, OutOfMemory}
use Rattle.lurd.specs.declared.limits.TheConstants.{MAX_MOVES}
use Rattle.counts.specs.Counts.{AreDigits, IsCount, repeats}
use Rattle.counts.specs.NoCount.{IsNoCount}
use Rattle.counts.proofs.lemmas.Digits.{digit_count, digits_in_front, SameRun, one_run, digits_of_count, count_or_not}
use Rattle.lurd.specs.ExactlyOne.{ExactlyOne}
use Rattle.lurd.specs.inside.Item.{TakesItem}
use Rattle.lurd.specs.Text.{letter_byte, is_skipped, Piece, blank, item, spelling, meaning, IsPiece, IsText, BeginsWithLetter, BeginsBadly, BeginsWithBadCount}
use Rattle.lurd.specs.Text.{BeginsWithTooMany, FaultsAt}
use Rattle.lurd.specs.Parsing.{Reads}
use Rattle.lurd.proofs.Items.{bad_byte, bad_count, too_many, takes_item}
use Rattle.lurd.proofs.Letters.{letter_no_digit, letter_no_blank, blank_no_digit, one_letter, letter_or_not}
use Rattle.lurd.proofs.Texts.{text_of_nothing, text_and_piece}

-- a piece's bytes and what follows, cut before the letter
item_then : (ds : List ℕ) (x : Letter) (more : List ℕ) → spelling (item ds x) ++ more ≡ ds ++ letter_byte x ∷ more
item_then ds x more = append_assoc ds (letter_byte x ∷ []) more

-- a blank is not the beginning of a letter and its count
blank_or_item : (b : ℕ) (ds : List ℕ) (x : Letter) (m n : List ℕ) → is_skipped b ≡ true → AreDigits ds → b ∷ m ≡ ds ++ letter_byte x ∷ n → ⊥
blank_or_item b [] x m n is all same =
    let head : b ≡ letter_byte x = cc in
    let f = letter_no_blank x in
    let g = ap is_skipped head in
    cc
blank_or_item b (d ∷ ds) x m n is all same =
    let head : b ≡ d = cc in
    let f = blank_no_digit b is in
    let g = ap is_ascii_digit head in
    let h = all.0 in
    cc

-- two pieces that begin the same bytes are one
pub record SamePiece (p q : Piece) (m n : List ℕ) : Type 0 where
  pub piece : p ≡ q
  pub more : m ≡ n

pub one_piece : (p q : Piece) (m n : List ℕ) → IsPiece p → IsPiece q → spelling p ++ m ≡ spelling q ++ n → SamePiece p q m n
one_piece (blank b) (blank c) m n is other same =
    let head : b ≡ c = cc in
    record { piece = ap (λ (k : ℕ). blank k) head; more = cc }
one_piece (blank b) (item ds x) m n is other same = absurd (blank_or_item b ds x m n is (digits_of_count ds other) (same ∙ item_then ds x n))
one_piece (item ds x) (blank c) m n is other same = absurd (blank_or_item c ds x n m other (digits_of_count ds is) (sym same ∙ item_then ds x m))
one_piece (item ds x) (item es y) m n is other same =
    let run = one_run ds es (letter_byte x ∷ m) (letter_byte y ∷ n) (digits_of_count ds is) (digits_of_count es other) (letter_no_digit x) (letter_no_digit y)
    (sym (item_then ds x m) ∙ (same ∙ item_then es y n)) in
    let left : letter_byte x ∷ m ≡ letter_byte y ∷ n = run.more in
    let digits : ds ≡ es = run.digits in
    let head : letter_byte x ≡ letter_byte y = cc in
    let letter : x ≡ y = one_letter x y head in
    record { piece = cc; more = cc }

bad_or_piece : (p : Piece) (bytes m : List ℕ) → BeginsBadly bytes → IsPiece p → bytes ≡ spelling p ++ m → ⊥
bad_or_piece (blank b) bytes m bad is same =
    let cut = bad.cut in
    let head : bad.byte ≡ b = cc in
    let f = ap is_skipped head in
    let g = bad.no_blank in
    cc
bad_or_piece (item [] x) bytes m bad is same =
    let cut = bad.cut in
    let head : letter_byte x ≡ bad.byte = cc in
    bad.no_letter x head
bad_or_piece (item (d ∷ ds) x) bytes m bad is same =
    let cut = bad.cut in
    let head : d ≡ bad.byte = cc in
    let f = ap is_ascii_digit head in
    let g = bad.no_digit in
    let h = (digits_of_count (d ∷ ds) is).0 in
    cc

first_digit : (b : ℕ) (ds m n : List ℕ) → 1 ≤ length ds → AreDigits ds → b ∷ n ≡ ds ++ m → is_ascii_digit b ≡ true
first_digit b [] m n some all same = absurd (omega (arith, some))
first_digit b (d ∷ ds) m n some all same = let head : b ≡ d = cc in ap is_ascii_digit head ∙ all.0

bad_or_count : (bytes : List ℕ) → BeginsBadly bytes → BeginsWithBadCount bytes → ⊥
bad_or_count bytes bad count =
    let digit = first_digit bad.byte count.digits count.more bad.more count.some count.all (sym bad.cut ∙ count.cut) in
    let none = bad.no_digit in
    cc

count_by_run : (digits more ds m : List ℕ) (x : Letter) → 1 ≤ length digits → (¬ (IsCount digits)) ⊎ (¬ (BeginsWithLetter more)) →
    SameRun digits ds more (letter_byte x ∷ m) → (ds ≡ []) ⊎ IsCount ds → ⊥
count_by_run digits more ds m x some bad run (inl none) = let f : length digits ≡ 0 = ap (λ (es : List ℕ). length es) (run.digits ∙ none) in omega arith
count_by_run digits more ds m x some (inl bad) run (inr count) = bad (subst (λ (es : List ℕ). IsCount es) (sym run.digits) count)
count_by_run digits more ds m x some (inr none) run (inr count) = none (x, m, run.more)

count_or_piece : (p : Piece) (bytes m : List ℕ) → BeginsWithBadCount bytes → IsPiece p → bytes ≡ spelling p ++ m → ⊥
count_or_piece (blank b) bytes m bad is same =
    let digit = first_digit b bad.digits bad.more m bad.some bad.all (sym same ∙ bad.cut) in
    let none = blank_no_digit b is in
    cc
count_or_piece (item ds x) bytes m bad is same =
    count_by_run bad.digits bad.more ds m x bad.some bad.bad
    (one_run bad.digits ds bad.more (letter_byte x ∷ m) bad.all (digits_of_count ds is) bad.whole (letter_no_digit x) (sym bad.cut ∙ (same ∙ item_then ds x m))) is

many_or_piece : (p : Piece) (moves : ℕ) (bytes m : List ℕ) → BeginsWithTooMany moves bytes → IsPiece p → bytes ≡ spelling p ++ m →
    MAX_MOVES < moves + length (meaning p)
many_or_piece p moves bytes m many is same =
    let one = one_piece (item many.digits many.letter) p many.more m many.lawful is (sym many.cut ∙ same) in
    let size : length (meaning (item many.digits many.letter)) ≡ repeats many.digits = length-replicate (repeats many.digits) many.letter in
    let above : MAX_MOVES < moves + length (meaning (item many.digits many.letter)) = (let f = many.above in omega arith) in
    subst (λ (q : Piece). MAX_MOVES < moves + length (meaning q)) one.piece above

-- no fault stands where a piece stands that does not bring the moves above the greatest number
pub fault_or_piece : (p : Piece) (place moves : ℕ) (bytes m : List ℕ) (fault : LurdFault) → FaultsAt place moves bytes fault → IsPiece p →
    bytes ≡ spelling p ++ m → moves + length (meaning p) ≤ MAX_MOVES → ⊥
fault_or_piece p place moves bytes m (BadByte at) fault is same few = bad_or_piece p bytes m fault.1 is same
fault_or_piece p place moves bytes m (BadCount at) fault is same few = count_or_piece p bytes m fault.1 is same
fault_or_piece p place moves bytes m TooManyMoves fault is same few = let f = many_or_piece p moves bytes m fault is same in omega arith
fault_or_piece p place moves bytes m OutOfMemory fault is same few = fault

-- one fault stands at a place
pub one_fault : (place moves : ℕ) (bytes : List ℕ) (f g : LurdFault) → FaultsAt place moves bytes f → FaultsAt place moves bytes g → f ≡ g
one_fault place moves bytes (BadByte at) (BadByte to) one other = ap (λ (k : ℕ). BadByte k) (one.0 ∙ sym other.0)
one_fault place moves bytes (BadByte at) (BadCount to) one other = absurd (bad_or_count bytes one.1 other.1)
one_fault place moves bytes (BadByte at) TooManyMoves one other =
    absurd (bad_or_piece (item other.digits other.letter) bytes other.more one.1 other.lawful other.cut)
one_fault place moves bytes (BadCount at) (BadByte to) one other = absurd (bad_or_count bytes other.1 one.1)
one_fault place moves bytes (BadCount at) (BadCount to) one other = ap (λ (k : ℕ). BadCount k) (one.0 ∙ sym other.0)
one_fault place moves bytes (BadCount at) TooManyMoves one other =
    absurd (count_or_piece (item other.digits other.letter) bytes other.more one.1 other.lawful other.cut)
one_fault place moves bytes TooManyMoves (BadByte to) one other = absurd (bad_or_piece (item one.digits one.letter) bytes one.more other.1 one.lawful one.cut)
one_fault place moves bytes TooManyMoves (BadCount to) one other =
    absurd (count_or_piece (item one.digits one.letter) bytes one.more other.1 one.lawful one.cut)
one_fault place moves bytes TooManyMoves TooManyMoves one other = refl
one_fault place moves bytes OutOfMemory g one other = absurd one
one_fault place moves bytes (BadByte at) OutOfMemory one other = absurd other
one_fault place moves bytes (BadCount at) OutOfMemory one other = absurd other
one_fault place moves bytes TooManyMoves OutOfMemory one other = absurd other

-- how a reading ends, with these letters before, at what is left of the bytes
abbrev Ending : ℕ → List Letter → List ℕ → Result (List Letter) LurdFault → Type 0
Ending place letters rest (Ok all) = (rest ≡ []) × (all ≡ letters)
Ending place letters rest (Err fault) = FaultsAt place (length letters) rest fault

none_at_end : (place moves : ℕ) (bytes : List ℕ) (fault : LurdFault) → bytes ≡ [] → ¬ (FaultsAt place moves bytes fault)
none_at_end place moves bytes (BadByte at) none fault = let cut = fault.1.cut in cc
none_at_end place moves bytes (BadCount at) none fault =
    let cut = fault.1.cut in
    let f = length-append fault.1.digits fault.1.more in
    let g : length bytes ≡ length (fault.1.digits ++ fault.1.more) = ap (λ (es : List ℕ). length es) cut in
    let h : length bytes ≡ 0 = ap (λ (es : List ℕ). length es) none in
    let i = fault.1.some in
    omega arith
none_at_end place moves bytes TooManyMoves none fault =
    let cut = fault.cut ∙ item_then fault.digits fault.letter fault.more in
    let f = length-append fault.digits (letter_byte fault.letter ∷ fault.more) in
    let g : length bytes ≡ length (fault.digits ++ letter_byte fault.letter ∷ fault.more) = ap (λ (es : List ℕ). length es) cut in
    let h : length bytes ≡ 0 = ap (λ (es : List ℕ). length es) none in
    omega arith
none_at_end place moves bytes OutOfMemory none fault = fault

one_ending : (place : ℕ) (letters : List Letter) (rest : List ℕ) (r s : Result (List Letter) LurdFault) → Ending place letters rest r →
    Ending place letters rest s → r ≡ s
one_ending place letters rest (Ok all) (Ok most) one other = ap (λ (ls : List Letter). Ok ls) (one.1 ∙ sym other.1)
one_ending place letters rest (Ok all) (Err g) one other = absurd (none_at_end place (length letters) rest g one.0 other)
one_ending place letters rest (Err f) (Ok most) one other = absurd (none_at_end place (length letters) rest f other.0 one)
one_ending place letters rest (Err f) (Err g) one other = ap (λ (h : LurdFault). Err h) (one_fault place (length letters) rest f g one other)

piece_then : (p : Piece) (ps : List Piece) (rest : List ℕ) → flat_map spelling (p ∷ ps) ++ rest ≡ spelling p ++ (flat_map spelling ps ++ rest)
piece_then p ps rest = append_assoc (spelling p) (flat_map spelling ps) rest

-- a piece is not nothing
piece_some : (p : Piece) (m : List ℕ) → spelling p ++ m ≢ []
piece_some (blank b) m none = cc
piece_some (item [] x) m none = cc
piece_some (item (d ∷ ds) x) m none = cc

-- no reading ends where a piece stands that may come next
ending_or_piece : (p : Piece) (place : ℕ) (letters : List Letter) (rest m : List ℕ) (r : Result (List Letter) LurdFault) → Ending place letters rest r →
    IsPiece p → rest ≡ spelling p ++ m → length letters + length (meaning p) ≤ MAX_MOVES → ⊥
ending_or_piece p place letters rest m (Ok all) ends is same few = piece_some p m (sym same ∙ ends.0)
ending_or_piece p place letters rest m (Err fault) ends is same few = fault_or_piece p place (length letters) rest m fault ends is same few

-- pieces that follow each other, and how the reading ends behind them
pub record Way (place : ℕ) (before : List Letter) (ps : List Piece) (rest : List ℕ) (r : Result (List Letter) LurdFault) : Type 0 where
  pub each : AllByRecursion IsPiece ps
  pub few : length (before ++ flat_map meaning ps) ≤ MAX_MOVES
  pub ending : Ending (place + length (flat_map spelling ps)) (before ++ flat_map meaning ps) rest r

-- the way behind the first piece
way_on : (place : ℕ) (before : List Letter) (p : Piece) (ps : List Piece) (rest : List ℕ) (r : Result (List Letter) LurdFault) →
    Way place before (p ∷ ps) rest r → Way (place + length (spelling p)) (before ++ meaning p) ps rest r
way_on place before p ps rest r way =
    let bytes : place + length (flat_map spelling (p ∷ ps)) ≡ place + length (spelling p) + length (flat_map spelling ps) =
    (let f = length-append (spelling p) (flat_map spelling ps) in omega arith) in
    let letters : before ++ flat_map meaning (p ∷ ps) ≡ (before ++ meaning p) ++ flat_map meaning ps =
    sym (append_assoc before (meaning p) (flat_map meaning ps)) in
    record {
      each = way.each.1;
      few = subst (λ (ls : List Letter). length ls ≤ MAX_MOVES) letters way.few;
      ending = subst (λ k. Ending k ((before ++ meaning p) ++ flat_map meaning ps) rest r) bytes
          (subst (λ ls. Ending (place + length (flat_map spelling (p ∷ ps))) ls rest r) letters way.ending);
    }

-- the first piece does not bring the moves above the greatest number
first_few : (place : ℕ) (before : List Letter) (p : Piece) (ps : List Piece) (rest : List ℕ) (r : Result (List Letter) LurdFault) →
    Way place before (p ∷ ps) rest r → length before + length (meaning p) ≤ MAX_MOVES
first_few place before p ps rest r way =
    let f = length-append before (flat_map meaning (p ∷ ps)) in
    let g = length-append (meaning p) (flat_map meaning ps) in
    let h = way.few in
    omega arith

-- where no piece is left
way_end : (place : ℕ) (before : List Letter) (rest : List ℕ) (r : Result (List Letter) LurdFault) → Way place before [] rest r → Ending place before rest r
way_end place before rest r way =
    let f : place + 0 ≡ place = omega arith in
    subst (λ k. Ending k before rest r) f (subst (λ ls. Ending (place + 0) ls rest r) (append-nil before) way.ending)

one_way : (place : ℕ) (before : List Letter) (ps qs : List Piece) (m n : List ℕ) (r s : Result (List Letter) LurdFault) → Way place before ps m r →
    Way place before qs n s → flat_map spelling ps ++ m ≡ flat_map spelling qs ++ n → r ≡ s
one_way place before [] [] m n r s one other same =
    one_ending place before m r s (way_end place before m r one) (subst (λ ys. Ending place before ys s) (sym same) (way_end place before n s other))
one_way place before [] (q ∷ qs) m n r s one other same =
    absurd (ending_or_piece q place before m (flat_map spelling qs ++ n) r (way_end place before m r one) other.each.0 (same ∙
    piece_then q qs n) (first_few place before q qs n s other))
one_way place before (p ∷ ps) [] m n r s one other same =
    absurd (ending_or_piece p place before n (flat_map spelling ps ++ m) s (way_end place before n s other) one.each.0 (sym same ∙
    piece_then p ps m) (first_few place before p ps m r one))
one_way place before (p ∷ ps) (q ∷ qs) m n r s one other same =
    let first = one_piece p q (flat_map spelling ps ++ m) (flat_map spelling qs ++ n) one.each.0 other.each.0 (sym (piece_then p ps m) ∙
    (same ∙ piece_then q qs n)) in
    let further : Way (place + length (spelling p)) (before ++ meaning p) qs n s =
    subst (λ (t : Piece). Way (place + length (spelling t)) (before ++ meaning t) qs n s) (sym first.piece) (way_on place before q qs n s other) in
    one_way (place + length (spelling p)) (before ++ meaning p) ps qs m n r s (way_on place before p ps m r one) further first.more

-- a reading as a way from the beginning
pub record FromStart (bytes : List ℕ) (r : Result (List Letter) LurdFault) : Type 0 where
  pub pieces : List Piece
  pub rest : List ℕ
  pub cut : bytes ≡ flat_map spelling pieces ++ rest
  pub way : Way 1 [] pieces rest r

from_start : (bytes : List ℕ) (r : Result (List Letter) LurdFault) → Reads bytes r → FromStart bytes r
from_start bytes (Ok letters) text = record {
  pieces = text.pieces;
  rest = [];
  cut = text.spelled ∙ sym (append-nil (flat_map spelling text.pieces));
  way = record {
    each = text.each;
    few = subst (λ (ls : List Letter). length ls ≤ MAX_MOVES) text.meant text.few;
    ending = (refl, text.meant);
  };
}
from_start bytes (Err fault) faulty =
    let text = faulty.text in
    let place : length faulty.front + 1 ≡ 1 + length (flat_map spelling text.pieces) =
    (let f : length faulty.front ≡ length (flat_map spelling text.pieces) = ap (λ (ys : List ℕ). length ys) text.spelled in omega arith) in
    record {
      pieces = text.pieces;
      rest = faulty.rest;
      cut = faulty.cut ∙ ap (λ ys. ys ++ faulty.rest) text.spelled;
      way = record {
        each = text.each;
        few = subst (λ (ls : List Letter). length ls ≤ MAX_MOVES) text.meant text.few;
        ending = subst (λ k. FaultsAt k (length (flat_map meaning text.pieces)) faulty.rest fault) place
            (subst (λ (ls : List Letter). FaultsAt (length faulty.front + 1) (length ls) faulty.rest fault) text.meant faulty.stands);
      };
    }

-- bytes are read in one way only
pub readings_same : (bytes : List ℕ) (r s : Result (List Letter) LurdFault) → Reads bytes r → Reads bytes s → r ≡ s
readings_same bytes r s one other =
    let a = from_start bytes r one in
    let b = from_start bytes s other in
    one_way 1 [] a.pieces b.pieces a.rest b.rest r s a.way b.way (sym a.cut ∙ b.cut)

-- the bytes begin with a letter or do not
begins_or_not : (bytes : List ℕ) → BeginsWithLetter bytes ⊎ (¬ (BeginsWithLetter bytes))
begins_or_not [] = inr (λ (x, more, same). cc)
begins_or_not (b ∷ bs) = elim (letter_or_not b) [
  | inl (x, is) ↦ inl (x, bs, ap (λ k. k ∷ bs) (sym is))
  | inr none ↦ inr (λ (x, more, same). none (x, (let head : letter_byte x ≡ b = cc in head)))
]

-- what stands where a letter may begin: a letter with its count, or a fault
abbrev ItemOrFault : ℕ → ℕ → List ℕ → Type 0
ItemOrFault place moves bytes =
    ((x : Letter) × (times : ℕ) × (len : ℕ) × TakesItem moves bytes x times len) ⊎ ((fault : LurdFault) × FaultsAt place moves bytes fault)

letterless : (place moves : ℕ) (b : ℕ) (bs : List ℕ) (n : ℕ) → is_skipped b ≡ false → n ≡ digit_count (b ∷ bs) → ¬ (BeginsWithLetter (drop n (b ∷ bs))) →
    ItemOrFault place moves (b ∷ bs)
letterless place moves b bs zero no_blank count none = inr (BadByte place, (refl, bad_byte (b ∷ bs) (omega arith) no_blank (sym count) none))
letterless place moves b bs (suc n) no_blank count none = inr (BadCount place, (refl, bad_count (b ∷ bs) (suc n) count (omega arith) (inr none)))

with_letter : (place moves : ℕ) (bytes : List ℕ) (n : ℕ) (x : Letter) (more : List ℕ) → n ≡ digit_count bytes → drop n bytes ≡ letter_byte x ∷ more →
    ((take n bytes ≡ []) ⊎ IsCount (take n bytes)) ⊎ IsNoCount (take n bytes) → ItemOrFault place moves bytes
with_letter place moves bytes n x more count is (inl lawful) = elim (cases_lt MAX_MOVES (moves + repeats (take n bytes))) [
  | inl above ↦ inr (TooManyMoves, too_many bytes moves n (repeats (take n bytes)) x more is lawful refl above)
  | inr few ↦ inl (x, repeats (take n bytes), n + 1, takes_item bytes moves n (repeats (take n bytes)) x more count is lawful refl few)
]
with_letter place moves bytes n x more count is (inr bad) =
    inr (BadCount place, (refl, bad_count bytes n count (let some = bad.0 in let f = length-take n bytes in omega arith) (inl bad.1)))

item_or_fault : (place moves : ℕ) (b : ℕ) (bs : List ℕ) → is_skipped b ≡ false → ItemOrFault place moves (b ∷ bs)
item_or_fault place moves b bs no_blank =
    let n = digit_count (b ∷ bs) in
    elim (begins_or_not (drop n (b ∷ bs))) [
      | inl (x, more, is) ↦ with_letter place moves (b ∷ bs) n x more refl is (count_or_not (take n (b ∷ bs)) (digits_in_front (b ∷ bs)))
      | inr none ↦ letterless place moves b bs n no_blank refl none
    ]

abbrev Read : List ℕ → Type 0
Read bytes = (r : Result (List Letter) LurdFault) × Reads bytes r

-- the text and a blank
read_blank : (front : List ℕ) (b : ℕ) (letters : List Letter) → IsText front letters → is_skipped b ≡ true → IsText (front ++ b ∷ []) letters
read_blank front b letters text is =
    let few : length (letters ++ []) ≤ MAX_MOVES = (let f = length-append letters [] in let g = text.few in omega arith) in
    subst (λ (ls : List Letter). IsText (front ++ b ∷ []) ls) (append-nil letters) (text_and_piece (blank b) text is few)

-- what is left is read, once less than it can be
abbrev ReadsOn : ℕ → Type 0
ReadsOn fuel = (rest front : List ℕ) (letters : List Letter) → length rest ≤ fuel → IsText front letters → Read (front ++ rest)

read_item : (fuel : ℕ) (front bs : List ℕ) (b : ℕ) (letters : List Letter) → length (b ∷ bs) ≤ suc fuel → IsText front letters → ReadsOn fuel →
    ItemOrFault (length front + 1) (length letters) (b ∷ bs) → Read (front ++ b ∷ bs)
read_item fuel front bs b letters enough text next (inl (x, times, len, takes)) =
    let p = item takes.digits x in
    let few : length (letters ++ meaning p) ≤ MAX_MOVES =
    (let f = length-append letters (meaning p) in let g = length-replicate (repeats takes.digits) x in let h = takes.few in let i = takes.counted in
    omega arith) in
    let whole : (front ++ spelling p) ++ takes.more ≡ front ++ b ∷ bs = append_assoc front (spelling p) takes.more ∙ ap (λ ys. front ++ ys) (sym takes.cut) in
    let less : length takes.more ≤ fuel =
    (let f : length (b ∷ bs) ≡ length (spelling p ++ takes.more) = ap (λ (ys : List ℕ). length ys) takes.cut in
    let g = length-append (spelling p) takes.more in
    let h = length-append takes.digits (letter_byte x ∷ []) in
    omega arith) in
    subst (λ ys. Read ys) whole (next takes.more (front ++ spelling p) (letters ++ meaning p) less (text_and_piece p text takes.lawful few))
read_item fuel front bs b letters enough text next (inr (fault, stands)) =
    (Err fault, record { front = front; letters = letters; rest = b ∷ bs; cut = refl; text = text; stands = stands })

read_by : (fuel : ℕ) (front bs : List ℕ) (b : ℕ) (letters : List Letter) (v : Bool) → is_skipped b ≡ v → length (b ∷ bs) ≤ suc fuel → IsText front letters →
    ReadsOn fuel → Read (front ++ b ∷ bs)
read_by fuel front bs b letters true is enough text next =
    subst (λ ys. Read ys) (append_assoc front (b ∷ []) bs) (next bs (front ++ b ∷ []) letters (omega (arith, enough)) (read_blank front b letters text is))
read_by fuel front bs b letters false is enough text next =
    read_item fuel front bs b letters enough text next (item_or_fault (length front + 1) (length letters) b bs is)

read_on : (fuel : ℕ) → ReadsOn fuel
read_on fuel [] front letters enough text = subst (λ ys. Read ys) (sym (append-nil front)) (Ok letters, text)
read_on zero (b ∷ bs) front letters enough text = absurd (omega (arith, enough))
read_on (suc fuel) (b ∷ bs) front letters enough text =
    read_by fuel front bs b letters (is_skipped b) refl enough text (λ rest before so_far. read_on fuel rest before so_far)

-- bytes are read in one way
pub one_reading : (bytes : List ℕ) → ExactlyOne (λ r. Reads bytes r)
one_reading bytes =
    let found = read_on (length bytes) bytes [] [] (omega arith) text_of_nothing in
    (found.0, found.1, λ s is. readings_same bytes s found.0 is found.1)

-- Texts, one piece more.
use Rattle.std.proofs.Common.{◌≡◌, ℕ, ◌+◌, ◌<◌, ◌≤◌, true, List, [], ◌∷◌, ◌++◌, length, take, drop, get_or, replicate, refl, sym, ap, subst, ◌∙◌, arith}
use Rattle.std.proofs.Common.{length-append, length-drop}
use Rattle.std.specs.List.{AllByRecursion, flat_map}
use Rattle.std.proofs.lemmas.Grind.{flat_map-append}
use Rattle.std.proofs.Math.Seq.{take-append_seam, take-add}
use Rattle.std.proofs.lemmas.List.{append-nil, take_more, length-replicate, length-take-le, take-append-drop, take_rest}
use Rattle.grid.specs.declared.moves.Letter.{Letter}
use Rattle.lurd.specs.declared.limits.TheConstants.{MAX_MOVES}
use Rattle.lurd.specs.declared.fault.LurdFault.{LurdFault}
use Rattle.lurd.specs.Text.{Piece, blank, item, IsPiece, is_skipped, spelling, meaning, IsText, FaultsAt, HasTextFault}
use Rattle.counts.specs.Counts.{repeats}
use Rattle.lurd.specs.inside.Item.{TakesItem}

each_more : (ps : List Piece) (p : Piece) → AllByRecursion IsPiece ps → IsPiece p → AllByRecursion IsPiece (ps ++ p ∷ [])
each_more [] p each one = (one, tt)
each_more (q ∷ ps) p each one = (each.0, each_more ps p each.1 one)

flat_one : {A : Type 0} (f : Piece → List A) (p : Piece) → flat_map f (p ∷ []) ≡ f p
flat_one f p = append-nil (f p)

-- no bytes are a text of no letters
pub text_of_nothing : IsText [] []
text_of_nothing = record { pieces = []; each = tt; spelled = refl; meant = refl; few = omega arith }

-- a text and one piece more are a text, while the letters are not too many
pub text_and_piece : {front : List ℕ} {letters : List Letter} (p : Piece) → IsText front letters → IsPiece p → length (letters ++ meaning p) ≤ MAX_MOVES →
    IsText (front ++ spelling p) (letters ++ meaning p)
text_and_piece p text one few = record {
  pieces = text.pieces ++ p ∷ [];
  each = each_more text.pieces p text.each one;
  spelled = ap (λ ys. ys ++ spelling p) text.spelled ∙
      sym (flat_map-append spelling text.pieces (p ∷ []) ∙ ap (λ ys. flat_map spelling text.pieces ++ ys) (flat_one spelling p));
  meant = ap (λ ys. ys ++ meaning p) text.meant ∙
      sym (flat_map-append meaning text.pieces (p ∷ []) ∙ ap (λ ys. flat_map meaning text.pieces ++ ys) (flat_one meaning p));
  few = few;
}

-- a text and a blank
pub text_and_blank : (bytes : List ℕ) (n : ℕ) {letters : List Letter} → n < length bytes → IsText (take n bytes) letters → is_skipped (get_or bytes n 0) ≡ true →
    IsText (take (n + 1) bytes) letters
text_and_blank bytes n {letters} inside text is =
    let more : IsText (take n bytes ++ get_or bytes n 0 ∷ []) (letters ++ []) =
    text_and_piece (blank (get_or bytes n 0)) text is (let f = length-append letters [] in let g = text.few in omega arith) in
    subst (λ (ys : List ℕ). IsText ys letters) (sym (take_more bytes n 0 inside))
    (subst (λ (ls : List Letter). IsText (take n bytes ++ get_or bytes n 0 ∷ []) ls) (append-nil letters) more)

-- a text and a letter with its count
pub item_within : (bytes : List ℕ) (n moves times len : ℕ) {letter : Letter} → n ≤ length bytes → TakesItem moves (drop n bytes) letter times len →
    n + len ≤ length bytes
item_within bytes n moves times len {letter} inside takes =
    let size : length (drop n bytes) ≡ len + length takes.more = ap length takes.cut ∙
    (length-append (spelling (item takes.digits letter)) takes.more ∙ ap (λ k. k + length takes.more) (sym takes.taken)) in
    let rest = length-drop n bytes in
    omega arith

pub text_and_item : (bytes : List ℕ) (n times len : ℕ) {letters : List Letter} {letter : Letter} → IsText (take n bytes) letters →
    TakesItem (length letters) (drop n bytes) letter times len → IsText (take (n + len) bytes) (letters ++ replicate times letter)
text_and_item bytes n times len {letters} {letter} text takes =
    let p = item takes.digits letter in
    let same : replicate times letter ≡ meaning p = ap (λ k. replicate k letter) takes.counted in
    let few : length (letters ++ meaning p) ≤ MAX_MOVES =
    (let f = length-append letters (meaning p) in let g = length-replicate (repeats takes.digits) letter in let h = takes.few in let i = takes.counted in
    omega arith) in
    let front : take (n + len) bytes ≡ take n bytes ++ spelling p =
    take-add n len bytes ∙ ap (λ ys. take n bytes ++ ys) (ap (λ k. take k (drop n bytes)) takes.taken ∙
    (ap (λ ys. take (length (spelling p)) ys) takes.cut ∙ take-append_seam (spelling p) takes.more)) in
    subst (λ (ys : List ℕ). IsText ys (letters ++ replicate times letter)) (sym front)
    (subst (λ (ls : List Letter). IsText (take n bytes ++ spelling p) (letters ++ ls)) (sym same) (text_and_piece p text takes.lawful few))

-- after a text, what is at fault is the first fault
pub fault_after : (bytes : List ℕ) (n : ℕ) (letters : List Letter) (fault : LurdFault) → n ≤ length bytes → IsText (take n bytes) letters →
    FaultsAt (n + 1) (length letters) (drop n bytes) fault → HasTextFault bytes fault
fault_after bytes n letters fault inside text stands = record {
  front = take n bytes;
  letters = letters;
  rest = drop n bytes;
  cut = sym (take-append-drop n bytes);
  text = text;
  stands = subst (λ k. FaultsAt (k + 1) (length letters) (drop n bytes) fault) (sym (length-take-le n bytes inside)) stands;
}

-- a text and what is next in the bytes
pub ruleset one_piece_more = (text_and_blank, item_within, text_and_item, take_rest)

-- Levels that are written one after the other, each after its name, are read back.
use Rattle.std.proofs.Common.{◌≡◌, ℕ, suc, ◌+◌, false, cond, ◌==◌, List, [], ◌∷◌, ◌++◌, length, get_or, flat_map}
use Rattle.std.proofs.Common.{None, unwrap_or, refl, sym, ap, ◌∙◌, arith, append_assoc, subst}
use Rattle.std.specs.Prelude.{codes}
use Rattle.std.specs.Option.{option_or}
use Rattle.std.specs.Char.{is_ascii_digit}
use Rattle.std.specs.List.{AllZip, slice_split, onto_first}
use Rattle.grid.specs.declared.cell.Cell.{Cell}
use Rattle.grid.specs.Board.{Board}
use Rattle.xsb.specs.Collection.{Found, Part, AreParts, AreFound, IsCollection}
use Rattle.xsb.specs.Lines.{without_last, without_mark, lines_of_text}
use Rattle.xsb.specs.Names.{after_prefix, first_some, trimmed, name_of}
use Rattle.xsb.specs.Rows.{IsRow, IsTextLine}
use Rattle.xsb.specs.inside.Bytes.{bar, line_feed, carriage_return, cell_of}
use Rattle.xsb.proofs.FirstItem.{IsCutAtDigits, no-item_cell}
use Rattle.xsb.proofs.BoardByBoard.{all-rows, apart-cons}
use Rattle.xsb.proofs.GapNames.{last_some-last}
use Rattle.xsb.proofs.LineFeeds.{split-some, without_last-other}
use Rattle.xsb.proofs.RowItems.{no-row}
use Rattle.xsb.proofs.RowLines.{text-piece}
use Rattle.xsb.proofs.ReadAgain.{has-both, has-line, lines_from, no-mark}
pub use Rattle.xsb.proofs.AsRead.{BeginsOther, IsAsRead, as-read}
pub use Rattle.xsb.proofs.BoardsAgain.{AreLinesOf, all-both, lines-joined, lines-of_rows, written-rows}
pub use Rattle.xsb.proofs.CellBytes.{cell_of-cell_byte}
pub use Rattle.xsb.proofs.CutEnds.{cut_end-blank}
pub use Rattle.xsb.proofs.LineFeeds.{without_last-end}
pub use Rattle.xsb.proofs.ReadAgain.{AllWalls, NoFeed, kept-whole, other-byte}
pub use Rattle.xsb.proofs.Walls.{Has}

-- ---- text lines

-- a byte that stands for nothing in a row, ends no line and begins no mark
pub record IsTextByte (b : ℕ) : Type 0 where
  pub cell : cell_of b ≡ None
  pub digit : is_ascii_digit b ≡ false
  pub bar : (b == bar) ≡ false
  pub feed : (b == line_feed) ≡ false
  pub return : (b == carriage_return) ≡ false
  pub mark : (b == 0xEF) ≡ false

pub semicolon : IsTextByte 59
semicolon = record { cell = refl; digit = refl; bar = refl; feed = refl; return = refl; mark = refl }

no-text_row : (b : ℕ) (piece : List ℕ) → IsTextByte b → (row : List Cell) → ¬ (IsRow (b ∷ piece) row)
no-text_row b piece is row whole =
    let cut : IsCutAtDigits (b ∷ piece) [] (b ∷ piece) = record { whole = refl; decimal = tt; ends = is.digit } in
    let none = no-row whole (no-item_cell {digits = []} b piece cut refl is.cell) in absurd (omega arith)

-- a line that begins with such a byte is a text line
text-line : (b : ℕ) (bytes : List ℕ) → IsTextByte b → IsTextLine (b ∷ bytes)
text-line b bytes is =
    let first = split-some bar bytes in
    let cut : slice_split (λ b. b == bar) (b ∷ bytes) ≡ (b ∷ first.0) ∷ first.1 =
    ap (λ t. cond t ([] ∷ slice_split (λ b. b == bar) bytes) (onto_first b (slice_split (λ b. b == bar) bytes))) is.bar
    ∙ ap (onto_first b) first.2 in
    let some = ap length cut in
    text-piece {k = 0} (b ∷ first.0) (omega arith, sym (ap (λ l. get_or l 0 (b ∷ first.0)) cut)) (omega arith)
    (no-text_row b first.0 is)

text-empty : IsTextLine []
text-empty rows is = let less = is.wall.1 in absurd (omega arith)

-- ---- what is read back

-- the bytes are read as boards with names, each the same as a value of a list, whatever is read before
pub record ReadsBack {A : Type 0} (Same : A → List ℕ → Board → Type 0) (bytes : List ℕ) (kept : List A) : Type 0 where
  pub mark : without_mark bytes ≡ bytes
  pub gap : List (List ℕ)
  pub parts : List Part
  pub is : AreParts (lines_from bytes) gap parts
  pub found : (line : ℕ) (before : List (List ℕ)) → (founds : List Found) × AreFound line (before ++ gap) parts founds ×
      AllZip (λ x found. Same x found.name found.board) kept founds

pub reads-none : {A : Type 0} (Same : A → List ℕ → Board → Type 0) → ReadsBack Same [] []
reads-none Same = record {
  mark = refl;
  gap = [];
  parts = [];
  is = record { whole = refl; texts = tt; boards = tt; apart = tt };
  found = λ line before. ([], tt, tt);
}

-- a text line first
pub reads-text : {A : Type 0} {Same : A → List ℕ → Board → Type 0} {bytes : List ℕ} {kept : List A} (b : ℕ)
    (words : List ℕ) → IsTextByte b → NoFeed words → ReadsBack Same bytes kept
    → ReadsBack Same ((b ∷ words ++ line_feed ∷ []) ++ bytes) kept
reads-text {A} {Same} {bytes} {kept} b words is none rest =
    let line = b ∷ without_last carriage_return words in record {
      mark = no-mark b ((words ++ line_feed ∷ []) ++ bytes) is.mark;
      gap = line ∷ rest.gap;
      parts = rest.parts;
      is = record {
        whole = has-line (b ∷ words) (is.feed, none) bytes
            ∙ ap (λ l. l ∷ lines_from bytes) (without_last-other carriage_return b words is.return)
            ∙ ap (λ l. line ∷ l) rest.is.whole;
        texts = (text-line b (without_last carriage_return words) is, rest.is.texts);
        boards = rest.is.boards;
        apart = rest.is.apart;
      };
      found = λ n before. subst
          (λ l. (founds : List Found) × AreFound n l rest.parts founds ×
          AllZip (λ x found. Same x found.name found.board) kept founds)
          (append_assoc before (line ∷ []) rest.gap) (rest.found n (before ++ line ∷ []));
    }

-- a level first: a line with its name, its rows and an empty line
pub reads-level : {A : Type 0} {Same : A → List ℕ → Board → Type 0} {bytes : List ℕ} {kept : List A} (x : A)
    (name : List ℕ) (board : Board) (words text : List ℕ) → NoFeed words
    → trimmed (without_last carriage_return words) ≡ name → AreLinesOf board text → Same x name board
    → ReadsBack Same bytes kept
    → ReadsBack Same (((59 ∷ words ++ line_feed ∷ []) ++ text ++ line_feed ∷ []) ++ bytes) (x ∷ kept)
unfolding name_of
reads-level {A} {Same} {bytes} {kept} x name board words text none told of same rest =
    let short = without_last carriage_return words in
    let after = [] ∷ rest.gap in
    let title = first_some (after_prefix (codes "Title:")) after in
    let first = without_last-other carriage_return 59 words refl in
    let left = flat_map (λ part. part.board ++ part.gap) rest.parts in
    let lines = has-both ((59 ∷ words ++ line_feed ∷ []) ++ text) (line_feed ∷ [])
    (without_last carriage_return (59 ∷ words) ∷ of.lines) ([] ∷ [])
    (has-both (59 ∷ words ++ line_feed ∷ []) text (without_last carriage_return (59 ∷ words) ∷ []) of.lines
    (has-line (59 ∷ words) (refl, none)) of.has) (has-line [] tt) bytes in
    record {
      mark = no-mark 59 ((words ++ line_feed ∷ []) ++ text ++ line_feed ∷ [] ++ bytes) refl;
      gap = (59 ∷ short) ∷ [];
      parts = record { board = of.lines; gap = after } ∷ rest.parts;
      is = record {
        whole = lines ∙ ap (λ l. l ∷ (of.lines ++ [] ∷ []) ++ lines_from bytes) first
            ∙ ap (λ l. (59 ∷ short) ∷ l) (append_assoc of.lines ([] ∷ []) (lines_from bytes)
            ∙ ap (λ l. of.lines ++ [] ∷ l) rest.is.whole ∙ sym (append_assoc of.lines after left));
        texts = (text-line 59 short semicolon, tt);
        boards = (
          record { some = of.some; board = all-rows of.lines of.rows of.each; gap = (text-empty, rest.is.texts) },
          rest.is.boards,
        );
        apart = apart-cons (record { board = of.lines; gap = after }) rest.parts (λ next others e. omega arith)
            rest.is.apart;
      };
      found = λ n before.
          let others = rest.found (n + length (of.lines ++ after)) ([] ∷ []) in (
            record { name = name; first_line = n; board = board } ∷ others.0,
            (
              record {
                name = sym (ap (λ o. trimmed (unwrap_or (option_or o title) []))
                    (last_some-last (after_prefix (codes ";")) before (59 ∷ short)) ∙ told);
                first_line = refl;
                board = (of.rows, of.each, of.made);
              },
              others.1,
            ),
            (same, others.2),
          );
    }

-- the bytes are a collection of these boards
pub reads-all : {A : Type 0} {Same : A → List ℕ → Board → Type 0} (bytes : List ℕ) (kept : List A)
    → ReadsBack Same bytes kept → (founds : List Found) × IsCollection bytes founds ×
    AllZip (λ x found. Same x found.name found.board) kept founds
unfolding IsCollection lines_of_text
reads-all bytes kept reads =
    let found = reads.found (suc (length reads.gap)) [] in
    let lines : lines_of_text bytes ≡ lines_from bytes = ap lines_from reads.mark in (
      found.0,
      (
        reads.gap,
        reads.parts,
        subst (λ l. AreParts l reads.gap reads.parts) (sym lines) reads.is,
        found.1,
      ),
      found.2,
    )

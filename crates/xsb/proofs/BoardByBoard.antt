-- A collection, as it is read board by board.
use Rattle.std.proofs.Common.{◌≡◌, ℕ, suc, ◌+◌, ◌<◌, ◌≤◌, List, [], ◌∷◌, ◌++◌, length, flat_map, refl, sym, ap, ◌∙◌, arith, length-append, append_assoc, subst, Some}
use Rattle.std.specs.List.{AllZip, AllByRecursion}
use Rattle.std.proofs.lemmas.List.{append-nil}
use Rattle.grid.specs.declared.cell.Cell.{Cell}
use Rattle.xsb.specs.declared.boards.Stretch.{Stretch}
use Rattle.xsb.specs.declared.entry.BoardEntry.{BoardEntry}
use Rattle.xsb.specs.declared.entry.Entry.{Entry}
use Rattle.xsb.specs.declared.lines.Lines.{Lines}
use Rattle.xsb.specs.declared.names.Gap.{Gap}
use Rattle.xsb.specs.Lines.{lines_of_text}
use Rattle.xsb.specs.Boards.{board_of}
use Rattle.xsb.specs.Names.{name_of}
use Rattle.xsb.specs.Rows.{IsRowLine}
use Rattle.xsb.specs.inside.Reading.{cut_lines}
use Rattle.xsb.specs.inside.Gaps.{IsGap, ReadsGap, BeginsBoard, BeginsGap}
use Rattle.xsb.specs.inside.Stretches.{ReadsBoard, ReadsNoBoard, HasRows}
use Rattle.xsb.specs.Entries.{IsBoardEntry, IsEntry}
use Rattle.xsb.specs.Collection.{Found, Part, IsPart, AreSeparated, AreFound, IsCollection, IsJudged}
use Rattle.xsb.specs.declared.reader.Collection.{Collection}
use Rattle.xsb.specs.inside.Cursors.{IsAt}
use Rattle.xsb.specs.inside.Progress.{HasRead, GivesNext}
use Rattle.xsb.specs.inside.Sources.{Takes}
use Rattle.xsb.proofs.RowLines.{AllZip-last}

-- after the first gap nothing is found yet
pub HasRead-none : {bytes : List ℕ} {first : Lines} (left : Collection) → ReadsGap first left.lines left.before → cut_lines first.rest ≡ lines_of_text bytes →
    first.number ≡ 1 → HasRead bytes left []
unfolding IsCollection
HasRead-none {bytes} {first} left is e f =
    let n = is.read.number in let number : left.lines.number ≡ suc (length is.texts) = omega arith in
    record {
      texts = is.texts;
      gap = is.read.told;
      begins = is.ends;
      onto = λ parts others c. (
        is.texts,
        parts,
        record { whole = sym e ∙ is.read.whole ∙ ap (λ l. is.texts ++ l) c.whole; texts = is.read.all; boards = c.boards; apart = c.apart },
        subst (λ k. AreFound k is.texts parts others) number c.found,
      );
    }

-- a line is no row line and text line at once
no-board : (board rest : List (List ℕ)) → 0 < length board → AllByRecursion (λ line. (rows : List (List Cell)) × IsRowLine line rows) board →
    BeginsGap (board ++ rest) → ⊥
no-board [] rest some rows text = omega arith
no-board (line ∷ board) rest some rows text = text rows.0.0 rows.0.1

-- where a text line comes next and then a board, the gap between has a line
apart-some : (rest gap : List (List ℕ)) (parts : List Part) → BeginsGap (gap ++ rest) → rest ≡ flat_map (λ part. part.board ++ part.gap) parts →
    AllByRecursion IsPart parts → (part : Part) (next : List Part) → parts ≡ part ∷ next → 0 < length gap
apart-some rest (g ∷ gap) parts text whole boards part next e = omega arith
apart-some rest [] parts text whole boards part next e =
    let b = subst (λ ps. AllByRecursion IsPart ps) e boards in
    absurd (no-board part.board (part.gap ++ flat_map (λ p. p.board ++ p.gap) next) b.0.some b.0.board
    (subst BeginsGap (whole ∙ ap (flat_map (λ p. p.board ++ p.gap)) e ∙ append_assoc part.board part.gap (flat_map (λ p. p.board ++ p.gap) next)) text))

pub apart-cons : (part : Part) (parts : List Part) → ((next : Part) (more : List Part) → parts ≡ next ∷ more → 0 < length part.gap) → AreSeparated parts →
    AreSeparated (part ∷ parts)
apart-cons part [] some apart = tt
apart-cons part (next ∷ parts) some apart = (some next parts refl, apart)

pub all-rows : (lines : List (List ℕ)) (by_line : List (List (List Cell))) → AllZip IsRowLine lines by_line →
    AllByRecursion (λ line. (rows : List (List Cell)) × IsRowLine line rows) lines
all-rows [] by_line each = tt
all-rows (line ∷ lines) [] each = absurd each
all-rows (line ∷ lines) (rows ∷ by_line) each = ((rows, each.0), all-rows lines by_line each.1)

-- the rows of a board that was read
pub HasRows-read : {old new : Lines} {stretch : Stretch} → (is : ReadsBoard old new stretch) → HasRows stretch is.rows
HasRows-read {old} {new} {stretch} is =
    let n = is.count in let some = is.some in
    record {
      some = omega arith;
      lines = is.lines;
      after = cut_lines new.rest;
      whole = ap cut_lines is.from ∙ is.read.whole;
      count = sym is.count;
      rows_are = is.read.rows_are;
      size = is.read.size_is;
      past = is.past;
    }

-- after some lines
IsAt-on : {old new : Lines} (bytes : List ℕ) (lines : List (List ℕ)) → IsAt bytes old
    → cut_lines old.rest ≡ lines ++ cut_lines new.rest → new.number ≡ old.number + length lines → IsAt bytes new
IsAt-on {old} {new} bytes lines here whole number =
    let long = length-append here.before lines in let n = here.number in
    record {
      before = here.before ++ lines;
      whole = here.whole ∙ ap (λ l. here.before ++ l) whole
          ∙ sym (append_assoc here.before lines (cut_lines new.rest));
      number = omega arith;
    }

-- after the lines of a gap
pub IsAt-gap : {old new : Lines} {gap : Gap} (bytes : List ℕ) → IsAt bytes old → ReadsGap old new gap → IsAt bytes new
IsAt-gap bytes here is = IsAt-on bytes is.texts here is.read.whole is.read.number

-- a board more, and the gap after it
pub Takes-more : {bytes : List ℕ} {mid : Lines} {stretch : Stretch} {founds : List Found} (first last : Collection) (entry : BoardEntry) →
    HasRead bytes first founds →
    (board : ReadsBoard first.lines mid stretch) → ReadsGap mid last.lines last.before →
    ((before_lines after_lines : List (List ℕ)) → IsGap first.before before_lines → IsGap last.before after_lines →
    entry.name.items ≡ name_of before_lines after_lines) →
    entry.first_line ≡ stretch.first_line → IsJudged (board_of board.rows) entry.board →
    Takes bytes founds first (Some (entry, stretch, last))
Takes-more {bytes} {mid} {stretch} {founds} first last entry is board gap named line judged =
    let found : Found = record { name = name_of is.texts gap.texts; first_line = first.lines.number; board = board_of board.rows } in
    let part : Part = record { board = board.lines; gap = gap.texts } in
    let one = board.read.number in let two = gap.read.number in let both = length-append board.lines gap.texts in
    let number : last.lines.number ≡ first.lines.number + length (board.lines ++ gap.texts) = omega arith in (
      found,
      record { name = named is.texts gap.texts is.gap gap.read.told; first_line = line ∙ board.first_line; board = judged },
      record {
        texts = gap.texts;
        gap = gap.read.told;
        begins = gap.ends;
        onto = λ parts others c.
            let text = subst BeginsGap gap.read.whole board.ends in
            let whole : cut_lines first.lines.rest ≡ flat_map (λ p. p.board ++ p.gap) (part ∷ parts) =
            board.read.whole ∙ ap (λ l. board.lines ++ l) (gap.read.whole ∙ ap (λ l. gap.texts ++ l) c.whole) ∙
            sym (append_assoc board.lines gap.texts (flat_map (λ p. p.board ++ p.gap) parts)) in
            subst (λ fs. IsCollection bytes fs) (sym (append_assoc founds (found ∷ []) others))
            (is.onto (part ∷ parts) (found ∷ others) (record {
              whole = whole;
              boards = (
                record { some = board.some; board = all-rows board.lines board.read.rows_are.by_line board.read.rows_are.each; gap = gap.read.all },
                c.boards,
              );
              apart = apart-cons part parts (λ next more e. apart-some (cut_lines last.lines.rest) gap.texts parts text c.whole c.boards next more e) c.apart;
              found = (
                record { name = refl; first_line = refl; board = (board.read.rows_are.by_line, board.read.rows_are.each, ap board_of board.read.rows_are.all) },
                subst (λ k. AreFound k gap.texts parts others) number c.found,
              );
            }));
      },
      record {
        mid = mid;
        read = board;
        board = refl;
        first_line = refl;
        onward = λ b here.
            IsAt-gap b (IsAt-on b board.lines here board.read.whole board.read.number) gap;
      },
    )

-- reading from a copy of the lines reads from the lines
pub ReadsBoard-copy : {first mid : Lines} {stretch : Stretch} (lines : Lines) → lines.rest ≡ first.rest → lines.number ≡ first.number →
    ReadsBoard lines mid stretch → ReadsBoard first mid stretch
ReadsBoard-copy lines same count is = record {
  lines = is.lines;
  rows = is.rows;
  read = record {
    whole = sym (ap cut_lines same) ∙ is.read.whole;
    number = is.read.number ∙ ap (λ n. n + length is.lines) count;
    rows_are = is.read.rows_are;
    size_is = is.read.size_is;
  };
  some = is.some;
  first_line = is.first_line ∙ count;
  count = is.count;
  from = is.from ∙ same;
  past = is.past;
  ends = is.ends;
}

both-empty : (lines : List (List ℕ)) → BeginsBoard lines → BeginsGap lines → lines ≡ []
both-empty [] row text = refl
both-empty (line ∷ lines) row text = absurd (text row.0 row.1)

-- no board more: the collection is read
pub HasRead-all : {bytes : List ℕ} {lines last : Lines} {founds : List Found} (left : Collection) → HasRead bytes left founds → lines.rest ≡ left.lines.rest →
    ReadsNoBoard lines last → IsCollection bytes founds
HasRead-all {bytes} {lines} {last} {founds} left is same none =
    let empty = both-empty (cut_lines left.lines.rest) is.begins (subst (λ rest. BeginsGap (cut_lines rest)) same none.ends) in
    subst (λ fs. IsCollection bytes fs) (append-nil founds) (is.onto [] [] (record { whole = empty; boards = tt; apart = tt; found = tt }))

-- the entries so far are those of the boards so far
pub record HasEntries (bytes : List ℕ) (left : Collection) (entries : List Entry) : Type 0 where
  pub founds : List Found
  pub read : HasRead bytes left founds
  pub each : AllZip IsEntry entries founds

-- the entry of a board, with its level
entry_is : (board : BoardEntry) (entry : Entry) (found : Found) → entry ≡ record { name = board.name; first_line = board.first_line; board = board.board }
    → IsBoardEntry board found → IsEntry entry found
entry_is board entry found e is = subst (λ (x : Entry). IsEntry x found) (sym e) (record { name = is.name; first_line = is.first_line; board = is.board })

-- an entry more
pub HasEntries-more : {bytes : List ℕ} {first : Collection} {entries : List Entry} (last : Collection) (board : BoardEntry) (entry : Entry)
    (is : HasEntries bytes first entries) →
    GivesNext bytes is.founds last (Some board) → entry ≡ record { name = board.name; first_line = board.first_line; board = board.board } →
    HasEntries bytes last (entries ++ entry ∷ [])
HasEntries-more {bytes} {first} {entries} last board entry is next e =
    record {
      founds = is.founds ++ next.0 ∷ [];
      read = next.2;
      each = AllZip-last IsEntry entries is.founds entry next.0 is.each (entry_is board entry next.0 e next.1);
    }

length-cut : (rest : List (List ℕ)) → length (cut_lines rest) ≡ length rest
length-cut [] = refl
length-cut (raw ∷ rest) = ap suc (length-cut rest)

-- a board and a gap take lines away
pub reads-fewer : {first mid last : Lines} {after : Gap} {stretch : Stretch} → ReadsBoard first mid stretch → ReadsGap mid last after →
    length last.rest < length first.rest
reads-fewer {first} {mid} {last} {after} {stretch} board gap =
    let a = ap length board.read.whole in let b = ap length gap.read.whole in let some = board.some in
    let c = length-cut first.rest in let d = length-cut mid.rest in let e = length-cut last.rest in
    let f = length-append board.lines (cut_lines mid.rest) in let g = length-append gap.texts (cut_lines last.rest) in
    omega arith

-- Levels that are shown are read again.
use Rattle.std.proofs.Common.{◌≡◌, ℕ, zero, suc, ◌+◌, ◌/◌, ◌%◌, ◌<◌, ◌≤◌, nat_le, nat_lt, Bool, true, false, cond, ◌==◌}
use Rattle.std.proofs.Common.{◌||◌, ◌&&◌, List, [], ◌∷◌, ◌++◌, length, map, flat_map, Result, Ok, Err, refl, sym, ap}
use Rattle.std.proofs.Common.{◌∙◌, arith, rules, append_assoc, subst, ◌⊎◌, inl, inr, ⊎_elim}
use Rattle.std.specs.Prelude.{codes, decimal, is_ok}
use Rattle.std.specs.Fmt.{digit_glyph, digits, digits_onto}
use Rattle.std.specs.List.{AllZip, AllByRecursion, list_any}
use Rattle.std.proofs.lemmas.Bool.{false≢true, eqb-true, and_parts, cond_both, or_cases, or_parts}
use Rattle.std.proofs.lemmas.Bool.Decides.{nat_tests}
use Rattle.std.proofs.lemmas.List.{append-nil}
use Rattle.grid.specs.declared.cell.Cell.{Cell}
use Rattle.grid.specs.declared.cell.Cell.TheVariants.{Wall}
use Rattle.grid.specs.declared.fault.LevelFault.{LevelFault}
use Rattle.grid.specs.declared.fault.LevelFault.TheVariants as level
use Rattle.grid.specs.Board.{Board}
use Rattle.grid.specs.Lawful.{IsLevel}
use Rattle.judging.specs.Words.{fault_words}
use Rattle.xsb.specs.Boards.{board_of, cut_end, cut_row}
use Rattle.xsb.specs.Collection.{Found, IsJudged}
use Rattle.xsb.specs.Lines.{without_last}
use Rattle.xsb.specs.Names.{cut_start, is_blank, trimmed}
use Rattle.xsb.specs.Rows.{cell_byte}
use Rattle.xsb.specs.Written.{written}
use Rattle.xsb.specs.inside.Bytes.{cell_of, written_row}
use Rattle.xsb.proofs.lemmas.LevelsAgain.{AllWalls, AreLinesOf, BeginsOther, Has, IsAsRead, NoFeed, ReadsBack}
use Rattle.xsb.proofs.lemmas.LevelsAgain.{all-both, as-read, cell_of-cell_byte, cut_end-blank, kept-whole, lines-joined}
use Rattle.xsb.proofs.lemmas.LevelsAgain.{lines-of_rows, other-byte, reads-all, reads-level, reads-none, reads-text}
use Rattle.xsb.proofs.lemmas.LevelsAgain.{semicolon, without_last-end, written-rows}
use Rattle.sokopar.proofs.OneReport.{AreOneCollection, one_listing}
use Rattle.sokopar.specs.Listing.{Listed, IsListed, IsLevelListing}
use Rattle.sokopar.specs.Rereading.{IsSameLevel, ReadsAsShown, lawful_levels}
use Rattle.sokopar.specs.Report.{Report, judged_words, line, named, no_level}
use Rattle.sokopar.specs.Showing.{IsRangeReport, has_walls, shown_level, shown_levels, shown_rows}

-- ---- the rows

wall-byte : (c : Cell) → (cell_byte c == 35) ≡ true → c ≡ Wall
wall-byte c e = let same = sym (cell_of-cell_byte c) ∙ ap cell_of (eqb-true (cell_byte c) 35 e) in cc

walls-row : (wall : Bool) (cells : List Cell) (rest : List ℕ)
    → has_walls wall (map cell_byte cells ++ 10 ∷ rest) ≡ true
    → ((wall ≡ true) ⊎ Has Wall cells) × (has_walls false rest ≡ true)
walls-row wall [] rest e = let both = and_parts wall (has_walls false rest) e in (inl both.0, both.1)
walls-row wall (c ∷ cells) rest e =
    let later = walls-row (wall || (cell_byte c == 35)) cells rest (sym (ap (λ t. cond t
    (wall && has_walls false (map cell_byte cells ++ 10 ∷ rest))
    (has_walls (wall || (cell_byte c == 35)) (map cell_byte cells ++ 10 ∷ rest))) (other-byte 10 c refl)) ∙ e) in (
      ⊎_elim (λ t. ⊎_elim (λ w. inl w) (λ is. inr (inl (wall-byte c is))) (or_cases wall (cell_byte c == 35) t))
          (λ has. inr (inr has)) later.0,
      later.1,
    )

walls-rows : (rows : List (List Cell)) → has_walls false (flat_map written_row rows) ≡ true → AllWalls rows
walls-rows [] e = tt
walls-rows (row ∷ rows) e =
    let rest = flat_map written_row rows in
    let first = walls-row false (cut_row row) rest
    (sym (ap (has_walls false) (append_assoc (map cell_byte (cut_row row)) (10 ∷ []) rest)) ∙ e) in
    (⊎_elim (λ none. absurd (false≢true none)) (λ has. has) first.0, walls-rows rows first.1)

-- the rows of a board that was read are its lines
lines-shown : (name : List ℕ) (board : Board) → IsAsRead name board → AreLinesOf board (shown_rows board)
lines-shown name board is =
    let board = board_of is.rows in
    let same = ap (has_walls false) (written-rows is.rows is.wall) in
    subst (λ b. AreLinesOf b (shown_rows b)) (sym is.made)
    (cond_both (has_walls false (written board)) _ _ (AreLinesOf board)
    (λ e. lines-of_rows is.rows is.wall (walls-rows is.rows (sym same ∙ e))) (λ e. lines-joined is.rows is.wall))

-- ---- words without a line feed

none-of : (c : ℕ) (bytes : List ℕ) → list_any (λ b. b == c) bytes ≡ false → AllByRecursion (λ b. (b == c) ≡ false) bytes
none-of c [] e = tt
none-of c (b ∷ bytes) e =
    let both = or_parts (b == c) (list_any (λ b. b == c) bytes) e in (both.0, none-of c bytes both.1)

digit-other : (d : ℕ) → (digit_glyph false d == 10) ≡ false
digit-other d = grind (arith, nat_tests)

feed-digits : (k n : ℕ) (acc : List ℕ) → NoFeed acc → NoFeed (digits_onto k 10 false n acc)
feed-digits zero n acc none = none
feed-digits (suc k) n acc none =
    let more = digit_glyph false (n % 10) ∷ acc in
    cond_both ((n / 10) == 0) more (digits_onto k 10 false (n / 10) more) NoFeed (λ e. (digit-other (n % 10), none))
    (λ e. feed-digits k (n / 10) more (digit-other (n % 10), none))

feed-decimal : (n : ℕ) → NoFeed (decimal n)
unfolding digits
feed-decimal n = feed-digits 64 n [] tt

feed-both : (one two : List ℕ) → NoFeed one → NoFeed two → NoFeed (one ++ two)
feed-both one two = all-both _ one two

feed-named : (name : List ℕ) → NoFeed name → NoFeed (named name)
feed-named [] none = tt
feed-named (b ∷ bytes) none = (refl, none)

feed-fault : (fault : LevelFault) → NoFeed (fault_words fault)
feed-fault level.TooTall = none-of 10 (codes "fault 1 TooTall") refl
feed-fault level.TooWide = none-of 10 (codes "fault 2 TooWide") refl
feed-fault level.NoPlayer = none-of 10 (codes "fault 3 NoPlayer") refl
feed-fault level.TwoPlayers = none-of 10 (codes "fault 4 TwoPlayers") refl
feed-fault level.NoBox = none-of 10 (codes "fault 5 NoBox") refl
feed-fault (level.Counts boxes goals) = search (rules, feed-both, feed-decimal, feed-named)
feed-fault level.Open = none-of 10 (codes "fault 7 Open") refl
feed-fault level.OutOfMemory = none-of 10 (codes "fault 8 OutOfMemory") refl

-- ---- the line with the name

-- what comes after the semicolon
abbrev name_words : List ℕ → List ℕ
name_words name = named name ++ cond (list_any (λ b. b == 13) name) (codes " ") []

feed-words : (name : List ℕ) → NoFeed name → NoFeed (name_words name)
feed-words name none =
    feed-both (named name) (cond (list_any (λ b. b == 13) name) (codes " ") []) (feed-named name none)
    (cond_both (list_any (λ b. b == 13) name) (codes " ") [] NoFeed (λ e. (refl, tt)) (λ e. tt))

trimmed-blanks : (b : ℕ) (bytes blanks : List ℕ) → is_blank b ≡ false → cut_end is_blank (b ∷ bytes) ≡ b ∷ bytes
    → AllByRecursion (λ c. is_blank c ≡ true) blanks → trimmed (32 ∷ b ∷ bytes ++ blanks) ≡ b ∷ bytes
trimmed-blanks b bytes blanks start end all =
    ap (λ t. cut_end is_blank (cond t (cut_start is_blank (bytes ++ blanks)) (b ∷ bytes ++ blanks))) start
    ∙ cut_end-blank is_blank (b ∷ bytes) blanks all ∙ end

name-again : (name : List ℕ) → BeginsOther name → cut_end is_blank name ≡ name
    → trimmed (without_last 13 (name_words name)) ≡ name
name-again [] start end = refl
name-again (b ∷ bytes) start end =
    let is_again = λ (end : List ℕ). trimmed (without_last 13 (32 ∷ b ∷ bytes ++ end)) ≡ b ∷ bytes in
    cond_both (list_any (λ b. b == 13) (b ∷ bytes)) (codes " ") [] is_again
    (λ e. ap trimmed (without_last-end 13 (32 ∷ b ∷ bytes ++ 32 ∷ []) (32 ∷ b ∷ bytes) 32 refl)
    ∙ trimmed-blanks b bytes (32 ∷ []) start end (refl, tt))
    (λ e. let all = all-both _ (b ∷ bytes) [] (none-of 13 (b ∷ bytes) e) tt in
    ap trimmed (kept-whole 13 (32 ∷ b ∷ bytes ++ []) (refl, all))
    ∙ trimmed-blanks b bytes [] start end tt)

-- ---- the levels

-- a lawful level is found again
abbrev Same : Listed → List ℕ → Board → Type 0
Same listed name board = (name ≡ listed.name) × (listed.board ≡ Ok board) × IsLevel board

reads-one : (t : Bool) (n : ℕ) (listed : Listed) (found : Found) (rest : List ℕ) (kept : List Listed)
    → IsListed listed found → IsAsRead found.name found.board → ReadsBack Same rest kept
    → ReadsBack Same (cond t (shown_level listed.board n listed) [] ++ rest)
    (cond (t && is_ok listed.board) (listed ∷ []) [] ++ kept)
reads-one false n listed found rest kept is read reads = reads
reads-one true n listed found rest kept is read reads = by listed.board refl is.board
  where
    by : (j : Result Board LevelFault) → listed.board ≡ j → IsJudged found.board j
        → ReadsBack Same (shown_level j n listed ++ rest) (cond (is_ok j) (listed ∷ []) [] ++ kept)
    by (Ok board) e (same, lawful) =
        let known = subst (λ b. IsAsRead listed.name b) (sym same)
        (subst (λ name. IsAsRead name found.board) (sym is.name) read) in
        reads-level listed listed.name board (name_words listed.name) (shown_rows board)
        (feed-words listed.name known.feed) (name-again listed.name known.start known.end)
        (lines-shown listed.name board known) (refl, e, lawful) reads
    by (Err fault) e has =
        let place = decimal n ++ codes " line " ++ decimal listed.first_line ++ codes " " in
        let name = subst NoFeed (sym is.name) read.feed in
        reads-text 59 (32 ∷ place ++ judged_words listed.board ++ named listed.name) semicolon
        (let words = subst (λ j. NoFeed (judged_words j)) (sym e) (feed-fault fault) in
        search (rules, feed-both, feed-decimal, feed-named, name, words))
        reads

reads-levels : (from to n : ℕ) (listing : List Listed) (founds : List Found) → AllZip IsListed listing founds
    → AllByRecursion (λ found. IsAsRead found.name found.board) founds
    → ReadsBack Same (shown_levels from to n listing) (lawful_levels from to n listing)
reads-levels from to n [] [] zip read = reads-none Same
reads-levels from to n [] (found ∷ founds) zip read = absurd zip
reads-levels from to n (listed ∷ listing) [] zip read = absurd zip
reads-levels from to n (listed ∷ listing) (found ∷ founds) zip read =
    reads-one (nat_le from n && nat_le n to) n listed found (shown_levels from to (suc n) listing)
    (lawful_levels from to (suc n) listing) zip.0 read.0 (reads-levels from to (suc n) listing founds zip.1 read.1)

-- ---- the report

none-lawful : (from to n : ℕ) (listing : List Listed) → n + length listing ≤ from → lawful_levels from to n listing ≡ []
none-lawful from to n [] le = refl
none-lawful from to n (listed ∷ listing) le =
    let below : nat_le from n ≡ false = grind (arith, nat_tests) in
    let others = lawful_levels from to (suc n) listing in
    ap (λ t. cond ((t && nat_le n to) && is_ok listed.board) (listed ∷ []) [] ++ others) below
    ∙ none-lawful from to (suc n) listing (omega arith)

reads-no_level : (from : ℕ) → ReadsBack Same (line (codes "no level " ++ decimal from)) []
reads-no_level from =
    let words = codes "o level " ++ decimal from in
    subst (λ l. ReadsBack Same l []) (append-nil (110 ∷ words ++ 10 ∷ []))
    (reads-text 110 words (record { cell = refl; digit = refl; bar = refl; feed = refl; return = refl; mark = refl })
    (feed-both (codes "o level ") (decimal from) (none-of 10 (codes "o level ") refl) (feed-decimal from))
    (reads-none Same))

-- what is found is listed
list-again : (kept : List Listed) (founds : List Found) → AllZip (λ x found. Same x found.name found.board) kept founds
    → (again : List Listed) × AllZip IsListed again founds × AllZip IsSameLevel kept again
list-again [] [] zip = ([], tt, tt)
list-again [] (found ∷ founds) zip = absurd zip
list-again (listed ∷ kept) [] zip = absurd zip
list-again (listed ∷ kept) (found ∷ founds) zip =
    let rest = list-again kept founds zip.1 in (
      record { name = found.name; first_line = found.first_line; board = Ok found.board } ∷ rest.0,
      (record { name = refl; first_line = refl; board = (refl, zip.0.2) }, rest.1),
      ((zip.0.0, sym zip.0.1), rest.2),
    )

pub shown_again : AreOneCollection → (from to : ℕ) (bytes : List ℕ) (report : Report)
    → IsRangeReport from to bytes report → ReadsAsShown from to bytes report
shown_again one from to bytes report (listing, (founds, is, zip), e) =
    let kept = lawful_levels from to 1 listing in
    let few = nat_lt (length listing) from in
    let text = cond_both few _ _ (λ (r : Report). ReadsBack Same r.text kept)
    (λ is_few. let less : length listing < from = grind (arith, nat_tests) in
    let none = none-lawful from to 1 listing (omega arith) in
    subst (ReadsBack Same (no_level from).text) (sym none) (reads-no_level from))
    (λ enough. reads-levels from to 1 listing founds zip (as-read bytes founds is)) in
    let read = reads-all report.text kept (subst (λ (r : Report). ReadsBack Same r.text kept) (sym e) text) in
    let again = list-again kept read.0 read.2 in
    let reads : IsLevelListing report.text again.0 = (read.0, read.1, again.1) in
    record {
      listing = listing;
      is = (founds, is, zip);
      again = again.0;
      reads = reads;
      same = again.2;
      only = λ others also. one_listing one report.text again.0 others reads also;
    }

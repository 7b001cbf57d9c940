-- What the program writes, and its exit status.
use Rattle.std.specs.Prelude.{◌≡◌, ℕ, Bool, suc, ◌==◌, if◌then◌else◌, List, [], ◌∷◌, ◌++◌, length, count_by, is_ok}
use Rattle.std.specs.Prelude.{Result, Ok, Err, Option, Some, None, codes, decimal, ◌⊎◌}
use Rattle.grid.specs.Board.{Board}
use Rattle.grid.specs.Lawful.{row_count, box_count}
use Rattle.grid.specs.declared.fault.LevelFault.{LevelFault}
use Rattle.grid.specs.declared.fault.LevelFault.TheVariants as level
use Rattle.grid.specs.declared.moves.Letter.{Letter}
use Rattle.lurd.specs.Text.{IsText, HasTextFault}
use Rattle.lurd.specs.Verdict.{IsVerdict}
use Rattle.lurd.specs.declared.fault.LurdFault.{LurdFault}
use Rattle.lurd.specs.declared.fault.LurdFault.TheVariants as text
use Rattle.lurd.specs.declared.verdict.Verdict.{Verdict}
use Rattle.lurd.specs.declared.verdict.Verdict.TheVariants as verdict
use Rattle.xsb.specs.Written.{written}
pub use Rattle.judging.specs.Words.{counts_words, fault_words, line, text_fault_words, verdict_words}
use Rattle.sokopar.specs.Listing.{Listed, IsLevelAt, IsLevelListing}

-- what is written, byte by byte, and the exit status: 0 for good, 4 if a search passed its limit, 1 otherwise
pub record Report : Type 0 where
  pub text : List ℕ
  pub status : ℕ

-- the bytes after the first line
abbrev pub after_line : List ℕ → List ℕ
after_line [] = []
after_line (b ∷ bytes) = if b == 10 then bytes else after_line bytes

-- what is written of a report: with the flag all but its first line, of a search the solution alone
abbrev pub written_of : Bool → Report → List ℕ
written_of lurd report = if lurd then after_line report.text else report.text

-- a report of one line
abbrev pub one_line : List ℕ → ℕ → Report
one_line words status = record { text = line words; status = status }

-- how a judged board is reported: a lawful level by its rows, columns and boxes
abbrev pub judged_words : Result Board LevelFault → List ℕ
judged_words (Ok board) =
    codes "ok " ++ decimal (row_count board) ++ codes "x" ++ decimal board.cols ++ codes " " ++ decimal
    (box_count board) ++ codes " boxes"
judged_words (Err fault) = fault_words fault

-- a name after one space; nothing for the empty name
abbrev pub named : List ℕ → List ℕ
named [] = []
named (b ∷ bs) = codes " " ++ (b ∷ bs)

-- the line of level n
abbrev pub check_line : ℕ → Listed → List ℕ
check_line n listed =
    line (decimal n ++ codes " line " ++ decimal listed.first_line ++ codes " " ++ judged_words listed.board ++ named
    listed.name)

-- the lines of levels, numbered from n
abbrev pub check_lines : ℕ → List Listed → List ℕ
check_lines n [] = []
check_lines n (listed ∷ listing) = check_line n listed ++ check_lines (suc n) listing

-- the number of lawful levels
abbrev pub good_count : List Listed → ℕ
good_count listing = count_by (λ listed. is_ok listed.board) listing

-- the report of checking a collection: a line for each level, and then their number and that of the lawful ones; good
-- if all are
abbrev pub check_report : List Listed → Report
check_report listing = record {
  text = check_lines 1 listing ++ line
      (decimal (length listing) ++ codes " levels, " ++ decimal (good_count listing) ++ codes " good");
  status = if good_count listing == length listing then 0 else 1;
}

-- the report where the collection has fewer than n levels
abbrev pub no_level : ℕ → Report
no_level n = one_line (codes "no level " ++ decimal n) 1

-- the report where the level has a fault
abbrev pub fault_report : LevelFault → Report
fault_report fault = one_line (fault_words fault) 1

-- the report on a level with number n: that there is none, the fault of its board, or the report that the level has
abbrev pub ReportsOn : (Board → Report → Type 0) → ℕ → Option (Result Board LevelFault) → Report → Type 0
ReportsOn Has n None report = report ≡ no_level n
ReportsOn Has n (Some (Err fault)) report = report ≡ fault_report fault
ReportsOn Has n (Some (Ok board)) report = Has board report

-- the report on level n of these bytes
abbrev pub IsReportOn : (Board → Report → Type 0) → ℕ → List ℕ → Report → Type 0
IsReportOn Has n bytes report =
    (level : Option (Result Board LevelFault)) × IsLevelAt bytes n level × ReportsOn Has n level report

-- the report of showing a level: its rows
abbrev pub IsShown : Board → Report → Type 0
IsShown board report = report ≡ record { text = written board; status = 0 }

-- the exit status of a verdict
abbrev pub verdict_status : Verdict → ℕ
verdict_status (verdict.Solved pushes moves) = 0
verdict_status other = 1

-- the report of a verdict on a solution
abbrev pub verdict_report : Verdict → Report
verdict_report judged = one_line (verdict_words judged) (verdict_status judged)

-- the report where the text of a solution has a fault
abbrev pub text_fault_report : LurdFault → Report
text_fault_report fault = one_line (text_fault_words fault) 1

-- the report of replaying a text on a lawful level: the verdict on its letters, or the first fault of the text
abbrev pub IsReplayOf : Board → List ℕ → Report → Type 0
IsReplayOf board solution report =
    ((letters : List Letter) × (v : Verdict) × IsText solution letters × IsVerdict board letters v ×
    (report ≡ verdict_report v)) ⊎
    ((fault : LurdFault) × HasTextFault solution fault × (report ≡ text_fault_report fault))

-- the report on a level with number n and a solution, which is read exactly where the level is lawful
abbrev pub ReportsOnText : (Board → List ℕ → Report → Type 0) → ℕ → Option (Result Board LevelFault) → Option (List ℕ)
    → Report → Type 0
ReportsOnText Has n None solution report = (solution ≡ None) × (report ≡ no_level n)
ReportsOnText Has n (Some (Err fault)) solution report = (solution ≡ None) × (report ≡ fault_report fault)
ReportsOnText Has n (Some (Ok board)) solution report = (read : List ℕ) × (solution ≡ Some read) × Has board read report

-- the report where a level has more boxes than a search takes
abbrev pub too_many_boxes : Report
too_many_boxes = one_line (codes "too many boxes") 1

-- the report of checking these bytes
abbrev pub IsCheckReport : List ℕ → Report → Type 0
IsCheckReport bytes report = (listing : List Listed) × IsLevelListing bytes listing × (report ≡ check_report listing)

-- the report of showing level n of these bytes
abbrev pub IsShowReport : ℕ → List ℕ → Report → Type 0
IsShowReport n bytes report = IsReportOn IsShown n bytes report

-- the report of replaying on level n of these bytes a solution, if one was read
abbrev pub IsReplayReport : ℕ → List ℕ → Option (List ℕ) → Report → Type 0
IsReplayReport n bytes solution report =
    (level : Option (Result Board LevelFault)) × IsLevelAt bytes n level ×
    ReportsOnText IsReplayOf n level solution report

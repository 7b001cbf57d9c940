-- What `best` and `prove` write of one level.
use Rattle.std.specs.Prelude.{◌≡◌, ℕ, ⊤, Bool, List, [], ◌++◌, Option, Some, None, Result}
use Rattle.grid.specs.Board.{Board}
use Rattle.grid.specs.declared.fault.LevelFault.{LevelFault}
use Rattle.judging.specs.Kinds.{kind_of, kind_status}
use Rattle.judging.specs.Table.{letters_line}
use Rattle.judging.specs.Words.{judgement_words, line}
use Rattle.judging.specs.declared.judgement.Judgement.{Judgement}
use Rattle.judging.specs.declared.judgement.Judgement.TheVariants as is
use Rattle.judging.specs.declared.judgement.Settings.{Settings}
use Rattle.sokopar.specs.Judging.{IsJudgedOn}
use Rattle.sokopar.specs.Listing.{IsLevelAt}
use Rattle.sokopar.specs.Report.{Report, no_level}

-- the report of a judgement: its words and, as a second line, the solution that was found
abbrev pub level_report : Settings → Judgement → Report
level_report set judgement = record {
  text = line (judgement_words set judgement) ++ letters_line judgement;
  status = kind_status (kind_of judgement);
}

-- memory did not run out
abbrev pub IsWhole : Judgement → Type 0
IsWhole (is.OutOfMemory given bound) = ⊥
IsWhole judgement = ⊤

-- the report on a level with number n and the text of a given solution: that there is no such level, or that of a right
-- judgement
abbrev pub ReportsJudged : Bool → Settings → ℕ → Option (Result Board LevelFault) → Option (List ℕ) → Report → Type 0
ReportsJudged given set n None text report = (text ≡ None) × (report ≡ no_level n)
ReportsJudged given set n (Some board) text report =
    (judgement : Judgement) × IsJudgedOn given set board text judgement × IsWhole judgement ×
    (report ≡ level_report set judgement)

-- the report of `best` or, with a given solution, of `prove` on level n of these bytes
abbrev pub IsLevelReport : Bool → Settings → ℕ → List ℕ → Option (List ℕ) → Report → Type 0
IsLevelReport given set n bytes text report =
    (level : Option (Result Board LevelFault)) × IsLevelAt bytes n level × ReportsJudged given set n level text report

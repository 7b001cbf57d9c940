-- What solving a level writes.
use Rattle.std.specs.Prelude.{◌≡◌, ◌<◌, ◌≤◌, ◌⊎◌, ℕ, List, ◌++◌, length, Option, codes, decimal}
use Rattle.grid.specs.Board.{Board}
use Rattle.grid.specs.Lawful.{box_count}
use Rattle.grid.specs.declared.limits.TheConstants.{MAX_BOXES}
use Rattle.lurd.specs.Text.{bytes_of}
use Rattle.solo.specs.Answers.{IsAnswer}
use Rattle.solo.specs.declared.answer.Answer.{Answer}
use Rattle.solo.specs.declared.answer.Answer.TheVariants.{Solved, Unsolvable, NoneWithin, Limit}
use Rattle.judging.specs.Words.{none_words}
use Rattle.sokopar.specs.Report.{Report, IsReportOn, line, one_line, too_many_boxes, counts_words}

-- a number of positions
abbrev pub positions_words : ℕ → List ℕ
positions_words positions = codes ", " ++ decimal positions ++ codes " positions"

-- the report of an answer under a cap of pushes and a limit of positions; good where the level is solved
abbrev pub answer_report : Option ℕ → ℕ → Answer → Report
answer_report cap limit (Solved moves pushes positions) = record {
  text = line (codes "solved " ++ counts_words pushes (length moves) ++ positions_words positions) ++ line
      (bytes_of moves);
  status = 0;
}
answer_report cap limit (Unsolvable positions) = one_line (codes "unsolvable" ++ positions_words positions) 1
answer_report cap limit (NoneWithin positions) =
    one_line (none_words cap ++ positions_words positions) 1
answer_report cap limit Limit = one_line (codes "limit " ++ decimal limit ++ codes " reached") 4

-- the report of solving a lawful level under a cap of pushes and a limit of positions: that its boxes are too many, or
-- that of an answer
abbrev pub IsSolveOf : Option ℕ → ℕ → Board → Report → Type 0
IsSolveOf cap limit board report =
    ((MAX_BOXES < box_count board) × (report ≡ too_many_boxes)) ⊎
    ((box_count board ≤ MAX_BOXES) ×
    ((answer : Answer) × IsAnswer (record { board = board; cap = cap }) limit answer ×
    (report ≡ answer_report cap limit answer)))

-- the report of solving level n of these bytes under a cap of pushes and a limit of positions
abbrev pub IsSolveReport : Option ℕ → ℕ → ℕ → List ℕ → Report → Type 0
IsSolveReport cap limit n bytes report = IsReportOn (IsSolveOf cap limit) n bytes report

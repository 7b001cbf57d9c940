-- How a written solution is reported when it is replayed.
use Rattle.std.specs.Prelude.{◌≡◌, ℕ, ◌≤◌, List, ◌++◌, length, codes, Some}
use Rattle.grid.specs.declared.moves.Letter.{Letter}
use Rattle.lurd.specs.Text.{IsText, bytes_of}
use Rattle.lurd.specs.declared.limits.TheConstants.{MAX_MOVES}
use Rattle.lurd.specs.declared.verdict.Verdict.TheVariants as verdict
use Rattle.sokopar.specs.Report.{Report, IsReplayReport, counts_words, line, verdict_report}
use Rattle.sokopar.specs.Solving.{positions_words}

-- the report of a solution: its numbers of pushes and moves with the number of positions, and its text as a line
abbrev pub solved_text : ℕ → ℕ → ℕ → List ℕ → List ℕ
solved_text pushes moves positions solution =
    line (codes "solved " ++ counts_words pushes moves ++ positions_words positions) ++ line solution

-- the report tells a solution of level n of these bytes, and its last line goes into a replay on that level: where the
-- solution has no more moves than a text may have, the line is a text of its moves, and the one report of replaying it
-- is that it solves the level, with the same numbers of pushes and of moves
pub record ReplaysAsTold (n : ℕ) (bytes : List ℕ) (report : Report) : Type 0 where
  pub moves : List Letter
  pub pushes : ℕ
  pub positions : ℕ
  pub told : report.text ≡ solved_text pushes (length moves) positions (bytes_of moves)
  pub parses : length moves ≤ MAX_MOVES → IsText (line (bytes_of moves)) moves
  pub replays : length moves ≤ MAX_MOVES
      → IsReplayReport n bytes (Some (line (bytes_of moves))) (verdict_report (verdict.Solved pushes (length moves)))
  pub only : length moves ≤ MAX_MOVES → (replay : Report) → IsReplayReport n bytes (Some (line (bytes_of moves))) replay
      → replay ≡ verdict_report (verdict.Solved pushes (length moves))

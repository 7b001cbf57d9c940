-- A solution that was printed for a level of a file goes into a replay on that level of the same file.
use Rattle.std.proofs.Common.{◌≡◌, ℕ, ◌≤◌, List, length, refl, sym, ap, ◌∙◌, arith, inl, inr, Result, Ok, Err, Option, Some, None}
use Rattle.grid.specs.declared.fault.LevelFault.{LevelFault}
use Rattle.grid.specs.declared.moves.Letter.{Letter}
use Rattle.grid.specs.Board.{Board}
use Rattle.lurd.specs.Text.{IsText, bytes_of}
use Rattle.lurd.specs.declared.limits.TheConstants.{MAX_MOVES}
use Rattle.lurd.specs.declared.verdict.Verdict.TheVariants as verdict
use Rattle.solo.specs.declared.answer.Answer.{Answer}
use Rattle.solo.specs.declared.answer.Answer.TheVariants as answer
use Rattle.successors.specs.Capping.{capped}
use Rattle.solo.specs.Answers.{IsAnswer}
use Rattle.sokopar.specs.Listing.{IsLevelAt}
use Rattle.sokopar.specs.Report.{Report, IsReplayReport, ReportsOn, line, verdict_report}
use Rattle.sokopar.specs.Solving.{IsSolveOf, IsSolveReport, answer_report}
use Rattle.sokopar.specs.Retelling.{ReplaysAsTold}
use Rattle.sokopar.proofs.OneReport.{AreOneCollection, IsOneReading, IsOneVerdict, one_replay_report}
use Rattle.sokopar.proofs.Solutions.{solution_replays, text_line}

-- the laws of texts, verdicts and collections
pub record Laws : Type 0 where
  pub written : (letters : List Letter) → length letters ≤ MAX_MOVES → IsText (bytes_of letters) letters
  pub reading : IsOneReading
  pub judging : IsOneVerdict
  pub one : AreOneCollection

-- a solution that is told replays as told
told_replays : Laws → (cap : Option ℕ) (limit n : ℕ) (bytes : List ℕ) (board : Board) → IsLevelAt bytes n (Some (Ok board)) → (report : Report) (given : Answer) →
    IsAnswer (capped board cap) limit given
    → report ≡ answer_report cap limit given → report.status ≡ 0 → ReplaysAsTold n bytes report
told_replays laws cap limit n bytes board has report (answer.Solved moves pushes positions) is told good =
    let text = line (bytes_of moves) in
    let solved = verdict.Solved pushes (length moves) in
    let judged = solution_replays board cap limit moves pushes positions is in
    let reads : length moves ≤ MAX_MOVES → IsText text moves = λ few. text_line (bytes_of moves) moves (laws.written moves few) in
    let replays : length moves ≤ MAX_MOVES → IsReplayReport n bytes (Some text) (verdict_report solved) =
    λ few. (Some (Ok board), has, (text, refl, inl (moves, solved, reads few, judged, refl))) in
    record {
      moves = moves;
      pushes = pushes;
      positions = positions;
      told = ap (λ (r : Report). r.text) told;
      parses = reads;
      replays = replays;
      only = λ few replay said. one_replay_report laws.one laws.reading laws.judging n bytes (Some text) (verdict_report solved) replay (replays few) said;
    }
told_replays laws cap limit n bytes board has report (answer.Unsolvable positions) is told good =
    let bad : 1 ≡ 0 = sym (ap (λ (r : Report). r.status) told) ∙ good in absurd (omega (arith, bad))
told_replays laws cap limit n bytes board has report (answer.NoneWithin positions) is told good =
    let bad : 1 ≡ 0 = sym (ap (λ (r : Report). r.status) told) ∙ good in absurd (omega (arith, bad))
told_replays laws cap limit n bytes board has report answer.Limit is told good =
    let bad : 4 ≡ 0 = sym (ap (λ (r : Report). r.status) told) ∙ good in absurd (omega (arith, bad))

at_level : Laws → (cap : Option ℕ) (limit n : ℕ) (bytes : List ℕ) (report : Report) (level : Option (Result Board LevelFault)) →
    IsLevelAt bytes n level → ReportsOn (IsSolveOf cap limit) n level report → report.status ≡ 0 → ReplaysAsTold n bytes report
at_level laws cap limit n bytes report None has told good =
    let bad : 1 ≡ 0 = sym (ap (λ (r : Report). r.status) told) ∙ good in absurd (omega (arith, bad))
at_level laws cap limit n bytes report (Some (Err fault)) has told good =
    let bad : 1 ≡ 0 = sym (ap (λ (r : Report). r.status) told) ∙ good in absurd (omega (arith, bad))
at_level laws cap limit n bytes report (Some (Ok board)) has (inl (many, told)) good =
    let bad : 1 ≡ 0 = sym (ap (λ (r : Report). r.status) told) ∙ good in absurd (omega (arith, bad))
at_level laws cap limit n bytes report (Some (Ok board)) has (inr (few, (given, answers, told))) good =
    told_replays laws cap limit n bytes board has report given answers told good

pub printed_solution_replays : Laws → (cap : Option ℕ) (limit n : ℕ) (bytes : List ℕ) (report : Report) → IsSolveReport cap limit n bytes report →
    report.status ≡ 0 → ReplaysAsTold n bytes report
printed_solution_replays laws cap limit n bytes report (level, has, solves) good = at_level laws cap limit n bytes report level has solves good

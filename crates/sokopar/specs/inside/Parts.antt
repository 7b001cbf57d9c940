-- The parts of reports that functions of their own write.
use Rattle.std.specs.Prelude.{◌≡◌, ℕ, Bool, List, ◌++◌, length, Option, Some, None, Result, Ok, Err, is_ok, codes, decimal}
use Rattle.grid.specs.Board.{Board}
use Rattle.grid.specs.declared.moves.Letter.{Letter}
use Rattle.judging.specs.declared.judgement.Counts.{Counts}
use Rattle.judging.specs.declared.judgement.Judgement.{Judgement}
use Rattle.judging.specs.declared.judgement.Judgement.TheVariants as is
use Rattle.judging.specs.declared.judgement.Known.{Known}
use Rattle.judging.specs.declared.judgement.LimitKind.{LimitKind}
use Rattle.judging.specs.declared.judgement.MovesClaim.{MovesClaim}
use Rattle.judging.specs.declared.judgement.Settings.{Settings}
use Rattle.judging.specs.Words.{counts_words, none_words}
use Rattle.prices.specs.Fewest.{NoneHasFewer}
use Rattle.prices.specs.declared.fault.SearchFault.{SearchFault}
use Rattle.prices.specs.declared.fault.SearchFault.TheVariants.{TooManyBoxes, OutOfMemory}
use Rattle.solo.specs.declared.answer.Answer.{Answer}
use Rattle.solo.specs.declared.answer.Answer.TheVariants.{Solved, Unsolvable, NoneWithin, Limit}
use Rattle.sokopar.specs.Judging.{IsKnown}
use Rattle.sokopar.specs.Listing.{IsLevelAt, Listed}
use Rattle.sokopar.specs.Report.{Report, IsReportOn}
use Rattle.sokopar.specs.Solving.{positions_words}

-- the board is a lawful level
abbrev pub is_good : Listed → Bool
is_good listed = is_ok listed.board

-- level n of these bytes if it is lawful, else the report that there is none, or of its fault
abbrev pub HasChosen : List ℕ → ℕ → Result Board Report → Type 0
HasChosen bytes n (Ok board) = IsLevelAt bytes n (Some (Ok board))
HasChosen bytes n (Err report) = IsReportOn (λ board told. ⊥) n bytes report

-- what is known of a solution that was found, and of a given one
abbrev pub found_known : Option Counts → List Letter → ℕ → ℕ → MovesClaim → LimitKind → Known
found_known given letters pushes bound claim limit = record {
  given = given;
  found = Some (record { letters = letters; counts = record { pushes = pushes; moves = length letters } });
  at_least = bound;
  claim = claim;
  limit = limit;
}

abbrev pub given_known : Option Counts → ℕ → MovesClaim → LimitKind → Known
given_known given bound claim limit =
    record { given = given; found = None; at_least = bound; claim = claim; limit = limit }

-- the judgement if a search failed
abbrev pub failed : Option Counts → SearchFault → Judgement
failed given TooManyBoxes = is.TooManyBoxes given
failed given (OutOfMemory bound) = is.OutOfMemory given (Some bound)

-- what is known beside a given solution is right
abbrev pub IsBeside : Settings → Board → Option Counts → Known → Type 0
IsBeside set board given known = (known.given ≡ given) × IsKnown set board known

-- and so is its judgement
abbrev pub IsCompared : Settings → Board → Option Counts → Judgement → Type 0
IsCompared set board given (is.Searched known) = IsBeside set board given known
IsCompared set board given (is.OutOfMemory held (Some bound)) = (held ≡ given) × NoneHasFewer board bound
IsCompared set board given judgement = ⊥

-- an answer of `solve` in words
abbrev pub answer_words : Option ℕ → ℕ → Answer → List ℕ
answer_words cap limit (Solved moves pushes positions) =
    codes "solved " ++ counts_words pushes (length moves) ++ positions_words positions
answer_words cap limit (Unsolvable positions) = codes "unsolvable" ++ positions_words positions
answer_words cap limit (NoneWithin positions) = none_words cap ++ positions_words positions
answer_words cap limit Limit = codes "limit " ++ decimal limit ++ codes " reached"

-- When a judgement of a level is right.
use Rattle.std.specs.Prelude.{◌≡◌, ℕ, suc, ◌<◌, ◌≤◌, ◌⊎◌, ⊤, Bool, true, false, List}
use Rattle.std.specs.Prelude.{Option, Some, None, Result, Ok, Err, IfSome, IsSome, MatchOption}
use Rattle.grid.specs.Board.{Board}
use Rattle.grid.specs.Lawful.{box_count}
use Rattle.grid.specs.Plays.{IsSolution}
use Rattle.grid.specs.declared.dir.Dir.{Dir}
use Rattle.grid.specs.declared.fault.LevelFault.{LevelFault}
use Rattle.grid.specs.declared.limits.TheConstants.{MAX_BOXES}
use Rattle.grid.specs.declared.moves.Letter.{Letter}
use Rattle.grid.specs.declared.square.Push.{Push}
use Rattle.lurd.specs.Text.{HasTextFault, IsText}
use Rattle.lurd.specs.Verdict.{IsVerdict}
use Rattle.lurd.specs.declared.fault.LurdFault.{LurdFault}
use Rattle.lurd.specs.declared.verdict.Verdict.{Verdict}
use Rattle.lurd.specs.declared.verdict.Verdict.TheVariants.{Solved}
use Rattle.judging.specs.Kinds.{at_hand}
use Rattle.judging.specs.declared.judgement.Counts.{Counts}
use Rattle.judging.specs.declared.judgement.Judgement.{Judgement}
use Rattle.judging.specs.declared.judgement.Judgement.TheVariants as is
use Rattle.judging.specs.declared.judgement.Known.{Known}
use Rattle.judging.specs.declared.judgement.LimitKind.{LimitKind}
use Rattle.judging.specs.declared.judgement.LimitKind.TheVariants.{Positions, Seconds}
use Rattle.judging.specs.declared.judgement.MovesClaim.{MovesClaim}
use Rattle.judging.specs.declared.judgement.MovesClaim.TheVariants.{Counted, Fewest, Open}
use Rattle.judging.specs.declared.judgement.Settings.{Settings}
use Rattle.judging.specs.declared.judgement.Solution.{Solution}
use Rattle.prices.specs.Fewest.{NoneHasFewer}
use Rattle.prover.specs.Reachable.{HasMore}
use Rattle.shortest.specs.Shortest.{HasMoreStates, NoneIsBetter}

-- no play solves the level
abbrev pub IsUnsolvable : Board → Type 0
IsUnsolvable board = (ds : List Dir) (ps : List Push) → ¬ (IsSolution board ds ps)

-- a number of pushes is no more than the cap, if one is set
abbrev pub IsWithinCap : Option ℕ → ℕ → Type 0
IsWithinCap cap pushes = IfSome cap (λ most. pushes ≤ most)

-- a solution is better than the given one: it has fewer pushes; or as many and, if the fewest moves are wanted, fewer
-- moves
abbrev pub IsBetter : Settings → Counts → Counts → Type 0
IsBetter set s given =
    (s.pushes < given.pushes) ⊎ ((set.moves ≡ true) × (s.pushes ≡ given.pushes) × (s.moves < given.moves))

-- a search ended at this limit: there is more than the limit of positions, as `More` says; or a limit of seconds is set
abbrev pub HasReached : Settings → LimitKind → Type 0 → Type 0
HasReached set Positions More = More
HasReached set Seconds More = IsSome set.seconds

-- the claim on the moves of a solution with the fewest pushes is right: they are only counted if the fewest are not
-- wanted; if they are, no solution with as few pushes has fewer, or the search ended at a limit, that of positions only
-- if plays with no more pushes reach more states
abbrev pub IsClaim : Settings → Board → LimitKind → Counts → MovesClaim → Type 0
IsClaim set board limit s Counted = set.moves ≡ false
IsClaim set board limit s Fewest = (set.moves ≡ true) × NoneIsBetter board s.pushes s.moves
IsClaim set board limit s Open = (set.moves ≡ true) × HasReached set limit (HasMoreStates board s.pushes set.limit)

-- the search for the fewest pushes ended at a limit, with a bound that the cap allows; at that of positions only if plays
-- reach more positions
abbrev pub IsOpen : Settings → Board → LimitKind → ℕ → Type 0
IsOpen set board limit bound = HasReached set limit (HasMore board set.limit) × IsWithinCap set.cap bound

-- the solution at hand has the fewest pushes, with a right claim on its moves; or it has more than the bound, and the
-- search ended at its limit
abbrev pub IsEnd : Settings → Board → Known → Counts → Type 0
IsEnd set board known s =
    ((s.pushes ≡ known.at_least) × IsClaim set board known.limit s known.claim) ⊎
    ((known.at_least < s.pushes) × IsOpen set board known.limit known.at_least)

-- the letters solve the level with these numbers, within the cap
abbrev pub IsFound : Settings → Board → Solution → Type 0
IsFound set board s =
    IsVerdict board s.letters (Solved s.counts.pushes s.counts.moves) × IsWithinCap set.cap s.counts.pushes

-- what is known is right: the solution that was found solves the level and is better than the given one, no solution has
-- fewer pushes than the bound, and the searches went on to their ends
pub record IsKnown (set : Settings) (board : Board) (known : Known) : Type 0 where
  pub found : IfSome known.found (λ s. IsFound set board s × IfSome known.given (IsBetter set s.counts))
  pub bound : NoneHasFewer board known.at_least
  pub end : MatchOption (at_hand known.given known.found) (IsOpen set board known.limit known.at_least) (IsEnd set board known)

-- the given letters solve the level with these numbers; there are no numbers without letters
abbrev pub IsGiven : Board → Option (List Letter) → Option Counts → Type 0
IsGiven board None None = ⊤
IsGiven board (Some letters) (Some s) = IsVerdict board letters (Solved s.pushes s.moves)
IsGiven board letters given = ⊥

-- a verdict says that letters do not solve the level
abbrev pub IsFailure : Verdict → Type 0
IsFailure (Solved pushes moves) = ⊥
IsFailure verdict = ⊤

-- the judgement of a lawful level, and of letters if some are given, is right
abbrev pub IsJudged : Settings → Board → Option (List Letter) → Judgement → Type 0
IsJudged set board letters (is.Searched known) =
    (box_count board ≤ MAX_BOXES) × IsGiven board letters known.given × IsKnown set board known
IsJudged set board None is.NoneWithin =
    (box_count board ≤ MAX_BOXES) × ((most : ℕ) × (set.cap ≡ Some most) × NoneHasFewer board (suc most))
IsJudged set board None is.Unsolvable = (box_count board ≤ MAX_BOXES) × (set.cap ≡ None) × IsUnsolvable board
IsJudged set board letters (is.TooManyBoxes given) = (MAX_BOXES < box_count board) × IsGiven board letters given
IsJudged set board letters (is.OutOfMemory given (Some bound)) = IsGiven board letters given × NoneHasFewer board bound
IsJudged set board (Some letters) (is.Replayed verdict) = IsVerdict board letters verdict × IsFailure verdict
IsJudged set board letters judgement = ⊥

-- the judgement of given letters is right: they are proved, or else only replayed
abbrev pub IsJudgedGiven : Bool → Settings → Board → List Letter → Judgement → Type 0
IsJudgedGiven true set board letters judgement = IsJudged set board (Some letters) judgement
IsJudgedGiven false set board letters (is.Replayed verdict) = IsVerdict board letters verdict
IsJudgedGiven false set board letters judgement = ⊥

-- the judgement of the text of a solution is right: that of its letters, or its first fault
abbrev pub IsJudgedText : Bool → Settings → Board → List ℕ → Judgement → Type 0
IsJudgedText proves set board text judgement =
    ((letters : List Letter) × IsText text letters × IsJudgedGiven proves set board letters judgement) ⊎
    ((fault : LurdFault) × HasTextFault text fault × (judgement ≡ is.BadText fault))

-- settings without a cap
abbrev pub uncapped : Settings → Settings
uncapped set = record { cap = None; limit = set.limit; moves = set.moves; seconds = set.seconds }

-- the judgement of a board and its given solution is right; the solution is read only if the board is lawful, and there
-- is no cap
abbrev pub IsJudgedWith : Bool → Settings → Result Board LevelFault → Option (List ℕ) → Judgement → Type 0
IsJudgedWith proves set (Ok board) text judgement =
    (read : List ℕ) × (text ≡ Some read) × IsJudgedText proves (uncapped set) board read judgement
IsJudgedWith proves set (Err fault) text judgement = (text ≡ None) × (judgement ≡ is.Faulty fault)

-- the judgement of a board is right, without or with a given solution, which is proved
abbrev pub IsJudgedOn : Bool → Settings → Result Board LevelFault → Option (List ℕ) → Judgement → Type 0
IsJudgedOn false set (Ok board) text judgement = (text ≡ None) × IsJudged set board None judgement
IsJudgedOn false set (Err fault) text judgement = (text ≡ None) × (judgement ≡ is.Faulty fault)
IsJudgedOn true set board text judgement = IsJudgedWith true set board text judgement

-- The words of reports on a level.
use Rattle.std.specs.Prelude.{ℕ, ◌==◌, Bool, true, false, cond, List, [], ◌∷◌, ◌++◌, Option, Some, None, codes, decimal}
use Rattle.std.specs.Prelude.{unwrap_or}
use Rattle.grid.specs.declared.fault.LevelFault.{LevelFault}
use Rattle.grid.specs.declared.fault.LevelFault.TheVariants as level
use Rattle.lurd.specs.declared.fault.LurdFault.{LurdFault}
use Rattle.lurd.specs.declared.fault.LurdFault.TheVariants as text
use Rattle.lurd.specs.declared.verdict.Verdict.{Verdict}
use Rattle.lurd.specs.declared.verdict.Verdict.TheVariants as verdict
use Rattle.judging.specs.declared.judgement.Counts.{Counts}
use Rattle.judging.specs.declared.judgement.Judgement.{Judgement}
use Rattle.judging.specs.declared.judgement.Judgement.TheVariants as is
use Rattle.judging.specs.declared.judgement.Known.{Known}
use Rattle.judging.specs.declared.judgement.LimitKind.{LimitKind}
use Rattle.judging.specs.declared.judgement.LimitKind.TheVariants.{Positions, Seconds}
use Rattle.judging.specs.declared.judgement.MovesClaim.{MovesClaim}
use Rattle.judging.specs.declared.judgement.MovesClaim.TheVariants.{Counted, Fewest, Open}
use Rattle.judging.specs.declared.judgement.Settings.{Settings}
use Rattle.judging.specs.declared.judgement.Solution.{Solution}

-- a line ends with a line feed
abbrev pub line : List ℕ → List ℕ
line words = words ++ 10 ∷ []

-- a fault of a level: its number and its name, and the numbers of boxes and goals if they differ
abbrev pub fault_words : LevelFault → List ℕ
fault_words level.TooTall = codes "fault 1 TooTall"
fault_words level.TooWide = codes "fault 2 TooWide"
fault_words level.NoPlayer = codes "fault 3 NoPlayer"
fault_words level.TwoPlayers = codes "fault 4 TwoPlayers"
fault_words level.NoBox = codes "fault 5 NoBox"
fault_words (level.Counts boxes goals) = codes "fault 6 Counts " ++ decimal boxes ++ codes " " ++ decimal goals
fault_words level.Open = codes "fault 7 Open"
fault_words level.OutOfMemory = codes "fault 8 OutOfMemory"

-- a fault in the text of a solution
abbrev pub text_fault_words : LurdFault → List ℕ
text_fault_words (text.BadByte at) = codes "bad byte at " ++ decimal at
text_fault_words (text.BadCount at) = codes "bad count at " ++ decimal at
text_fault_words text.TooManyMoves = codes "too many moves"
text_fault_words text.OutOfMemory = codes "out of memory"

-- the numbers of pushes and of moves
abbrev pub counts_words : ℕ → ℕ → List ℕ
counts_words pushes moves = decimal pushes ++ codes " pushes, " ++ decimal moves ++ codes " moves"

-- a verdict on a solution
abbrev pub verdict_words : Verdict → List ℕ
verdict_words (verdict.Solved pushes moves) = codes "solved " ++ counts_words pushes moves
verdict_words (verdict.Unsolved pushes moves) = codes "unsolved " ++ counts_words pushes moves
verdict_words (verdict.Blocked at) = codes "blocked at " ++ decimal at
verdict_words (verdict.WrongCase at) = codes "wrong case at " ++ decimal at

-- the limit at which a search ended: of positions, or of seconds
abbrev pub limit_words : Settings → LimitKind → List ℕ
limit_words set Positions = codes "limit " ++ decimal set.limit ++ codes " reached"
limit_words set Seconds = codes "limit " ++ decimal (unwrap_or set.seconds 0) ++ codes " seconds reached"

-- a search that ended at its limit: every solution has at least `bound` pushes
abbrev pub open_words : List ℕ → ℕ → List ℕ
open_words limit bound = limit ++ (codes ", at least " ++ decimal bound ++ codes " pushes")

-- no solution has as few pushes as the cap
abbrev pub none_words : Option ℕ → List ℕ
none_words None = codes "none within  pushes"
none_words (Some most) = codes "none within " ++ decimal most ++ codes " pushes"

-- a solution with the fewest pushes; `found` if it has as many as the given one, and the moves are open
abbrev pub optimal_words : List ℕ → Bool → MovesClaim → Counts → List ℕ
optimal_words limit as_many Counted s = codes "optimal " ++ counts_words s.pushes s.moves
optimal_words limit as_many Fewest s =
    codes "optimal " ++ decimal s.pushes ++ codes " pushes, optimal " ++ decimal s.moves ++ codes " moves"
optimal_words limit as_many Open s =
    codes "optimal " ++ decimal s.pushes ++ codes " pushes, " ++ cond as_many (codes "found ") (codes "") ++
    decimal s.moves ++ codes " moves, " ++ limit

-- a solution that was found: with the fewest pushes, or with more than the bound
abbrev pub found_words : List ℕ → Bool → MovesClaim → ℕ → Counts → List ℕ
found_words limit as_many claim bound s =
    cond (s.pushes == bound) (optimal_words limit as_many claim s)
    (codes "found " ++ counts_words s.pushes s.moves ++ codes ", " ++ open_words limit bound)

-- what is known, by the given solution and the one that was found
abbrev pub known_words : List ℕ → Known → Option Counts → Option Solution → List ℕ
known_words limit known None None = open_words limit known.at_least
known_words limit known None (Some s) = found_words limit false known.claim known.at_least s.counts
known_words limit known (Some given) None =
    cond (given.pushes == known.at_least) (optimal_words limit false known.claim given)
    (open_words limit known.at_least ++ (codes ", given " ++ counts_words given.pushes given.moves))
known_words limit known (Some given) (Some s) =
    codes "not optimal " ++ counts_words given.pushes given.moves ++ codes ", " ++
    found_words limit (s.counts.pushes == given.pushes) known.claim known.at_least s.counts

-- a search that ran out of memory, with the bound on the pushes of every solution, and the given solution
abbrev pub starved_words : Option Counts → Option ℕ → List ℕ
starved_words None (Some bound) = codes "out of memory, at least " ++ decimal bound ++ codes " pushes"
starved_words (Some given) (Some bound) =
    codes "out of memory, at least " ++ decimal bound ++ codes " pushes, given " ++
    counts_words given.pushes given.moves
starved_words given None = codes "out of memory"

-- a judgement
abbrev pub judgement_words : Settings → Judgement → List ℕ
judgement_words set (is.Searched known) = known_words (limit_words set known.limit) known known.given known.found
judgement_words set is.NoneWithin = none_words set.cap
judgement_words set is.Unsolvable = codes "unsolvable"
judgement_words set (is.TooManyBoxes given) = codes "too many boxes"
judgement_words set (is.OutOfMemory given bound) = starved_words given bound
judgement_words set (is.Replayed verdict) = verdict_words verdict
judgement_words set (is.BadText fault) = text_fault_words fault
judgement_words set (is.Faulty fault) = fault_words fault
judgement_words set is.CannotRead = codes "cannot read"
judgement_words set is.Missing = []

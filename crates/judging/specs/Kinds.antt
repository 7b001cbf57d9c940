-- How reports count a judgement, and the totals and the status of several.
use Rattle.std.specs.Prelude.{ℕ, ◌==◌, nat_lt, if◌then◌else◌, Bool, true, false, cond, List, ◌++◌, length, count_by}
use Rattle.std.specs.Prelude.{Option, Some, None, codes, decimal}
use Rattle.std.specs.List.{list_any}
use Rattle.lurd.specs.declared.verdict.Verdict.{Verdict}
use Rattle.lurd.specs.declared.verdict.Verdict.TheVariants as verdict
use Rattle.judging.specs.Words.{line, none_words}
use Rattle.judging.specs.declared.judgement.Counts.{Counts}
use Rattle.judging.specs.declared.judgement.Judgement.{Judgement}
use Rattle.judging.specs.declared.judgement.Judgement.TheVariants as is
use Rattle.judging.specs.declared.judgement.Known.{Known}
use Rattle.judging.specs.declared.judgement.LimitKind.{LimitKind}
use Rattle.judging.specs.declared.judgement.MovesClaim.{MovesClaim}
use Rattle.judging.specs.declared.judgement.MovesClaim.TheVariants.{Counted, Fewest, Open}
use Rattle.judging.specs.declared.judgement.Solution.{Solution}
use Rattle.judging.specs.declared.kind.Group.{Group}
use Rattle.judging.specs.declared.kind.Group.TheVariants as group
use Rattle.judging.specs.declared.kind.Kind.{Kind}
use Rattle.judging.specs.declared.kind.Kind.TheVariants as kind

-- ---- a judgement

-- the numbers of the solution at hand: the one that was found, else the given one
abbrev pub at_hand : Option Counts → Option Solution → Option Counts
at_hand given None = given
at_hand given (Some s) = Some s.counts

-- the solution at hand has no more pushes than the bound
abbrev pub is_least : ℕ → Option Counts → Bool
is_least bound None = false
is_least bound (Some s) = s.pushes == bound

abbrev pub has_fewest : Known → Bool
has_fewest known = is_least known.at_least (at_hand known.given known.found)

-- what is known of a solution with the fewest pushes: its kind, what is proved, and the limit if a search ended at it
abbrev pub claim_kind : MovesClaim → Kind
claim_kind Open = kind.OptimalPushes
claim_kind claim = kind.Optimal

abbrev pub claim_proved : MovesClaim → List ℕ
claim_proved Fewest = codes "pushes and moves"
claim_proved claim = codes "pushes"

abbrev pub claim_limit : LimitKind → MovesClaim → Option LimitKind
claim_limit limit Open = Some limit
claim_limit limit claim = None

-- the kind by whether the solution at hand has the fewest pushes, by the given one, and by the one that was found
abbrev pub kind_by : Bool → MovesClaim → Option Counts → Option Solution → Kind
kind_by fewest claim (Some given) (Some s) = kind.Beaten
kind_by true claim given found = claim_kind claim
kind_by false claim given None = kind.Open
kind_by false claim given (Some s) = kind.Found

-- the kind of a verdict on a solution
abbrev pub verdict_kind : Verdict → Kind
verdict_kind (verdict.Solved pushes moves) = kind.Solved
verdict_kind (verdict.Unsolved pushes moves) = kind.Unsolved
verdict_kind (verdict.Blocked at) = kind.Blocked
verdict_kind (verdict.WrongCase at) = kind.WrongCase

-- the kind of a judgement
abbrev pub kind_of : Judgement → Kind
kind_of (is.Searched known) = kind_by (has_fewest known) known.claim known.given known.found
kind_of is.NoneWithin = kind.NoneWithin
kind_of is.Unsolvable = kind.Unsolvable
kind_of (is.TooManyBoxes given) = kind.TooManyBoxes
kind_of (is.OutOfMemory given bound) = kind.OutOfMemory
kind_of (is.Replayed verdict) = verdict_kind verdict
kind_of (is.BadText fault) = kind.BadText
kind_of (is.Faulty fault) = kind.Fault
kind_of is.CannotRead = kind.CannotRead
kind_of is.Missing = kind.Missing

-- the exit status of one level
abbrev pub kind_status : Kind → ℕ
kind_status kind.Optimal = 0
kind_status kind.Solved = 0
kind_status kind.Missing = 0
kind_status kind.CannotRead = 3
kind_status kind.OptimalPushes = 4
kind_status kind.Found = 4
kind_status kind.Open = 4
kind_status kind.OutOfMemory = 5
kind_status other = 1

-- the verdict of a table
abbrev pub kind_word : Kind → List ℕ
kind_word kind.Optimal = codes "optimal"
kind_word kind.OptimalPushes = codes "optimal"
kind_word kind.Beaten = codes "beaten"
kind_word kind.Found = codes "found"
kind_word kind.Open = codes "open"
kind_word kind.Unsolvable = codes "unsolvable"
kind_word kind.NoneWithin = codes "none_within"
kind_word kind.Solved = codes "solved"
kind_word kind.Unsolved = codes "unsolved"
kind_word kind.Blocked = codes "blocked"
kind_word kind.WrongCase = codes "wrong_case"
kind_word kind.BadText = codes "bad_text"
kind_word kind.Fault = codes "fault"
kind_word kind.TooManyBoxes = codes "too_many_boxes"
kind_word kind.OutOfMemory = codes "out_of_memory"
kind_word kind.CannotRead = codes "cannot_read"
kind_word kind.Missing = codes ""

-- ---- its numbers

-- the numbers of the given solution, if it solves the level
abbrev pub given_of : Judgement → Option Counts
given_of (is.Searched known) = known.given
given_of (is.TooManyBoxes given) = given
given_of (is.OutOfMemory given bound) = given
given_of (is.Replayed (verdict.Solved pushes moves)) = Some (record { pushes = pushes; moves = moves })
given_of judgement = None

-- the solution that was found
abbrev pub found_of : Judgement → Option Solution
found_of (is.Searched known) = known.found
found_of judgement = None

abbrev pub best_of : Judgement → Option Counts
best_of judgement = at_hand (given_of judgement) (found_of judgement)

-- what is proved of the numbers of the solution at hand
abbrev pub proved_of : Judgement → List ℕ
proved_of (is.Searched known) = cond (has_fewest known) (claim_proved known.claim) (codes "")
proved_of judgement = codes ""

-- the bound on the pushes of every solution, unless the solution at hand has as few
abbrev pub bound_of : Judgement → Option ℕ
bound_of (is.Searched known) = cond (has_fewest known) None (Some known.at_least)
bound_of (is.OutOfMemory given bound) = bound
bound_of judgement = None

-- the limit, if a search ended at it
abbrev pub limit_of : Judgement → Option LimitKind
limit_of (is.Searched known) = cond (has_fewest known) (claim_limit known.limit known.claim) (Some known.limit)
limit_of judgement = None

-- ---- several

-- the kinds that totals count together
abbrev pub is_in : Group → Kind → Bool
is_in group.Optimal kind.Optimal = true
is_in group.Solved kind.Solved = true
is_in group.NotSolved kind = nat_lt 0 (kind_status kind)
is_in group.Unsolved kind.Unsolvable = true
is_in group.Unsolved kind.NoneWithin = true
is_in group.Beaten kind.Beaten = true
is_in group.Open kind.OptimalPushes = true
is_in group.Open kind.Found = true
is_in group.Open kind.Open = true
is_in group.Open kind.OutOfMemory = true
is_in group.NotJudged kind.Unsolved = true
is_in group.NotJudged kind.Blocked = true
is_in group.NotJudged kind.WrongCase = true
is_in group.NotJudged kind.BadText = true
is_in group.NotJudged kind.Fault = true
is_in group.NotJudged kind.TooManyBoxes = true
is_in group.NotJudged kind.CannotRead = true
is_in group.Missing kind.Missing = true
is_in group kind = false

abbrev pub count_of : Group → List Kind → ℕ
count_of group kinds = count_by (is_in group) kinds

-- no level has a given solution
abbrev pub all_missing : List Kind → Bool
all_missing kinds = count_of group.Missing kinds == length kinds

-- how levels without a solution are counted: under a cap, those without a solution within it
abbrev pub unsolved_words : Option ℕ → List ℕ
unsolved_words None = codes "unsolvable"
unsolved_words (Some most) = none_words (Some most)

-- how many levels there are of a group
abbrev pub counted : Group → List ℕ → List Kind → List ℕ
counted group words kinds = decimal (count_of group kinds) ++ words

-- the line of totals: of levels without given solutions; of given ones that are proved, or only replayed
abbrev pub totals_words : Bool → Bool → Option ℕ → List Kind → List ℕ
totals_words true true cap kinds =
    decimal (length kinds) ++ codes " levels, " ++ counted group.Optimal (codes " optimal, ") kinds ++
    counted group.Beaten (codes " beaten, ") kinds ++ counted group.Open (codes " open, ") kinds ++
    counted group.NotJudged (codes " not judged, ") kinds ++
    counted group.Missing (codes " without a solution\n") kinds
totals_words true false cap kinds =
    decimal (length kinds) ++ codes " levels, " ++ counted group.Solved (codes " solved, ") kinds ++
    counted group.NotSolved (codes " not solved, ") kinds ++
    counted group.Missing (codes " without a solution\n") kinds
totals_words false proves cap kinds =
    decimal (length kinds) ++ codes " levels, " ++ counted group.Optimal (codes " optimal, ") kinds ++
    counted group.Unsolved (codes " ") kinds ++ unsolved_words cap ++ codes ", " ++
    counted group.Open (codes " open, ") kinds ++ counted group.NotJudged (codes " not judged\n") kinds

-- the exit status of some levels: the first of 5, 3, 4 and 1 that one of them has, else 0
abbrev pub has_status : List Kind → ℕ → Bool
has_status kinds status = list_any (λ kind. kind_status kind == status) kinds

abbrev pub worst_status : List Kind → ℕ
worst_status kinds =
    if has_status kinds 5 then 5 else if has_status kinds 3 then 3 else if has_status kinds 4 then 4 else
    if has_status kinds 1 then 1 else 0

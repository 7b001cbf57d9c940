-- What searches know of a level, and that judgements are right.
use Rattle.std.proofs.Common.{◌≡◌, ℕ, ◌<◌, ◌≤◌, ◌⊎◌, Bool, true, false, List, [], ◌∷◌, length, Option, Some, None, Result, Ok, Err, IfOk, IfSome, IsSome, MatchOption, inl, inr, refl, sym, subst, arith}
use Rattle.grid.specs.Board.{Board}
use Rattle.grid.proofs.lemmas.Plays.{length-pushes}
use Rattle.grid.specs.Lawful.{box_count}
use Rattle.grid.specs.Plays.{dirs_of}
use Rattle.grid.specs.declared.limits.TheConstants.{MAX_BOXES}
use Rattle.grid.specs.declared.moves.Letter.{Letter}
use Rattle.judging.specs.Kinds.{at_hand}
use Rattle.judging.specs.declared.judgement.Counts.{Counts}
use Rattle.judging.specs.declared.judgement.Judgement.{Judgement}
use Rattle.judging.specs.declared.judgement.Judgement.TheVariants as is
use Rattle.judging.specs.declared.judgement.Known.{Known}
use Rattle.judging.specs.declared.judgement.LimitKind.{LimitKind}
use Rattle.judging.specs.declared.judgement.LimitKind.TheVariants.{Positions, Seconds}
use Rattle.judging.specs.declared.judgement.MovesClaim.{MovesClaim}
use Rattle.judging.specs.declared.judgement.MovesClaim.TheVariants.{Counted, Fewest}
use Rattle.judging.specs.declared.judgement.Settings.{Settings}
use Rattle.lurd.proofs.lemmas.Solutions.{solution_of_solved}
use Rattle.lurd.specs.Text.{IsText, HasTextFault}
use Rattle.lurd.specs.Verdict.{IsVerdict}
use Rattle.lurd.specs.declared.fault.LurdFault.{LurdFault}
use Rattle.lurd.specs.declared.limits.TheConstants.{MAX_MOVES}
use Rattle.lurd.specs.declared.verdict.Verdict.{Verdict}
use Rattle.lurd.specs.declared.verdict.Verdict.TheVariants.{Solved, Unsolved, Blocked, WrongCase}
use Rattle.prices.specs.Fewest.{NoneHasFewer}
use Rattle.prover.specs.Reachable.{HasMore}
use Rattle.prices.specs.Searching.{IsFault}
use Rattle.prices.specs.Solving.{Allows}
use Rattle.prices.specs.Timing.{IsLate}
use Rattle.prover.specs.Outcomes.{IsOutcome}
use Rattle.prover.specs.declared.outcome.Outcome.{Outcome}
use Rattle.prover.specs.declared.outcome.Outcome.TheVariants.{Least, NoneWithin, Unsolvable, Limit, Stopped}
use Rattle.prover.proofs.lemmas.Outcomes.{outcome_then}
use Rattle.prices.specs.declared.fault.SearchFault.{SearchFault}
use Rattle.prices.specs.declared.fault.SearchFault.TheVariants.{TooManyBoxes, OutOfMemory}
use Rattle.shortest.specs.Outcomes.{IsMovesOutcome}
use Rattle.shortest.specs.Shortest.{HasMoreStates, NoneIsBetter}
use Rattle.shortest.specs.declared.outcome.MovesOutcome.{MovesOutcome}
use Rattle.shortest.specs.declared.outcome.MovesOutcome.TheVariants as moves_outcome
use Rattle.sokopar.specs.Judging.{HasReached, IsBetter, IsClaim, IsEnd, IsFailure, IsGiven, IsJudged, IsJudgedGiven, IsJudgedText, IsOpen, IsWithinCap}
use Rattle.sokopar.specs.inside.Parts.{IsBeside, IsCompared, failed, found_known, given_known}

-- ---- what a search says

-- a solution with the fewest pushes that a search found
pub least_of : (cap : Option ℕ) (limit : ℕ) (Late : Type 0) (board : Board) (o : Outcome) (letters : List Letter) (pushes : ℕ) → IsOutcome board cap limit Late o →
    o ≡ Least letters pushes → IsOutcome board cap limit Late (Least letters pushes)
least_of cap limit Late board o letters pushes is e = subst (λ (x : Outcome). IsOutcome board cap limit Late x) e is

-- the judgement if a search failed
pub failed_judged : (set : Settings) (board : Board) (fault : SearchFault) (judgement : Judgement) → judgement ≡ failed None fault →
    IsFault board fault → IsJudged set board None judgement
failed_judged set board fault judgement made right = subst (λ (j : Judgement). IsJudged set board None j) (sym made) (by fault right)
  where
    by : (fault : SearchFault) → IsFault board fault → IsJudged set board None (failed None fault)
    by TooManyBoxes many = (many, tt)
    by (OutOfMemory bound) none = (tt, none)

pub failed_compared : (set : Settings) (board : Board) (given : Option Counts) (fault : SearchFault) (judgement : Judgement) →
    box_count board ≤ MAX_BOXES → judgement ≡ failed given fault → IsFault board fault → IsCompared set board given judgement
failed_compared set board given fault judgement few made right = subst (λ (j : Judgement). IsCompared set board given j) (sym made) (by fault right)
  where
    by : (fault : SearchFault) → IsFault board fault → IsCompared set board given (failed given fault)
    by TooManyBoxes many = absurd (omega (arith, many, few))
    by (OutOfMemory bound) none = (refl, none)

-- without a cap every number is within it
pub no_cap : (cap : Option ℕ) (pushes : ℕ) → cap ≡ None → IsWithinCap cap pushes
no_cap cap pushes e = subst (λ (c : Option ℕ). IsWithinCap c pushes) (sym e) tt

-- a bound that the cap allows
allowed_within : (cap : Option ℕ) (bound : ℕ) → Allows cap bound → IsWithinCap cap bound
allowed_within None bound allowed = tt
allowed_within (Some most) bound allowed = allowed

-- what a search says at its limit of positions, and of seconds
pub limit_least : (set : Settings) (cap : Option ℕ) (board : Board) (o : Outcome) (bound : ℕ) →
    IsOutcome board cap set.limit (IsSome set.seconds) o → o ≡ Limit bound →
    NoneHasFewer board bound × (HasReached set Positions (HasMore board set.limit) × IsWithinCap cap bound)
limit_least set cap board o bound is e =
    let (least, more, allowed) = subst (λ (x : Outcome). IsOutcome board cap set.limit (IsSome set.seconds) x) e is in
    (least, (more, allowed_within cap bound allowed))

pub stopped_least : (set : Settings) (cap : Option ℕ) (board : Board) (o : Outcome) (bound : ℕ) →
    IsOutcome board cap set.limit (IsSome set.seconds) o → o ≡ Stopped bound →
    NoneHasFewer board bound × (HasReached set Seconds (HasMore board set.limit) × IsWithinCap cap bound)
stopped_least set cap board o bound is e =
    let (least, late, allowed) = subst (λ (x : Outcome). IsOutcome board cap set.limit (IsSome set.seconds) x) e is in
    (least, (late, allowed_within cap bound allowed))

-- a search whose time is up has a limit of seconds
late_set : (seconds : Option ℕ) (Told : ℕ → Type 0) → IsLate seconds Told → IsSome seconds
late_set seconds Told (most, run, is, long, told) = subst (λ (o : Option ℕ). IsSome o) (sym is) refl

pub outcome_timed : (board : Board) (cap : Option ℕ) (limit : ℕ) (seconds : Option ℕ) (Told : ℕ → Type 0) (o : Outcome) →
    IsOutcome board cap limit (IsLate seconds Told) o → IsOutcome board cap limit (IsSome seconds) o
outcome_timed board cap limit seconds Told o is = outcome_then board cap limit o (late_set seconds Told) is

-- what a search for the fewest moves says: at its end, and at its limit of positions and of seconds
pub moves_least : (board : Board) (pushes limit : ℕ) (Late : Type 0) (o : MovesOutcome) (letters : List Letter) →
    IsMovesOutcome board pushes limit Late o → o ≡ moves_outcome.Least letters →
    IsVerdict board letters (Solved pushes (length letters)) × NoneIsBetter board pushes (length letters)
moves_least board pushes limit Late o letters is e =
    subst (λ (x : MovesOutcome). IsMovesOutcome board pushes limit Late x) e is

pub moves_limit : (set : Settings) (board : Board) (pushes : ℕ) (Late : Type 0) (o : MovesOutcome) →
    IsMovesOutcome board pushes set.limit Late o → o ≡ moves_outcome.Limit →
    HasReached set Positions (HasMoreStates board pushes set.limit)
moves_limit set board pushes Late o is e = subst (λ (x : MovesOutcome). IsMovesOutcome board pushes set.limit Late x) e is

pub moves_stopped : (set : Settings) (board : Board) (pushes : ℕ) (Told : ℕ → Type 0) (o : MovesOutcome) →
    IsMovesOutcome board pushes set.limit (IsLate set.seconds Told) o → o ≡ moves_outcome.Stopped →
    HasReached set Seconds (HasMoreStates board pushes set.limit)
moves_stopped set board pushes Told o is e = late_set set.seconds Told
    (subst (λ (x : MovesOutcome). IsMovesOutcome board pushes set.limit (IsLate set.seconds Told) x) e is)

pub ruleset timed = (outcome_timed, moves_least, moves_limit, moves_stopped)

-- a solution that has no more pushes than a bound has the fewest
pub fewest_at_bound : (board : Board) (bound pushes : ℕ) → NoneHasFewer board bound → pushes ≤ bound → NoneHasFewer board pushes
fewest_at_bound board bound pushes none few ds ps solution = let least = none ds ps solution in omega (arith, least, few)

-- ---- what is known

-- of a solution that was found
pub beside_found : (set : Settings) (board : Board) (given : Option Counts) (known : Known) (letters : List Letter) (pushes bound : ℕ) (claim : MovesClaim)
    (limit : LimitKind) → known ≡ found_known given letters pushes bound claim limit → IsVerdict board letters (Solved pushes (length letters)) → IsWithinCap set.cap pushes →
    NoneHasFewer board bound → IfSome given (IsBetter set (record { pushes = pushes; moves = length letters })) →
    ((pushes ≡ bound) × IsClaim set board limit (record { pushes = pushes; moves = length letters }) claim) ⊎ ((bound < pushes) × IsOpen set board limit bound) →
    IsBeside set board given known
beside_found set board given known letters pushes bound claim limit is solved within none better end =
    subst (λ (k : Known). IsBeside set board given k) (sym is) (refl, record { found = ((solved, within), better); bound = none; end = end })

-- of a given solution
pub beside_given : (set : Settings) (board : Board) (given : Counts) (known : Known) (bound : ℕ) (claim : MovesClaim) (limit : LimitKind) →
    known ≡ given_known (Some given) bound claim limit → NoneHasFewer board bound →
    ((given.pushes ≡ bound) × IsClaim set board limit given claim) ⊎ ((bound < given.pushes) × IsOpen set board limit bound) →
    IsBeside set board (Some given) known
beside_given set board given known bound claim limit is none end =
    subst (λ (k : Known). IsBeside set board (Some given) k) (sym is) (refl, record { found = tt; bound = none; end = end })

-- of none beyond the given one, at a limit
pub beside_open : (set : Settings) (board : Board) (given : Option Counts) (known : Known) (bound : ℕ) (limit : LimitKind) →
    known ≡ given_known given bound Counted limit → NoneHasFewer board bound → IsOpen set board limit bound →
    IfSome given (λ (s : Counts). bound < s.pushes) → IsBeside set board given known
beside_open set board given known bound limit is none open_so more =
    subst (λ (k : Known). IsBeside set board given k) (sym is) (refl, record { found = tt; bound = none; end = by given more })
  where
    by : (given : Option Counts) → IfSome given (λ (s : Counts). bound < s.pushes) →
        MatchOption (at_hand given None) (IsOpen set board limit bound) (IsEnd set board (given_known given bound Counted limit))
    by None more = open_so
    by (Some s) more = inr (more, open_so)

-- a solution with fewer pushes is better
pub fewer_is_better : (set : Settings) (given : Option Counts) (pushes moves : ℕ) → IfSome given (λ (s : Counts). pushes < s.pushes) →
    IfSome given (IsBetter set (record { pushes = pushes; moves = moves }))
fewer_is_better set None pushes moves less = tt
fewer_is_better set (Some s) pushes moves less = inl less

-- ---- claims on moves

-- no solution with as few pushes has fewer moves than one with as many
not_fewer : (board : Board) (pushes least moves : ℕ) → NoneIsBetter board pushes least → moves ≤ least → NoneIsBetter board pushes moves
not_fewer board pushes least moves none few ds ps solution = elim (none ds ps solution) [
  | inl more ↦ inl more
  | inr (same, more) ↦ inr (same, omega (arith, more, few))
]

pub claim_fewest : (set : Settings) (board : Board) (limit : LimitKind) (pushes least moves : ℕ) → set.moves ≡ true →
    NoneIsBetter board pushes least → moves ≤ least →
    IsClaim set board limit (record { pushes = pushes; moves = moves }) Fewest
claim_fewest set board limit pushes least moves e none few = (e, not_fewer board pushes least moves none few)

-- ---- judgements

-- the judgement beside given letters, or beside none
pub judged_of : (set : Settings) (board : Board) (letters : Option (List Letter)) (given : Option Counts) (judgement : Judgement) →
    box_count board ≤ MAX_BOXES → IsGiven board letters given → IsCompared set board given judgement → IsJudged set board letters judgement
judged_of set board letters given (is.Searched known) few has (same, right) =
    (few, subst (λ (g : Option Counts). IsGiven board letters g) (sym same) has, right)
judged_of set board letters given (is.OutOfMemory held None) few has bad = absurd bad
judged_of set board letters given (is.OutOfMemory held (Some bound)) few has (same, none) =
    (subst (λ (g : Option Counts). IsGiven board letters g) (sym same) has, none)
judged_of set board letters given is.NoneWithin few has bad = absurd bad
judged_of set board letters given is.Unsolvable few has bad = absurd bad
judged_of set board letters given (is.TooManyBoxes held) few has bad = absurd bad
judged_of set board letters given (is.Replayed verdict) few has bad = absurd bad
judged_of set board letters given (is.BadText fault) few has bad = absurd bad
judged_of set board letters given (is.Faulty fault) few has bad = absurd bad
judged_of set board letters given is.CannotRead few has bad = absurd bad
judged_of set board letters given is.Missing few has bad = absurd bad

-- ---- letters and texts

-- letters have as many directions
dirs_long : (letters : List Letter) → length (dirs_of letters) ≡ length letters
dirs_long [] = refl
dirs_long (x ∷ xs) = let rest = dirs_long xs in omega (arith, rest)

-- letters that solve the level have no more pushes than moves
pub few_pushes : (board : Board) (letters : List Letter) (v : Verdict) (pushes moves : ℕ) → v ≡ Solved pushes moves → IsVerdict board letters v →
    length letters ≤ MAX_MOVES → pushes ≤ MAX_MOVES
few_pushes board letters v pushes moves e is few =
    let writes = solution_of_solved board letters pushes moves (subst (λ (u : Verdict). IsVerdict board letters u) e is) in
    let (end, play, solved) = writes.solution in
    let less = length-pushes play in
    let long = dirs_long letters in
    let count = writes.pushes_are in
    omega (arith, count, less, long, few)

-- the letters solve the level
pub solves : (board : Board) (letters : List Letter) (v : Verdict) (pushes moves : ℕ) → v ≡ Solved pushes moves → IsVerdict board letters v →
    IsVerdict board letters (Solved pushes moves)
solves board letters v pushes moves e is = subst (λ (u : Verdict). IsVerdict board letters u) e is

-- the numbers of moves and of letters are the same
pub solved_long : (board : Board) (letters : List Letter) (v : Verdict) (pushes moves : ℕ) → v ≡ Solved pushes moves → IsVerdict board letters v →
    IsVerdict board letters (Solved pushes (length letters))
solved_long board letters v pushes moves e is =
    let solved = subst (λ (u : Verdict). IsVerdict board letters u) e is in
    let writes = solution_of_solved board letters pushes moves solved in
    subst (λ (n : ℕ). IsVerdict board letters (Solved pushes n)) (sym writes.moves_are) solved

-- a verdict says that they do not
pub fails_unsolved : (v : Verdict) (pushes moves : ℕ) → v ≡ Unsolved pushes moves → IsFailure v
fails_unsolved v pushes moves e = subst IsFailure (sym e) tt

pub fails_blocked : (v : Verdict) (place : ℕ) → v ≡ Blocked place → IsFailure v
fails_blocked v place e = subst IsFailure (sym e) tt

pub fails_wrong_case : (v : Verdict) (place : ℕ) → v ≡ WrongCase place → IsFailure v
fails_wrong_case v place e = subst IsFailure (sym e) tt

-- what is judged of letters depends on their verdict
pub ruleset of_verdict = (few_pushes, solves, fails_unsolved, fails_blocked, fails_wrong_case)

-- what is judged of given letters, by whether they are proved or only replayed
pub by_search : {E : Type 0} (proves : Bool) (set : Settings) (board : Board) (letters : List Letter) (r : Result Judgement E) → proves ≡ true →
    IfOk r (λ judgement. IsJudged set board (Some letters) judgement) → IfOk r (λ judgement. IsJudgedGiven proves set board letters judgement)
by_search proves set board letters r e is = subst (λ (p : Bool). IfOk r (λ judgement. IsJudgedGiven p set board letters judgement)) (sym e) is

pub by_replay : (proves : Bool) (set : Settings) (board : Board) (letters : List Letter) (verdict : Verdict) → proves ≡ false →
    IsVerdict board letters verdict → IsJudgedGiven proves set board letters (is.Replayed verdict)
by_replay proves set board letters verdict e has =
    subst (λ (p : Bool). IsJudgedGiven p set board letters (is.Replayed verdict)) (sym e) has

-- what is judged of a text
pub of_text : {E : Type 0} (proves : Bool) (set : Settings) (board : Board) (text : List ℕ) (letters : List Letter) (r : Result Judgement E) →
    IsText text letters → IfOk r (λ judgement. IsJudgedGiven proves set board letters judgement) →
    IfOk r (λ judgement. IsJudgedText proves set board text judgement)
of_text proves set board text letters (Ok judgement) has is = inl (letters, has, is)
of_text proves set board text letters (Err e) has is = tt

pub of_fault : {E : Type 0} (proves : Bool) (set : Settings) (board : Board) (text : List ℕ) (fault : LurdFault) (r : Result Judgement E) →
    HasTextFault text fault → IfOk r (λ judgement. judgement ≡ is.BadText fault) → IfOk r (λ judgement. IsJudgedText proves set board text judgement)
of_fault proves set board text fault (Ok judgement) has is = inr (fault, has, is)
of_fault proves set board text fault (Err e) has is = tt

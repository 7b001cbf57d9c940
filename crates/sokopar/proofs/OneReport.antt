-- Two reports of one input are the same.
use Rattle.std.proofs.Common.{◌≡◌, ℕ, zero, suc, ◌-◌, ◌<◌, Bool, true, false, List, [], ◌∷◌, length, refl, sym, ap, subst, ◌∙◌, arith, inl, inr, Result, Ok}
use Rattle.std.proofs.Common.{Err, IfOk, Option, Some, None, unwrap_or, option_map}
use Rattle.std.specs.Prelude.{⊤, slice_get, flat_map}
use Rattle.std.specs.List.{AllZip}
use Rattle.std.proofs.lemmas.List.{ext_get_or}
use Rattle.grid.specs.declared.fault.LevelFault.{LevelFault}
use Rattle.grid.specs.declared.moves.Letter.{Letter}
use Rattle.grid.specs.Board.{Board}
use Rattle.grid.specs.Lawful.{IsLawful, IsLevel, HasFault, row_count}
use Rattle.lurd.specs.ExactlyOne.{ExactlyOne}
use Rattle.lurd.specs.Parsing.{Reads}
use Rattle.lurd.specs.Verdict.{IsVerdict}
use Rattle.lurd.specs.declared.fault.LurdFault.{LurdFault}
use Rattle.successors.specs.Problems.{Problem}
use Rattle.successors.specs.Capping.{capped}
use Rattle.solo.specs.Answers.{IsAnswer}
use Rattle.solo.specs.declared.answer.Answer.{Answer}
use Rattle.xsb.specs.Collection.{Found, IsCollection, IsJudged}
use Rattle.xsb.specs.Written.{rows_from}
use Rattle.sokopar.specs.DeadMap.{IsMark, wall, goal, dead, other, AreMarks, IsDeadReport, IsMapOf, marked_row}
use Rattle.sokopar.specs.Listing.{Listed, IsLevelAt, IsListed, IsLevelListing}
use Rattle.sokopar.specs.OneAtMost.{IsOneAtMost}
use Rattle.sokopar.specs.OneReport.{IsOnlyReport}
use Rattle.sokopar.specs.Report.{Report, IsReportOn, IsReplayOf, IsCheckReport, IsShowReport, IsReplayReport, ReportsOnText, ReportsOn, IsShown, check_report}
use Rattle.sokopar.specs.Report.{text_fault_report, verdict_report}
use Rattle.sokopar.specs.Solving.{IsSolveOf, IsSolveReport, answer_report}

-- ---- one listing

-- there is none
abbrev IsNothing : {A : Type 0} → Option A → Type 0
IsNothing None = ⊤
IsNothing (Some x) = ⊥

-- a board has one first fault
same_fault : (board : Board) (f g : LevelFault) → HasFault board f → HasFault board g → g ≡ f
same_fault board f g (inl one) (inl two) = ap (λ (o : Option LevelFault). unwrap_or o f) (sym two ∙ one)
same_fault board f g (inl one) (inr (none, way, is)) = absurd (subst IsNothing (sym none ∙ one) tt)
same_fault board f g (inr (none, way, is)) (inl two) = absurd (subst IsNothing (sym none ∙ two) tt)
same_fault board f g (inr (none, way, is)) (inr (none₁, way₁, is₁)) = is₁ ∙ sym is

-- a lawful board has no fault
no_fault : (board : Board) (f : LevelFault) → IsLawful board → HasFault board f → ⊥
no_fault board f lawful (inl is) = subst IsNothing (sym lawful.cells ∙ is) tt
no_fault board f lawful (inr (none, way, is)) = lawful.closed way

-- a board is judged in one way
same_judged : (found : Board) (a b : Result Board LevelFault) → IsJudged found a → IsJudged found b → b ≡ a
same_judged found (Ok x) (Ok y) one two = ap (λ (l : Board). Ok l) (two.0 ∙ sym one.0)
same_judged found (Ok x) (Err g) one two = absurd (no_fault found g (subst (λ (l : Board). IsLawful l) one.0 one.1.lawful) two)
same_judged found (Err f) (Ok y) one two = absurd (no_fault found f (subst (λ (l : Board). IsLawful l) two.0 two.1.lawful) one)
same_judged found (Err f) (Err g) one two = ap (λ (h : LevelFault). Err h) (same_fault found f g one two)

-- what stands in a collection is listed in one way
same_listed : (found : Found) (a b : Listed) → IsListed a found → IsListed b found → b ≡ a
same_listed found a b one two =
    let name : b.name ≡ a.name = two.name ∙ sym one.name in
    let first_line : b.first_line ≡ a.first_line = two.first_line ∙ sym one.first_line in
    let board : b.board ≡ a.board = same_judged found.board a.board b.board one.board two.board in
    λ i. record { name = name i; first_line = first_line i; board = board i }

-- the same boards are listed in one way
same_listings : (founds : List Found) (xs ys : List Listed) → AllZip IsListed xs founds → AllZip IsListed ys founds → ys ≡ xs
same_listings [] [] [] one two = refl
same_listings [] (x ∷ xs) ys one two = absurd one
same_listings [] [] (y ∷ ys) one two = absurd two
same_listings (f ∷ fs) [] ys one two = absurd one
same_listings (f ∷ fs) (x ∷ xs) [] one two = absurd two
same_listings (f ∷ fs) (x ∷ xs) (y ∷ ys) one two =
    ap (λ (l : Listed). l ∷ ys) (same_listed f x y one.0 two.0) ∙ ap (λ (ls : List Listed). x ∷ ls) (same_listings fs xs ys one.1 two.1)

-- two lists of boards of the same bytes are one
abbrev pub AreOneCollection : Type 0
AreOneCollection = (bytes : List ℕ) (founds others : List Found) → IsCollection bytes founds → IsCollection bytes others → founds ≡ others

-- the same bytes have one listing
pub one_listing : AreOneCollection → (bytes : List ℕ) (xs ys : List Listed) → IsLevelListing bytes xs → IsLevelListing bytes ys → ys ≡ xs
one_listing law bytes xs ys (fs, read, one) (gs, also, two) =
    let P : List Found → Type 0 = λ hs. AllZip IsListed ys hs in
    same_listings fs xs ys one (subst P (law bytes gs fs also read) two)

-- a level of a listing is a level
lawful_at : (founds : List Found) (listing : List Listed) (i : ℕ) (board : Board) → AllZip IsListed listing founds
    → option_map (λ (x : Listed). x.board) (slice_get listing i) ≡ Some (Ok board) → IsLevel board
lawful_at founds [] i board zap is = absurd (subst IsNothing is tt)
lawful_at [] (x ∷ xs) i board zap is = absurd zap
lawful_at (f ∷ fs) (x ∷ xs) zero board zap is =
    let here : x.board ≡ Ok board = ap (λ (o : Option (Result Board LevelFault)). unwrap_or o (Ok board)) is in
    let judged : IsJudged f.board (Ok board) = subst (λ (r : Result Board LevelFault). IsJudged f.board r) here zap.0.board in
    judged.1
lawful_at (f ∷ fs) (x ∷ xs) (suc i) board zap is = lawful_at fs xs i board zap.1 is

-- ---- what is told of a level, by the commands

-- the map of dead squares
abbrev IsYes : Bool → Type 0
IsYes true = ⊤
IsYes false = ⊥

clash : {b : Bool} → b ≡ true → b ≡ false → ⊥
clash is not = subst IsYes (sym is ∙ not) tt

same_mark : {board : Board} {q m k : ℕ} → IsMark board q m → IsMark board q k → m ≡ k
same_mark (wall w) (wall w₁) = refl
same_mark (wall w) (goal no_wall g) = absurd (clash w no_wall)
same_mark (wall w) (dead no_wall no_goal room d) = absurd (clash w no_wall)
same_mark (wall w) (other no_wall no_goal not) = absurd (clash w no_wall)
same_mark (goal no_wall g) (wall w) = absurd (clash w no_wall)
same_mark (goal no_wall g) (goal no_wall₁ g₁) = refl
same_mark (goal no_wall g) (dead no_wall₁ no_goal room d) = absurd (clash g no_goal)
same_mark (goal no_wall g) (other no_wall₁ no_goal not) = absurd (clash g no_goal)
same_mark (dead no_wall no_goal room d) (wall w) = absurd (clash w no_wall)
same_mark (dead no_wall no_goal room d) (goal no_wall₁ g) = absurd (clash g no_goal)
same_mark (dead no_wall no_goal room d) (dead no_wall₁ no_goal₁ room₁ d₁) = refl
same_mark (dead no_wall no_goal room d) (other no_wall₁ no_goal₁ not) = absurd (not (room, d))
same_mark (other no_wall no_goal not) (wall w) = absurd (clash w no_wall)
same_mark (other no_wall no_goal not) (goal no_wall₁ g) = absurd (clash g no_goal)
same_mark (other no_wall no_goal not) (dead no_wall₁ no_goal₁ room d) = absurd (not (room, d))
same_mark (other no_wall no_goal not) (other no_wall₁ no_goal₁ not₁) = refl

same_marks : (board : Board) (xs ys : List ℕ) → AreMarks board xs → AreMarks board ys → ys ≡ xs
same_marks board xs ys one two =
    let one_count = one.count in
    let two_count = two.count in
    ext_get_or 0 ys xs (two_count ∙ sym one_count) (λ i inside.
    let within : i < length board.cells = omega (arith, inside, two_count) in
    same_mark (two.each i within) (one.each i within))

same_map : (board : Board) → IsOneAtMost (λ report. IsMapOf board report)
same_map board report others (xs, are, told) (ys, ares, also) =
    let of : List ℕ → Report = λ marks. record { text = flat_map marked_row (rows_from (row_count board) board.cols marks); status = 0 } in
    also ∙ ap of (same_marks board xs ys are ares) ∙ sym told

-- the replay of a text
abbrev letters_or_none : Result (List Letter) LurdFault → List Letter
letters_or_none (Ok letters) = letters
letters_or_none (Err fault) = []

abbrev fault_or : LurdFault → Result (List Letter) LurdFault → LurdFault
fault_or f (Ok letters) = f
fault_or f (Err fault) = fault

abbrev IsRefused : Result (List Letter) LurdFault → Type 0
IsRefused (Ok letters) = ⊥
IsRefused (Err fault) = ⊤

-- the same bytes read in one way
abbrev pub IsOneReading : Type 0
IsOneReading = (bytes : List ℕ) → ExactlyOne (λ r. Reads bytes r)

-- the same letters have one verdict
abbrev pub IsOneVerdict : Type 0
IsOneVerdict = (board : Board) (letters : List Letter) → ExactlyOne (λ v. IsVerdict board letters v)

same_reading : IsOneReading → (bytes : List ℕ) (r s : Result (List Letter) LurdFault) → Reads bytes r → Reads bytes s → s ≡ r
same_reading law bytes r s one two = let only = (law bytes).2 in only s two ∙ sym (only r one)

same_replay : IsOneReading → IsOneVerdict → (board : Board) (bytes : List ℕ) → IsOneAtMost (λ report. IsReplayOf board bytes report)
same_replay reading judging board bytes report others (inl (ls, v, text, is, told)) (inl (ms, w, texts, also, tells)) =
    let same : ms ≡ ls = ap letters_or_none (same_reading reading bytes (Ok ls) (Ok ms) text texts) in
    let P : List Letter → Type 0 = λ ks. IsVerdict board ks w in
    let only = (judging board ls).2 in
    let one : w ≡ v = only w (subst P same also) ∙ sym (only v is) in
    tells ∙ ap verdict_report one ∙ sym told
same_replay reading judging board bytes report others (inl (ls, v, text, is, told)) (inr (fault, bad, tells)) =
    absurd (subst IsRefused (same_reading reading bytes (Ok ls) (Err fault) text bad) tt)
same_replay reading judging board bytes report others (inr (fault, bad, told)) (inl (ms, w, texts, also, tells)) =
    absurd (subst IsRefused (same_reading reading bytes (Ok ms) (Err fault) texts bad) tt)
same_replay reading judging board bytes report others (inr (fault, bad, told)) (inr (fault₁, bad₁, tells)) =
    let same : fault₁ ≡ fault = ap (fault_or fault) (same_reading reading bytes (Err fault) (Err fault₁) bad bad₁) in
    tells ∙ ap text_fault_report same ∙ sym told

same_replay_on : IsOneReading → IsOneVerdict → (n : ℕ) (level : Option (Result Board LevelFault)) (solution : Option (List ℕ)) →
    IsOneAtMost (λ report. ReportsOnText IsReplayOf n level solution report)
same_replay_on reading judging n None solution report others told also = also.1 ∙ sym told.1
same_replay_on reading judging n (Some (Err fault)) solution report others told also = also.1 ∙ sym told.1
same_replay_on reading judging n (Some (Ok board)) solution report others (xs, read, told) (ys, reads, also) =
    let same : ys ≡ xs = ap (λ (o : Option (List ℕ)). unwrap_or o []) (sym reads ∙ read) in
    let P : List ℕ → Type 0 = λ bs. IsReplayOf board bs others in
    same_replay reading judging board xs report others told (subst P same also)

-- the solution of a level
abbrev pub IsOneAnswer : Type 0
IsOneAnswer = (problem : Problem) (limit : ℕ) (a b : Answer) → IsLevel problem.board → IsAnswer problem limit a → IsAnswer problem limit b → a ≡ b

same_solve : IsOneAnswer → (cap : Option ℕ) (limit : ℕ) (board : Board) → IsLevel board → IsOneAtMost (λ report. IsSolveOf cap limit board report)
same_solve law cap limit board lawful report others (inl (many, told)) (inl (many₁, also)) = also ∙ sym told
same_solve law cap limit board lawful report others (inl (many, told)) (inr (few, more)) = absurd (omega (arith, many, few))
same_solve law cap limit board lawful report others (inr (few, more)) (inl (many, told)) = absurd (omega (arith, many, few))
same_solve law cap limit board lawful report others (inr (few, (a, is, told))) (inr (few₁, (b, iss, also))) =
    also ∙ ap (answer_report cap limit) (law (capped board cap) limit b a lawful iss is) ∙ sym told

-- ---- one report of the bytes, by the commands

pub one_check_report : AreOneCollection → (bytes : List ℕ) → IsOneAtMost (λ report. IsCheckReport bytes report)
one_check_report law bytes report others (xs, lists, told) (ys, listed, also) =
    also ∙ ap check_report (one_listing law bytes xs ys lists listed) ∙ sym told

same_on : (Has : Board → Report → Type 0) (n : ℕ) (level : Option (Result Board LevelFault)) →
    ((board : Board) → level ≡ Some (Ok board) → IsOneAtMost (λ report. Has board report)) → IsOneAtMost (λ report. ReportsOn Has n level report)
same_on Has n None one report others told also = also ∙ sym told
same_on Has n (Some (Err fault)) one report others told also = also ∙ sym told
same_on Has n (Some (Ok board)) one report others told also = one board refl report others told also

one_level : AreOneCollection → (bytes : List ℕ) (n : ℕ) (level again : Option (Result Board LevelFault)) → IsLevelAt bytes n level →
    IsLevelAt bytes n again → again ≡ level
one_level law bytes n level again has also =
    also.is ∙ ap (λ l. option_map (λ listed. listed.board) (slice_get l (n - 1))) (one_listing law bytes has.listing also.listing has.lists also.lists)
    ∙ sym has.is

one_on : AreOneCollection → (Has : Board → Report → Type 0) (n : ℕ) (bytes : List ℕ) →
    ((board : Board) → IsLevel board → IsOneAtMost (λ report. Has board report)) → IsOneAtMost (λ report. IsReportOn Has n bytes report)
one_on law Has n bytes one report others (level, here, told) (again, there, also) =
    same_on Has n level (λ board is. one board (lawful_at here.lists.0 here.listing (n - 1) board here.lists.2 (sym here.is ∙ is))) report others told
    (subst (λ l. ReportsOn Has n l others) (one_level law bytes n level again here there) also)

pub one_show_report : AreOneCollection → (n : ℕ) (bytes : List ℕ) → IsOneAtMost (λ report. IsShowReport n bytes report)
one_show_report law n bytes = one_on law IsShown n bytes (λ board lawful report others told also. also ∙ sym told)

pub one_dead_report : AreOneCollection → (n : ℕ) (bytes : List ℕ) → IsOneAtMost (λ report. IsDeadReport n bytes report)
one_dead_report law n bytes = one_on law IsMapOf n bytes (λ board lawful. same_map board)

pub one_replay_report : AreOneCollection → IsOneReading → IsOneVerdict → (n : ℕ) (bytes : List ℕ) (solution : Option (List ℕ)) →
    IsOneAtMost (λ report. IsReplayReport n bytes solution report)
one_replay_report law reading judging n bytes solution report others (level, here, told) (again, there, also) =
    same_replay_on reading judging n level solution report others told
    (subst (λ l. ReportsOnText IsReplayOf n l solution others) (one_level law bytes n level again here there) also)

pub one_solve_report : AreOneCollection → IsOneAnswer → (cap : Option ℕ) (limit n : ℕ) (bytes : List ℕ) →
    IsOneAtMost (λ report. IsSolveReport cap limit n bytes report)
one_solve_report law answering cap limit n bytes = one_on law (IsSolveOf cap limit) n bytes (same_solve answering cap limit)

-- a report that was made is the only one
pub only_report : {E : Type 0} (IsReport : List ℕ → Report → Type 0) (bytes : List ℕ) → IsOneAtMost (λ report. IsReport bytes report) →
    (result : Result Report E)
    → IfOk result (λ report. IsReport bytes report) → IfOk result (λ report. IsOnlyReport IsReport bytes report)
only_report IsReport bytes one (Ok report) is = record { is = is; only = λ others also. one report others is also }
only_report IsReport bytes one (Err e) is = tt

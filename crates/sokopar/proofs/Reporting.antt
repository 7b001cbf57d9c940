-- The report on a level of a collection, by its number.
use Rattle.std.proofs.Common.{◌≡◌, ℕ, true, List, Option, Some, None, Result, Ok, Err, IfOk, IfErr, ◌⊎◌, inl, inr, refl, sym, ◌∙◌, subst}
use Rattle.grid.specs.Board.{Board}
use Rattle.grid.specs.declared.fault.LevelFault.{LevelFault}
use Rattle.judging.specs.declared.judgement.Judgement.{Judgement}
use Rattle.judging.specs.declared.judgement.Settings.{Settings}
use Rattle.sokopar.specs.Ends.{Seen}
use Rattle.sokopar.specs.Judging.{IsJudgedOn}
use Rattle.sokopar.specs.Listing.{IsLevelAt}
use Rattle.sokopar.specs.Report.{IsReportOn, Report, ReportsOn, ReportsOnText}
use Rattle.sokopar.specs.Runs.{ReadsIfSome, ReadsWhole, Stops}
use Rattle.sokopar.specs.declared.fault.RunFault.{RunFault}
use Rattle.sokopar.specs.declared.fault.RunFault.TheVariants.{OutOfMemory}
use Rattle.sokopar.specs.inside.Parts.{HasChosen}
use Rattle.sokopar.proofs.Reading.{stops_after}

-- nothing is told of a lawful level
abbrev Nothing : Board → Report → Type 0
Nothing board report = ⊥

told_other : (Has : Board → Report → Type 0) (n : ℕ) (level : Option (Result Board LevelFault)) (report : Report) → ReportsOn Nothing n level report →
    ReportsOn Has n level report
told_other Has n None report is = is
told_other Has n (Some (Err fault)) report is = is
told_other Has n (Some (Ok board)) report is = absurd is

pub told_level : {E : Type 0} (Has : Board → Report → Type 0) (bytes : List ℕ) (n : ℕ) (chosen : Result Board Report) (board : Board)
    (result : Result Report E) → HasChosen bytes n chosen → chosen ≡ Ok board → IfOk result (λ report. Has board report) →
    IfOk result (λ report. IsReportOn Has n bytes report)
told_level Has bytes n chosen board (Ok report) has is told = (Some (Ok board), subst (λ c. HasChosen bytes n c) is has, told)
told_level Has bytes n chosen board (Err e) has is told = tt

pub told_none : (Has : Board → Report → Type 0) (bytes : List ℕ) (n : ℕ) (chosen : Result Board Report) (report : Report) → HasChosen bytes n chosen →
    chosen ≡ Err report → IsReportOn Has n bytes report
told_none Has bytes n chosen report has is =
    let here = subst (λ c. HasChosen bytes n c) is has in (here.0, here.1, told_other Has n here.0 report here.2)

-- the report on the level, or that of another one
pub ruleset on_level = (told_level, told_none)

no_text : (Has : Board → List ℕ → Report → Type 0) (n : ℕ) (level : Option (Result Board LevelFault)) (report : Report) →
    ReportsOn Nothing n level report → ReportsOnText Has n level None report
no_text Has n None report is = (refl, is)
no_text Has n (Some (Err fault)) report is = (refl, is)
no_text Has n (Some (Ok board)) report is = absurd is

pub text_level : {E : Type 0} (Has : Board → List ℕ → Report → Type 0) (bytes : List ℕ) (n : ℕ) (chosen : Result Board Report) (board : Board)
    (old new : Seen) (result : Result Report E) → HasChosen bytes n chosen → chosen ≡ Ok board →
    IfOk result (λ report. (text : List ℕ) × ReadsWhole old new text × Has board text report) →
    IfOk result (λ report. (text : Option (List ℕ)) × ReadsIfSome old new text ×
    ((level : Option (Result Board LevelFault)) × IsLevelAt bytes n level × ReportsOnText Has n level text report))
text_level Has bytes n chosen board old new (Ok report) has is (text, reads, told) =
    (Some text, reads, (Some (Ok board), subst (λ c. HasChosen bytes n c) is has, (text, refl, told)))
text_level Has bytes n chosen board old new (Err e) has is told = tt

pub text_none : (Has : Board → List ℕ → Report → Type 0) (bytes : List ℕ) (n : ℕ) (chosen : Result Board Report) (report : Report) (seen : Seen) →
    HasChosen bytes n chosen → chosen ≡ Err report → (text : Option (List ℕ)) × ReadsIfSome seen seen text ×
    ((level : Option (Result Board LevelFault)) × IsLevelAt bytes n level × ReportsOnText Has n level text report)
text_none Has bytes n chosen report seen has is =
    let here = subst (λ c. HasChosen bytes n c) is has in (None, refl, (here.0, here.1, no_text Has n here.0 report here.2))

-- the report on the level and the text that was read, or that of another level
pub ruleset on_text = (text_level, text_none)

-- memory ran out after the solution of a level was judged
pub given_unreported : {A : Type 0} (set : Settings) (bytes : List ℕ) (n : ℕ) (level : Option (Result Board LevelFault))
    (board : Result Board LevelFault) (judgement : Judgement) (old new : Seen) (result : Result A RunFault) → result ≡ Err OutOfMemory →
    IsLevelAt bytes n level → level ≡ Some board →
    ((text : Option (List ℕ)) × ReadsIfSome old new text × IsJudgedOn true set board text judgement) →
    IfErr result (λ fault. ((fault ≡ OutOfMemory) × (new ≡ old)) ⊎ ((board : Board) × IsLevelAt bytes n (Some (Ok board)) × Stops old new fault))
given_unreported set bytes n level board judgement old new result fails has is right =
    subst (λ r. IfErr r (λ fault. ((fault ≡ OutOfMemory) × (new ≡ old)) ⊎ ((board : Board) × IsLevelAt bytes n (Some (Ok board)) × Stops old new fault)))
    (sym fails) (by board is right)
  where
    by : (board : Result Board LevelFault) → level ≡ Some board →
        ((text : Option (List ℕ)) × ReadsIfSome old new text × IsJudgedOn true set board text judgement) →
        ((OutOfMemory ≡ OutOfMemory) × (new ≡ old)) ⊎ ((board : Board) × IsLevelAt bytes n (Some (Ok board)) × Stops old new OutOfMemory)
    by (Ok lawful) is (text, reads, (read, same, right)) =
        inr (lawful, subst (IsLevelAt bytes n) is has, stops_after old new read (subst (λ (t : Option (List ℕ)). ReadsIfSome old new t) same reads))
    by (Err fault) is (text, reads, (same, right)) = inl (refl, subst (λ (t : Option (List ℕ)). ReadsIfSome old new t) same reads)

-- How a given solution is read and judged.
use Rattle.std.proofs.Common.{◌≡◌, ℕ, Bool, List, [], Option, Some, None, Result, Ok, Err, IfErr, IfOk, IfSome, refl, sym, subst}
use Rattle.grid.specs.Board.{Board}
use Rattle.grid.specs.declared.fault.LevelFault.{LevelFault}
use Rattle.judging.specs.declared.judgement.Judgement.{Judgement}
use Rattle.judging.specs.declared.judgement.Judgement.TheVariants as is
use Rattle.judging.specs.declared.judgement.Settings.{Settings}
use Rattle.sokopar.specs.Ends.{Seen}
use Rattle.sokopar.specs.Judging.{IsJudgedText, IsJudgedWith, uncapped}
use Rattle.sokopar.specs.Levels.{IsJudgedFile, IsJudgedFrom, stopped_by}
use Rattle.sokopar.specs.Levels as levels
use Rattle.sokopar.specs.Runs.{ReadsIfSome, ReadsWhole, Stops}
use Rattle.sokopar.specs.declared.fault.RunFault.{RunFault}

-- ---- a board

pub board_judged : {E : Type 0} (proves : Bool) (set : Settings) (board : Result Board LevelFault) (lawful : Board) (old new : Seen) (r : Result Judgement E) →
    board ≡ Ok lawful → IfOk r (λ j. (text : List ℕ) × ReadsWhole old new text × IsJudgedText proves (uncapped set) lawful text j) →
    IfOk r (λ j. (text : Option (List ℕ)) × ReadsIfSome old new text × IsJudgedWith proves set board text j)
board_judged proves set board lawful old new (Ok judgement) same (text, reads, right) =
    (Some text, reads, subst (λ (b : Result Board LevelFault). IsJudgedWith proves set b (Some text) judgement) (sym same) (text, refl, right))
board_judged proves set board lawful old new (Err e) same has = tt

pub board_stopped : {A : Type 0} (board : Result Board LevelFault) (lawful : Board) (old new : Seen) (r : Result A RunFault) →
    board ≡ Ok lawful → IfErr r (Stops old new) → IfErr r (λ fault. ((lawful : Board) × (board ≡ Ok lawful)) × Stops old new fault)
board_stopped board lawful old new (Ok value) same has = tt
board_stopped board lawful old new (Err fault) same stops = ((lawful, same), stops)

pub board_faulty : (proves : Bool) (set : Settings) (board : Result Board LevelFault) (fault : LevelFault) (seen : Seen) → board ≡ Err fault →
    (text : Option (List ℕ)) × ReadsIfSome seen seen text × IsJudgedWith proves set board text (is.Faulty fault)
board_faulty proves set board fault seen same =
    (None, refl, subst (λ (b : Result Board LevelFault). IsJudgedWith proves set b None (is.Faulty fault)) (sym same) (refl, refl))

pub ruleset on_board = (board_judged, board_stopped, board_faulty)

-- ---- a file

pub file_judged : {File : Type 0} (seen : File → Seen) (proves : Bool) (set : Settings) (board : Result Board LevelFault) (file read : File)
    (judged : Result Judgement RunFault) (judgement : Judgement) → judged ≡ Ok judgement →
    IfOk judged (λ j. (text : Option (List ℕ)) × ReadsIfSome (seen file) (seen read) text × IsJudgedWith proves set board text j) →
    IsJudgedFile seen proves set board file judgement
file_judged seen proves set board file read judged judgement same has =
    let is = subst (λ (r : Result Judgement RunFault). IfOk r (λ j. (text : Option (List ℕ)) × ReadsIfSome (seen file) (seen read) text ×
    IsJudgedWith proves set board text j)) same has in
    levels.judged read is.0 is.1 is.2

pub file_stopped : {File : Type 0} (seen : File → Seen) (proves : Bool) (set : Settings) (board : Result Board LevelFault) (file read : File)
    (judged : Result Judgement RunFault) (fault : RunFault) (judgement : Judgement) → judged ≡ Err fault →
    IfErr judged (λ fault. ((lawful : Board) × (board ≡ Ok lawful)) × Stops (seen file) (seen read) fault) → judgement ≡ stopped_by fault →
    IsJudgedFile seen proves set board file judgement
file_stopped seen proves set board file read judged fault judgement same has made =
    let is = subst (λ (r : Result Judgement RunFault). IfErr r (λ fault. ((lawful : Board) × (board ≡ Ok lawful)) ×
    Stops (seen file) (seen read) fault)) same has in
    levels.unread read fault is.1 made

pub ruleset of_file = (file_judged, file_stopped)

-- ---- what opening a file gave

pub opened_file : {File : Type 0} (opened : ℕ → Result (Option File) RunFault → Type 0) (seen : File → Seen) (proves : Bool) (set : Settings) (n : ℕ)
    (board : Result Board LevelFault) (given : Result (Option File) RunFault) (file : File) (judgement : Judgement) → given ≡ Ok (Some file) →
    opened n given → IfOk given (λ found. IfSome found (λ it. (seen it).acts ≡ [])) → IsJudgedFile seen proves set board file judgement →
    IsJudgedFrom opened seen proves set n board judgement
opened_file opened seen proves set n board given file judgement same is fresh has =
    levels.read file (subst (λ (g : Result (Option _) RunFault). opened n g) same is)
    (subst (λ (g : Result (Option _) RunFault). IfOk g (λ found. IfSome found (λ it. (seen it).acts ≡ []))) same fresh) has

pub opened_none : {File : Type 0} (opened : ℕ → Result (Option File) RunFault → Type 0) (seen : File → Seen) (proves : Bool) (set : Settings) (n : ℕ)
    (board : Result Board LevelFault) (given : Result (Option File) RunFault) → given ≡ Ok None → opened n given →
    IsJudgedFrom opened seen proves set n board is.Missing
opened_none opened seen proves set n board given same is = levels.missing (subst (λ (g : Result (Option _) RunFault). opened n g) same is) refl

pub opened_stopped : {File : Type 0} (opened : ℕ → Result (Option File) RunFault → Type 0) (seen : File → Seen) (proves : Bool) (set : Settings) (n : ℕ)
    (board : Result Board LevelFault) (given : Result (Option File) RunFault) (fault : RunFault) (judgement : Judgement) → given ≡ Err fault →
    opened n given → judgement ≡ stopped_by fault → IsJudgedFrom opened seen proves set n board judgement
opened_stopped opened seen proves set n board given fault judgement same is made =
    levels.unopened fault (subst (λ (g : Result (Option _) RunFault). opened n g) same is) made

pub ruleset of_opened = (opened_file, opened_none, opened_stopped)

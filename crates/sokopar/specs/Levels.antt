-- Reports of `best`, `prove` and `replay` with a line for each level of a collection.
use Rattle.std.specs.Prelude.{◌≡◌, ℕ, suc, ◌<◌, ◌≤◌, if◌then◌else◌, Bool, false, cond, List, [], ◌∷◌, ◌++◌, length, map}
use Rattle.std.specs.Prelude.{Option, Some, None, is_some, unwrap_or, Result, Ok, Err, codes}
use Rattle.std.specs.List.{AllZip}
use Rattle.grid.specs.Board.{Board}
use Rattle.grid.specs.declared.fault.LevelFault.{LevelFault}
use Rattle.xsb.specs.Collection.{Found, IsCollection}
use Rattle.judging.specs.Kinds.{all_missing, kind_of, totals_words, worst_status}
use Rattle.judging.specs.Table.{head_of, level_line}
use Rattle.judging.specs.Words.{line}
use Rattle.judging.specs.declared.judgement.Judgement.{Judgement}
use Rattle.judging.specs.declared.judgement.Judgement.TheVariants as is
use Rattle.judging.specs.declared.judgement.Settings.{Settings}
use Rattle.judging.specs.declared.kind.Kind.{Kind}
use Rattle.sokopar.specs.Ends.{Seen}
use Rattle.sokopar.specs.Judging.{IsJudgedOn, IsJudgedWith}
use Rattle.sokopar.specs.Listing.{Listed, IsListed, IsLevelListing}
use Rattle.sokopar.specs.Report.{no_level}
use Rattle.sokopar.specs.Runs.{ReadsIfSome, Stops}
use Rattle.sokopar.specs.declared.fault.RunFault.{RunFault}
use Rattle.sokopar.specs.declared.fault.RunFault.TheVariants as run
use Rattle.sokopar.specs.declared.proving.LevelsRequest.{LevelsRequest}

-- ---- a level

-- what a report has of a level: its line, and how the level counts
pub record Reported : Type 0 where
  pub text : List ℕ
  pub kind : Kind

-- level n is reported by a judgement for which `IsRight` holds
abbrev pub IsLine : (ℕ → Result Board LevelFault → Judgement → Type 0) → LevelsRequest → ℕ → Listed → Reported → Type 0
IsLine IsRight request n listed one =
    (judgement : Judgement) × IsRight n listed.board judgement ×
    (one ≡ record { text = level_line request.table request.settings n listed judgement; kind = kind_of judgement })

-- of `best`: a right judgement without a solution
abbrev pub IsBestLine : LevelsRequest → ℕ → Listed → Reported → Type 0
IsBestLine request = IsLine (λ n board judgement. IsJudgedOn false request.settings board None judgement) request

-- the judgement of a solution if opening or reading it stopped for a fault
abbrev pub stopped_by : RunFault → Judgement
stopped_by run.OutOfMemory = is.OutOfMemory None None
stopped_by fault = is.CannotRead

-- the judgement of the solution in a file is right: that of what was read, or that reading it stopped. `seen` is what
-- contracts see of a file
pub data IsJudgedFile {File : Type 0} (seen : File → Seen) (proves : Bool) (set : Settings) (board : Result Board LevelFault)
    (file : File) (judgement : Judgement) : Type 0 where
  unread : (read : File) (fault : RunFault) → Stops (seen file) (seen read) fault → judgement ≡ stopped_by fault →
      IsJudgedFile seen proves set board file judgement
  judged : (read : File) (text : Option (List ℕ)) → ReadsIfSome (seen file) (seen read) text →
      IsJudgedWith proves set board text judgement → IsJudgedFile seen proves set board file judgement

-- the judgement of the solution of level n is right, by what opening it gave: there is none; or opening it failed; or it
-- is in a file, from which nothing was read before. `opened` states what opening the solution of a level gave
pub data IsJudgedFrom {File : Type 0} (opened : ℕ → Result (Option File) RunFault → Type 0) (seen : File → Seen)
    (proves : Bool) (set : Settings) (n : ℕ) (board : Result Board LevelFault) (judgement : Judgement) : Type 0 where
  missing : opened n (Ok None) → judgement ≡ is.Missing → IsJudgedFrom opened seen proves set n board judgement
  unopened : (fault : RunFault) → opened n (Err fault) → judgement ≡ stopped_by fault →
      IsJudgedFrom opened seen proves set n board judgement
  read : (file : File) → opened n (Ok (Some file)) → (seen file).acts ≡ [] →
      IsJudgedFile seen proves set board file judgement → IsJudgedFrom opened seen proves set n board judgement

-- of `prove` or `replay` of a folder: a right judgement of its solution
abbrev pub IsProveLine : {File : Type 0} → (ℕ → Result (Option File) RunFault → Type 0) → (File → Seen) →
    LevelsRequest → ℕ → Listed → Reported → Type 0
IsProveLine opened seen request = IsLine (IsJudgedFrom opened seen request.proves request.settings) request

-- ---- all levels

-- a number is in a range, both ends included
abbrev pub IsBetween : ℕ → ℕ → ℕ → Type 0
IsBetween from to n = (from ≤ n) × (n ≤ to)

-- each of these levels, which are the first ones of a collection, is reported if its number is in the range; `IsRight`
-- states what is right for a level, by its number
pub data AreReported (IsRight : ℕ → Listed → Reported → Type 0) (from to : ℕ) : List Listed → List Reported → Type 0 where
  none : AreReported IsRight from to [] []
  outside : {listing : List Listed} {reported : List Reported} (listed : Listed) →
      AreReported IsRight from to listing reported → ¬ (IsBetween from to (suc (length listing))) →
      AreReported IsRight from to (listing ++ listed ∷ []) reported
  inside : {listing : List Listed} {reported : List Reported} (listed : Listed) (one : Reported) →
      AreReported IsRight from to listing reported → IsBetween from to (suc (length listing)) →
      IsRight (suc (length listing)) listed one →
      AreReported IsRight from to (listing ++ listed ∷ []) (reported ++ one ∷ [])

-- the lines of some levels, and how they count
abbrev pub lines_of : List Reported → List (List ℕ)
lines_of reported = map (λ one. one.text) reported

abbrev pub kinds_of : List Reported → List Kind
kinds_of reported = map (λ one. one.kind) reported

-- a folder of solutions, named by its path, has none of any of some levels
abbrev pub has_none : Option (List ℕ) → List Kind → Bool
has_none None kinds = false
has_none (Some folder) kinds = all_missing kinds

-- the last line of a report on some levels, with the path of a folder if their solutions are given: that it has none of
-- them; else their totals, except in a table
abbrev pub last_line : Option (List ℕ) → LevelsRequest → List Kind → List ℕ
last_line folder request kinds =
    if has_none folder kinds then line (codes "no solution in " ++ unwrap_or folder []) else
    if request.table then [] else totals_words (is_some folder) request.proves request.settings.cap kinds

-- its exit status
abbrev pub last_status : Option (List ℕ) → List Kind → ℕ
last_status folder kinds = cond (has_none folder kinds) 1 (worst_status kinds)

-- the last line and the exit status, by the number of levels of the collection: that there is no level of the first
-- number of the range, if there are fewer; else this line and this status
pub data EndsWith (from count : ℕ) (last : List ℕ) (worst : ℕ) : List ℕ → ℕ → Type 0 where
  beyond : count < from → EndsWith from count last worst (no_level from).text (no_level from).status
  within : from ≤ count → EndsWith from count last worst last worst

-- the levels are the first ones of the collection of these bytes
pub record BeginsListing (bytes : List ℕ) (listing : List Listed) : Type 0 where
  pub founds : List Found
  pub others : List Found
  pub all : IsCollection bytes (founds ++ others)
  pub each : AllZip IsListed listing founds

-- the lines and the status are the report of the levels of these bytes with numbers in the range of a request: a head
-- line, the line of each level, and the last line; a line may be empty, and then nothing is written of it. Without a
-- status the lines begin such a report: they are the head, and those of the levels so far
abbrev pub IsReport : (ℕ → Listed → Reported → Type 0) → Option (List ℕ) → LevelsRequest → List ℕ → List (List ℕ) →
    Option ℕ → Type 0
IsReport IsRight folder request bytes lines (Some status) =
    (listing : List Listed) × IsLevelListing bytes listing × (reported : List Reported) ×
    AreReported IsRight request.from request.to listing reported × (end : List ℕ) ×
    EndsWith request.from (length listing) (last_line folder request (kinds_of reported))
    (last_status folder (kinds_of reported)) end status ×
    (lines ≡ (head_of request.table ∷ lines_of reported) ++ end ∷ [])
IsReport IsRight folder request bytes lines None =
    (listing : List Listed) × BeginsListing bytes listing × (reported : List Reported) ×
    AreReported IsRight request.from request.to listing reported ×
    (lines ≡ head_of request.table ∷ lines_of reported)

-- What performing a request does: which engine runs, on which files, and with which settings.
use Rattle.std.specs.Prelude.{◌≡◌, ℕ, Bool, false, true, ◌⊎◌, ◌++◌, List, [], Option, Some, None, Result, Ok, Err, codes}
use Rattle.std.specs.Prelude.{decimal, ⊤}
use Rattle.sokopar.specs.DeadMap.{IsDeadReport}
use Rattle.sokopar.specs.Ends.{Seen}
use Rattle.sokopar.specs.OneReport.{IsOnlySolveReport}
use Rattle.sokopar.specs.Explaining.{IsExplainReport}
use Rattle.sokopar.specs.Levels.{IsBestLine, IsProveLine, IsReport}
use Rattle.sokopar.specs.OneLevel.{IsLevelReport}
use Rattle.sokopar.specs.Report.{Report, IsCheckReport, IsReplayReport, IsShowReport}
use Rattle.sokopar.specs.Runs.{Reads, ReadsBeside, Runs, RunsByLine, WithSolution}
use Rattle.sokopar.specs.Showing.{IsRangeReport}
use Rattle.sokopar.specs.declared.fault.RunFault.{RunFault}
use Rattle.sokopar.specs.declared.fault.RunFault.TheVariants.{OutOfMemory}
use Rattle.cli.specs.CommandLine.{IsNoRequest, IsRequestOf}
use Rattle.cli.specs.declared.request.Request.{Request}
use Rattle.cli.specs.declared.request.Task.{Task}
use Rattle.cli.specs.declared.request.Task.TheVariants.{Check, Explain, Show, ShowRange, Dead, Replay, Solve, Best}
use Rattle.cli.specs.declared.request.Task.TheVariants.{BestCollection, Prove, ProveCollection}
use Rattle.cli.specs.declared.trouble.Trouble.{Trouble}
use Rattle.cli.specs.declared.trouble.Trouble.TheVariants as trouble

-- the file is one that opening this path gave, and nothing was read from it
abbrev pub IsOpened : {File : Type 0} → (List ℕ → Option File → Type 0) → (File → Seen) → List ℕ → File → Type 0
IsOpened opens seen path file = opens path (Some file) × ((seen file).acts ≡ [])

-- what opening a path gave, if there is a file: that file, or that there is none, or that opening it failed
abbrev pub MayOpen : {File : Type 0} → (List ℕ → Option File → Type 0) → (List ℕ → Type 0) → List ℕ →
    Result (Option File) RunFault → Type 0
MayOpen opens refuses path (Ok file) = opens path file
MayOpen opens refuses path (Err OutOfMemory) = ⊤
MayOpen opens refuses path (Err fault) = refuses path

-- what opening the solution of level n in a folder gave, the file `n.lurd`
abbrev pub OpensSolution : {File : Type 0} → (List ℕ → Option File → Type 0) → (List ℕ → Type 0) → List ℕ → ℕ →
    Result (Option File) RunFault → Type 0
OpensSolution opens refuses folder n =
    MayOpen opens refuses (folder ++ codes "/" ++ decimal n ++ codes ".lurd")

-- opening this path failed; or memory ran out, and no path is named
abbrev pub CannotOpen : (List ℕ → Type 0) → List ℕ → Trouble → Type 0
CannotOpen refuses path (trouble.Open named) = (named.now ≡ path) × refuses path
CannotOpen refuses path (trouble.Run fault) = fault ≡ OutOfMemory

-- the solution of the task, or the folder of its solutions, could not be opened, or memory ran out
abbrev pub CannotOpenSolution : (List ℕ → Type 0) → Task → Trouble → Type 0
CannotOpenSolution refuses (Replay number solution) why = CannotOpen refuses solution.now why
CannotOpenSolution refuses (Prove search solution) why = CannotOpen refuses solution.now why
CannotOpenSolution refuses (ProveCollection search folder) why = CannotOpen refuses folder.now why
CannotOpenSolution refuses task why = ⊥

-- the result of an engine as that of its task
abbrev pub passed_on : Result ℕ RunFault → Result ℕ Trouble
passed_on (Ok status) = Ok status
passed_on (Err fault) = Err (trouble.Run fault)

-- the exit status where there is no whole report
abbrev pub trouble_status : Trouble → ℕ
trouble_status (trouble.Run OutOfMemory) = 5
trouble_status other = 3

-- the exit status where no request is performed: memory ran out; or the words are no request, and the program prints
-- help or the version, finds a fault in the words, or cannot print
abbrev pub ExitsWithout : List (List ℕ) → ℕ → Type 0
ExitsWithout words status = (status ≡ 5) ⊎ (IsNoRequest words × ((status ≡ 0) ⊎ (status ≡ 2) ⊎ (status ≡ 3)))

-- `opens` says what opening a path gives, a file or that there is none, `refuses` of which paths it fails, `seen` what
-- contracts see of a file, `output` and `written` what they see of the output before and after
module _ {File : Type 0} (opens : List ℕ → Option File → Type 0) (refuses : List ℕ → Type 0) (seen : File → Seen)
    (output written : Seen) where
  -- an engine with these reports of level n ran on the collection and on the file of a solution at this path
  abbrev pub RunsOnTwo : Bool → (List ℕ → Option (List ℕ) → Report → Type 0) → ℕ → List ℕ → Seen → Seen →
      Result ℕ RunFault → Type 0
  RunsOnTwo lurd IsReport n path source read result =
      (file : File) × (file_read : File) × IsOpened opens seen path file ×
      Runs (ReadsBeside n source read (seen file) (seen file_read)) lurd
      (WithSolution IsReport (seen file) (seen file_read)) output written result

  -- the engine of the task ran with its settings on the collection, of which contracts see `source` before and `read`
  -- after it, and on the file of the solution, and ended with this result
  abbrev pub RunsEngine : Task → Seen → Seen → Result ℕ RunFault → Type 0
  RunsEngine Check source read = Runs (Reads source read) false IsCheckReport output written
  RunsEngine (Explain number) source read = Runs (Reads source read) false (IsExplainReport number) output written
  RunsEngine (Show number) source read = Runs (Reads source read) false (IsShowReport number) output written
  RunsEngine (ShowRange from to) source read = Runs (Reads source read) false (IsRangeReport from to) output written
  RunsEngine (Dead number) source read = Runs (Reads source read) false (IsDeadReport number) output written
  RunsEngine (Replay number solution) source read =
      RunsOnTwo false (IsReplayReport number) number solution.now source read
  RunsEngine (Solve search) source read =
      Runs (Reads source read) search.lurd
      (IsOnlySolveReport search.config.cap search.config.limit search.number) output written
  RunsEngine (Best search) source read =
      Runs (Reads source read) search.lurd
      (λ bytes. IsLevelReport false search.settings search.number bytes None) output written
  RunsEngine (BestCollection search) source read =
      RunsByLine (IsReport (IsBestLine search) None search) source read output written
  RunsEngine (Prove search solution) source read =
      RunsOnTwo search.lurd (IsLevelReport true search.settings search.number) search.number solution.now source read
  RunsEngine (ProveCollection search folder) source read =
      RunsByLine
      (IsReport (IsProveLine (OpensSolution opens refuses folder.now) seen search) (Some folder.now) search)
      source read output written

  -- what performing a task on the file at this path does, by its result: its engine ran on its files, which were opened
  -- before; or one of them could not be opened, and nothing was written
  abbrev pub Performs : List ℕ → Task → Result ℕ Trouble → Type 0
  Performs path task result =
      ((file : File) × (read : File) × (ran : Result ℕ RunFault) × IsOpened opens seen path file ×
      RunsEngine task (seen file) (seen read) ran × (result ≡ passed_on ran)) ⊎
      ((why : Trouble) × (result ≡ Err why) ×
      (CannotOpen refuses path why ⊎ CannotOpenSolution refuses task why) × (written ≡ output))

  -- the program's exit status for a request: that of the report, or that of the trouble
  abbrev pub Exits : Request → ℕ → Type 0
  Exits request status =
      Performs request.file.now request.task (Ok status) ⊎
      ((why : Trouble) × Performs request.file.now request.task (Err why) × (status ≡ trouble_status why))

  -- what the program does for the words of its command line, by its exit status: it performs the request that they
  -- are; or it performs none, and no engine writes to the output
  abbrev pub Answers : List (List ℕ) → ℕ → Type 0
  Answers words status =
      ((request : Request) × IsRequestOf words request × Exits request status) ⊎
      ((written ≡ output) × ExitsWithout words status)

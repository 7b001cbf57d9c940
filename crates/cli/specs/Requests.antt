-- What a command line asks for.
use Rattle.std.specs.Prelude.{◌≡◌, ℕ, ◌≤◌, Bool, false, true, List, Option, Some, codes, ⊤}
use Rattle.clap.specs.Walk.{Row}
use Rattle.crew.specs.Configured.{IsWithinLimits}
use Rattle.sokopar.specs.declared.engines.SolveRequest.{SolveRequest}
use Rattle.judging.specs.declared.judgement.Settings.{Settings}
use Rattle.cli.specs.declared.arguments.TheConstants.{MOST, MOST_LOCKS, MOST_WORKERS}
use Rattle.cli.specs.declared.request.Request.{Request}
use Rattle.cli.specs.declared.request.Task.{Task}
use Rattle.cli.specs.declared.request.Task.TheVariants.{Check, Explain, Show, ShowRange, Dead, Replay, Solve, Best}
use Rattle.cli.specs.declared.request.Task.TheVariants.{BestCollection, Prove, ProveCollection}
use Rattle.cli.specs.declared.subcommands.Subcommand.{Subcommand}
use Rattle.cli.specs.declared.subcommands.Subcommand.TheVariants as subcommand
use Rattle.cli.specs.Words.{HasFlag, HasNumber, HasNumberOr, HasText, LacksText, MayHaveNumber, word_of}

-- the level and the settings of `solve` are the numbers of the arguments; it writes only the solution exactly if the
-- flag is given
pub record AsksToSolve (arguments : List Row) (search : SolveRequest) : Type 0 where
  pub level : HasNumber arguments (codes "N") MOST search.number
  pub workers : HasNumber arguments (codes "workers") MOST_WORKERS search.config.workers
  pub locks : HasNumber arguments (codes "locks") MOST_LOCKS search.config.locks
  pub limit : HasNumber arguments (codes "limit") MOST search.config.limit
  pub cap : MayHaveNumber arguments (codes "max-pushes") 0 MOST search.config.cap
  pub lurd : HasFlag arguments (codes "lurd") search.lurd

-- the workers and the limits of `best` and `prove` are the numbers of the arguments, and they may lack one of seconds;
-- they look for the fewest moves exactly if the flag is given
pub record HasSettings (arguments : List Row) (workers : ℕ) (config : Settings) : Type 0 where
  pub given_workers : HasNumber arguments (codes "workers") MOST_WORKERS workers
  pub given_limit : HasNumber arguments (codes "limit") MOST config.limit
  pub given_seconds : MayHaveNumber arguments (codes "seconds") 1 MOST config.seconds
  pub given_moves : HasFlag arguments (codes "moves") config.moves

-- the settings of `best`, with the cap of pushes, if one is given
pub record HasConfig (arguments : List Row) (workers : ℕ) (config : Settings) : Type 0 where
  pub settings : HasSettings arguments workers config
  pub cap : MayHaveNumber arguments (codes "max-pushes") 0 MOST config.cap

-- the level is the number of its argument, and neither a range of levels nor the flag for a table is given
pub record NamesLevel (arguments : List Row) (number : ℕ) : Type 0 where
  pub given_number : HasNumber arguments (codes "N") MOST number
  pub no_first : LacksText arguments (codes "from")
  pub no_last : LacksText arguments (codes "to")
  pub no_table : HasFlag arguments (codes "table") false

-- no level is given, and no flag to write only the solution, and the range of levels has the numbers of the arguments:
-- without them it begins at 1 and has no end, and it does not end before it begins
pub record NamesRange (arguments : List Row) (from to : ℕ) : Type 0 where
  pub no_level : LacksText arguments (codes "N")
  pub no_lurd : HasFlag arguments (codes "lurd") false
  pub first : HasNumberOr arguments (codes "from") 1 1 MOST from
  pub last : HasNumberOr arguments (codes "to") MOST from MOST to

-- the arguments of a subcommand ask for this task: its paths are their texts, its numbers their numbers
abbrev pub AsksTask : Subcommand → List Row → Task → Type 0
AsksTask subcommand.Check arguments Check = ⊤
AsksTask subcommand.Explain arguments (Explain number) = MayHaveNumber arguments (codes "N") 1 MOST number
AsksTask subcommand.Show arguments (Show number) = NamesLevel arguments number
AsksTask subcommand.Show arguments (ShowRange from to) = NamesRange arguments from to
AsksTask subcommand.Dead arguments (Dead number) = HasNumber arguments (codes "N") MOST number
AsksTask subcommand.Replay arguments (Replay number solution) =
    NamesLevel arguments number × HasText arguments (codes "SOLUTION") solution.now ×
    LacksText arguments (codes "solutions")
AsksTask subcommand.Replay arguments (ProveCollection search folder) =
    NamesRange arguments search.from search.to × HasFlag arguments (codes "table") search.table ×
    (search.proves ≡ false) ×
    HasText arguments (codes "solutions") folder.now × LacksText arguments (codes "SOLUTION")
AsksTask subcommand.Solve arguments (Solve search) = AsksToSolve arguments search
AsksTask subcommand.Best arguments (Best search) =
    NamesLevel arguments search.number × HasFlag arguments (codes "lurd") search.lurd ×
    HasConfig arguments search.workers search.settings
AsksTask subcommand.Best arguments (BestCollection search) =
    NamesRange arguments search.from search.to × HasFlag arguments (codes "table") search.table ×
    HasConfig arguments search.workers search.settings
AsksTask subcommand.Prove arguments (Prove search solution) =
    NamesLevel arguments search.number × HasFlag arguments (codes "lurd") search.lurd ×
    HasSettings arguments search.workers search.settings ×
    HasText arguments (codes "SOLUTION") solution.now × LacksText arguments (codes "solutions")
AsksTask subcommand.Prove arguments (ProveCollection search folder) =
    NamesRange arguments search.from search.to × HasFlag arguments (codes "table") search.table ×
    (search.proves ≡ true) ×
    HasSettings arguments search.workers search.settings ×
    HasText arguments (codes "solutions") folder.now × LacksText arguments (codes "SOLUTION")
AsksTask subcommand arguments task = ⊥

-- the arguments of a subcommand ask for this request
pub record Asks (subcommand : Subcommand) (arguments : List Row) (request : Request) : Type 0 where
  pub file : HasText arguments (codes "FILE") request.file.now
  pub task : AsksTask subcommand arguments request.task
  pub progress : HasFlag arguments (codes "progress") request.progress

-- the subcommand that was found and its arguments ask for this request
abbrev pub AsksFor : Option (List ℕ × List Row) → Request → Type 0
AsksFor found request =
    (subcommand : Subcommand) × (arguments : List Row) × (found ≡ Some (word_of subcommand, arguments)) ×
    Asks subcommand arguments request

-- the subcommand that was found and its arguments ask for no request
abbrev pub AsksForNone : Option (List ℕ × List Row) → Type 0
AsksForNone found = (request : Request) → ¬ (AsksFor found request)

-- levels count from 1, and the settings of `solve` are within their limits
abbrev pub IsInRange : Task → Type 0
IsInRange (Show number) = 1 ≤ number
IsInRange (Dead number) = 1 ≤ number
IsInRange (Replay number solution) = 1 ≤ number
IsInRange (Solve search) = (1 ≤ search.number) × IsWithinLimits search.config
IsInRange (Best search) = 1 ≤ search.number
IsInRange (Prove search solution) = 1 ≤ search.number
IsInRange task = ⊤

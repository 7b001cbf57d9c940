-- The command line of the program: its subcommands, their arguments, and which request some words are.
use Rattle.std.specs.Prelude.{◌≡◌, ℕ, List, [], ◌∷◌, Some, true, codes, fold, map}
use Rattle.clap.specs.Faults.{fault_of}
use Rattle.clap.specs.Simple.{App, Shape, new_rule, new_shape, subcommand_of, subcommand_rows_of, with_rule}
use Rattle.clap.specs.Simple.{with_subcommand}
use Rattle.clap.specs.Walk.{Rule}
use Rattle.clap.specs.declared.builder.action.ArgAction.TheVariants.{SetTrue}
use Rattle.clap.specs.declared.parser.matches.ArgMatches.{ArgMatches}
use Rattle.cli.specs.declared.arguments.Argument.{Argument}
use Rattle.cli.specs.declared.arguments.Argument.TheVariants.{File, Number, OptionalNumber, OptionalSolution}
use Rattle.cli.specs.declared.arguments.Argument.TheVariants.{Solutions, Workers, Locks}
use Rattle.cli.specs.declared.arguments.Argument.TheVariants.{Limit, Seconds, MaxPushes, From, To, Moves, Table, Lurd}
use Rattle.cli.specs.declared.arguments.Argument.TheVariants.{Progress}
use Rattle.cli.specs.declared.request.Request.{Request}
use Rattle.cli.specs.declared.subcommands.Subcommand.{Subcommand}
use Rattle.cli.specs.declared.subcommands.Subcommand.TheVariants.{Check, Explain, Show, Dead, Replay, Solve, Best, Prove}
use Rattle.cli.specs.Requests.{AsksFor}
use Rattle.cli.specs.Words.{word_of}

-- the arguments of each subcommand
abbrev pub arguments_of : Subcommand → List Argument
arguments_of Check = File ∷ []
arguments_of Explain = File ∷ OptionalNumber ∷ []
arguments_of Show = File ∷ OptionalNumber ∷ From ∷ To ∷ []
arguments_of Dead = File ∷ Number ∷ []
arguments_of Replay = File ∷ OptionalNumber ∷ OptionalSolution ∷ Solutions ∷ From ∷ To ∷ Table ∷ []
arguments_of Solve = File ∷ Number ∷ Workers ∷ Locks ∷ Limit ∷ MaxPushes ∷ Lurd ∷ []
arguments_of Best = File ∷ OptionalNumber ∷ From ∷ To ∷ Workers ∷ Limit ∷ Seconds ∷ MaxPushes ∷ Moves ∷ Table ∷
    Lurd ∷ Progress ∷ []
arguments_of Prove = File ∷ OptionalNumber ∷ OptionalSolution ∷ Solutions ∷ From ∷ To ∷ Workers ∷ Limit ∷
    Seconds ∷ Moves ∷ Table ∷ Lurd ∷ Progress ∷ []

-- clap's rule for an operand that must be given, and for one that may be left out
abbrev pub operand : List ℕ → Rule
operand name = record (new_rule name) { required = true }

abbrev pub optional_operand : List ℕ → Rule
optional_operand name = new_rule name

-- clap's rule for an option `--NAME VALUE`, and for one with a default
abbrev pub option : List ℕ → Rule
option name = record (new_rule name) { long = Some name; value_names = 1 }

abbrev pub option_or : List ℕ → List ℕ → Rule
option_or name default = record (option name) { defaults = default ∷ [] }

-- clap's rule for a flag `--NAME`
abbrev pub flag : List ℕ → Rule
flag name = record (new_rule name) { long = Some name; action = Some SetTrue }

-- the names and the defaults of the arguments
abbrev pub rule_for : Argument → Rule
rule_for File = operand (codes "FILE")
rule_for Number = operand (codes "N")
rule_for OptionalNumber = optional_operand (codes "N")
rule_for OptionalSolution = optional_operand (codes "SOLUTION")
rule_for Solutions = option (codes "solutions")
rule_for Workers = option_or (codes "workers") (codes "1")
rule_for Locks = option_or (codes "locks") (codes "1")
rule_for Limit = option_or (codes "limit") (codes "1000000")
rule_for Seconds = option (codes "seconds")
rule_for MaxPushes = option (codes "max-pushes")
rule_for From = option (codes "from")
rule_for To = option (codes "to")
rule_for Moves = flag (codes "moves")
rule_for Table = flag (codes "table")
rule_for Progress = flag (codes "progress")
rule_for Lurd = flag (codes "lurd")

-- a command line with one argument more
abbrev pub with_argument : App → Argument → App
with_argument line argument = with_rule line (rule_for argument)

-- a subcommand with its arguments
abbrev pub shape_for : Subcommand → Shape
shape_for subcommand = record (new_shape (word_of subcommand)) { rules = map rule_for (arguments_of subcommand) }

-- the subcommands, in the order of the help text
abbrev pub all_subcommands : List Subcommand
all_subcommands = Check ∷ Explain ∷ Show ∷ Dead ∷ Replay ∷ Solve ∷ Best ∷ Prove ∷ []

-- the program's command line without its subcommands: it has a version, and a subcommand must be given
abbrev pub bare_program : App
bare_program = record {
  top = record (new_shape (codes "sokopar")) { has_version = true; subcommand_required = true };
  subs = [];
}

-- a command line with one subcommand more
abbrev pub with_command : App → Subcommand → App
with_command line subcommand = with_subcommand line (shape_for subcommand)

-- the program's command line
abbrev pub program : App
program = fold with_command bare_program all_subcommands

-- the words of a command line, of which the first is the program's name, are this request: clap finds no fault in them,
-- and the subcommand that it finds in them and the texts of its arguments ask for the request
pub record IsRequestOf (words : List (List ℕ)) (request : Request) : Type 0 where
  pub accepted : fault_of program words ≡ []
  pub asks : AsksFor (subcommand_of program words) request

-- the words are no request
abbrev pub IsNoRequest : List (List ℕ) → Type 0
IsNoRequest words = (request : Request) → ¬ (IsRequestOf words request)

-- clap finds no fault in the words, and these are the subcommand and the arguments that it finds in them
pub record AreMatchesOf (words : List (List ℕ)) (matches : ArgMatches) : Type 0 where
  pub accepted : fault_of program words ≡ []
  pub found : subcommand_rows_of matches ≡ subcommand_of program words

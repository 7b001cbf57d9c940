-- What clap finds in the words of a command line.
use Rattle.std.proofs.Common.{◌≡◌, ◌≢◌, ◌⊎◌, ◌∙◌, ◌==◌, ◌&&◌, ℕ, Bool, true, false, not, List, [], Option, Some, None}
use Rattle.std.proofs.Common.{Result, Ok, Err, is_some, slice_index, if◌then◌else◌, fold, take, get_or, length, ◌<◌}
use Rattle.std.proofs.Common.{◌+◌, refl, sym, ap, subst, inl, inr, arith}
use Rattle.std.proofs.lemmas.List.Sums.{fold_more}
use Rattle.std.specs.Prelude.{IfOk, IfErr}
use Rattle.clap.specs.Built.{AddsArg, AddsSubcommand}
use Rattle.clap.specs.Faults.{fault_of, is_simple_and_free}
use Rattle.clap.specs.Kinds.{FailsBy, IsAmong, Kinds}
use Rattle.clap.specs.Simple.{App, HasMatchesOf, app_of, is_simple, subcommand_of, subcommand_rows_of, with_rule}
use Rattle.clap.specs.Simple.{with_subcommand}
use Rattle.clap.specs.Values.{kind_of}
use Rattle.clap.specs.Walk.{Row, is_empty, is_simple_arg, rule_of}
use Rattle.clap.specs.declared.builder.arg.Arg.{Arg}
use Rattle.clap.specs.declared.builder.command.Command.{Command}
use Rattle.clap.specs.declared.builder.command.Command.TheViews.{out-Command}
use Rattle.clap.specs.declared.error.Error.{Error}
use Rattle.clap.specs.declared.error.kind.ErrorKind.TheVariants.{OutOfMemory}
use Rattle.clap.specs.declared.parser.matches.ArgMatches.{ArgMatches}
use Rattle.cli.specs.declared.arguments.Argument.{Argument}
use Rattle.cli.specs.declared.arguments.Argument.TheVariants as argument
use Rattle.cli.specs.declared.request.Request.{Request}
use Rattle.cli.specs.declared.subcommands.Subcommand.{Subcommand}
use Rattle.cli.specs.declared.subcommands.Subcommand.TheVariants.{Check, Explain, Show, Dead, Replay, Solve, Best, Prove}
use Rattle.cli.specs.CommandLine.{AreMatchesOf, IsNoRequest, program, rule_for, shape_for, with_argument, with_command}
use Rattle.cli.specs.Requests.{Asks, AsksFor, AsksForNone}
use Rattle.cli.specs.Words.{word_of}

-- the parts of a conjunction
last_of_both : (x y : Bool) → (x && y) ≡ true → y ≡ true
last_of_both true y both = both
last_of_both false y both = absurd (cc)

is_false : (x : Bool) → not x ≡ true → x ≡ false
is_false true bad = absurd (cc)
is_false false holds = refl

-- the arguments are simple, so they are not global
is_simple_rule : (a : Argument) → (rule_for a).is_simple ≡ true
is_simple_rule argument.File = refl
is_simple_rule argument.Number = refl
is_simple_rule argument.OptionalNumber = refl
is_simple_rule argument.OptionalSolution = refl
is_simple_rule argument.Solutions = refl
is_simple_rule argument.Workers = refl
is_simple_rule argument.Locks = refl
is_simple_rule argument.Limit = refl
is_simple_rule argument.Seconds = refl
is_simple_rule argument.MaxPushes = refl
is_simple_rule argument.From = refl
is_simple_rule argument.To = refl
is_simple_rule argument.Moves = refl
is_simple_rule argument.Table = refl
is_simple_rule argument.Progress = refl
is_simple_rule argument.Lurd = refl

not_global : (a : Arg) → is_simple_arg a ≡ true → a.global ≡ false
not_global a simple =
    let plain_text = last_of_both (is_empty a.overrides.items) _ simple in
    let plain_default = last_of_both (is_empty a.default_vals_ifs.items) _ plain_text in
    let no_group = last_of_both (is_empty a.groups.items) _ plain_default in
    let no_delimiter = last_of_both (not (is_some a.val_delim)) _ no_group in
    let no_terminator = last_of_both (not (is_some a.terminator)) _ no_delimiter in
    let no_hyphens = last_of_both (not a.allow_hyphen_values) _ no_terminator in
    let no_negatives = last_of_both (not a.allow_negative_numbers) _ no_hyphens in
    let no_equals = last_of_both (not a.require_equals) _ no_negatives in
    is_false a.global (last_of_both (not a.last) (not a.global) no_equals)

argument_added : (old new : Command) (a : Arg) (kind : Argument) → AddsArg old a new → rule_of a ≡ rule_for kind
    → app_of new ≡ with_argument (app_of old) kind
argument_added old new a kind adds is =
    adds.shape (not_global a (ap (λ r. r.is_simple) is ∙ is_simple_rule kind)) ∙ ap (with_rule (app_of old)) is

pub argument_step : (start : App) (old new : Command) (a : Arg) (xs : List Argument) (i : ℕ) (d : Argument)
    → i < length xs → AddsArg old a new → rule_of a ≡ rule_for (get_or xs i d)
    → app_of old ≡ fold with_argument start (take i xs) → app_of new ≡ fold with_argument start (take (i + 1) xs)
argument_step start old new a xs i d inside adds is before =
    argument_added old new a (get_or xs i d) adds is ∙ ap (λ line. with_argument line (get_or xs i d)) before
    ∙ sym (fold_more with_argument start xs i d inside)

-- a subcommand is plain, so it has no global argument
no_globals : (sub : Command) → (app_of sub).top.is_plain ≡ true → (out-Command sub).has_globals ≡ false
no_globals sub plain = grind arith

command_added : (old sub new : Command) (kind : Subcommand) → AddsSubcommand old sub new
    → app_of sub ≡ record { top = shape_for kind; subs = [] } → app_of new ≡ with_command (app_of old) kind
command_added old sub new kind adds is =
    adds.shape (no_globals sub (ap (λ a. a.top.is_plain) is)) ∙ ap (λ a. with_subcommand (app_of old) a.top) is

pub command_step : (start : App) (old sub new : Command) (xs : List Subcommand) (i : ℕ) (d : Subcommand)
    → i < length xs → AddsSubcommand old sub new → app_of sub ≡ record { top = shape_for (get_or xs i d); subs = [] }
    → app_of old ≡ fold with_command start (take i xs) → app_of new ≡ fold with_command start (take (i + 1) xs)
command_step start old sub new xs i d inside adds is before =
    command_added old sub new (get_or xs i d) adds is ∙ ap (λ line. with_command line (get_or xs i d)) before
    ∙ sym (fold_more with_command start xs i d inside)

-- clap says which words it takes, and what it finds in them
program_is_simple : is_simple program ≡ true
program_is_simple = refl

program_is_free : is_simple_and_free program ≡ true
program_is_free = refl

pub accepted : (app : App) (words : List (List ℕ)) (result : Result ArgMatches Error) → app ≡ program
    → IfOk result (HasMatchesOf app words) → (is_simple_and_free app ≡ true → FailsBy (fault_of app words) result)
    → IfOk result (AreMatchesOf words)
accepted app words (Err error) is has fails = tt
accepted app words (Ok m) is has fails = record {
  accepted = ap (λ a. fault_of a words) (sym is) ∙ fails (ap is_simple_and_free is ∙ program_is_free);
  found = (has (ap is_simple is ∙ program_is_simple)).1 ∙ ap (λ a. subcommand_of a words) is;
}

among_none : (kinds : Kinds) (error : Error) → IsAmong (kind_of error) kinds → kinds ≢ []
among_none kinds error among none = subst (IsAmong (kind_of error)) none among

pub refused : (app : App) (words : List (List ℕ)) (result : Result ArgMatches Error) → app ≡ program
    → (is_simple_and_free app ≡ true → FailsBy (fault_of app words) result)
    → IfErr result (λ error. (kind_of error ≡ OutOfMemory) ⊎ (fault_of program words ≢ []))
refused app words (Ok m) is fails = tt
refused app words (Err error) is fails =
    elim (fails (ap is_simple_and_free is ∙ program_is_free)) [
      | inl memory ↦ inl memory
      | inr among ↦ inr (subst (λ a. fault_of a words ≢ []) is (among_none _ error among))
    ]

-- the words are no request if clap's matches ask for none
no_request_found : (words : List (List ℕ)) (m : ArgMatches) → AreMatchesOf words m
    → AsksForNone (subcommand_rows_of m) → IsNoRequest words
no_request_found words m is none = λ r asks. none r (subst (λ found. AsksFor found r) (sym is.found) asks.asks)

pub no_request : (words : List (List ℕ)) (m : ArgMatches) (result : Result Request Error) → AreMatchesOf words m
    → IfErr result (λ error. (kind_of error ≡ OutOfMemory) ⊎ AsksForNone (subcommand_rows_of m))
    → IfErr result (λ error. (kind_of error ≡ OutOfMemory) ⊎ IsNoRequest words)
no_request words m (Ok r) is bad = tt
no_request words m (Err error) is bad = elim bad [
  | inl memory ↦ inl memory
  | inr none ↦ inr (no_request_found words m is none)
]

-- the subcommand of a word
abbrev named : List ℕ → Subcommand
named word =
    if slice_index word 0 == 99 then Check
    else if slice_index word 0 == 101 then Explain
    else if slice_index word 0 == 100 then Dead
    else if slice_index word 0 == 114 then Replay
    else if slice_index word 0 == 98 then Best
    else if slice_index word 0 == 112 then Prove
    else if slice_index word 1 == 104 then Show
    else Solve

named_word : (s : Subcommand) → named (word_of s) ≡ s
named_word s = grind arith

same_word : (s t : Subcommand) → word_of s ≡ word_of t → s ≡ t
same_word s t same = sym (named_word s) ∙ ap named same ∙ named_word t

abbrev word_in : Option (List ℕ × List Row) → List ℕ
word_in None = []
word_in (Some both) = both.0

abbrev rows_in : Option (List ℕ × List Row) → List Row
rows_in None = []
rows_in (Some both) = both.1

-- the arguments of a subcommand ask for nothing, so the command line does not
asks_for_none : (found : Option (List ℕ × List Row)) (s : Subcommand) (rows : List Row)
    → found ≡ Some (word_of s, rows) → ((r : Request) → ¬ (Asks s rows r)) → AsksForNone found
asks_for_none found s rows is none = λ r asks. bad r asks
  where
    bad : (r : Request) → AsksFor found r → ⊥
    bad r (t, others, has, asks) =
        let words : word_of t ≡ word_of s = ap word_in (sym has ∙ is) in
        let same : others ≡ rows = ap rows_in (sym has ∙ is) in
        none r (subst (λ u. Asks u rows r) (same_word t s words) (subst (λ given. Asks t given r) same asks))

-- so an error has a reason
pub refuses : (error : Error) (found : Option (List ℕ × List Row)) (s : Subcommand) (rows : List Row)
    → found ≡ Some (word_of s, rows) → ((r : Request) → ¬ (Asks s rows r))
    → (kind_of error ≡ OutOfMemory) ⊎ AsksForNone found
refuses error found s rows is none = inr (asks_for_none found s rows is none)

-- What the words of the command line say.
use Rattle.std.specs.Prelude.{◌≡◌, ◌&&◌, ℕ, nat_le, nat_lt, Bool, true, false, if◌then◌else◌, List, length, codes}
use Rattle.std.specs.Prelude.{Option, Some, None, option_and_then, option_map, unwrap_or}
use Rattle.std.specs.Str.{all_ascii_digits}
use Rattle.std.specs.Str.Parse.{digits_value}
use Rattle.clap.specs.declared.parser.matches.ArgMatches.{ArgMatches}
use Rattle.clap.specs.Matches.{found_of}
use Rattle.clap.specs.Walk.{Row, first_of, rows_of}
use Rattle.cli.specs.declared.subcommands.Subcommand.{Subcommand}
use Rattle.cli.specs.declared.subcommands.Subcommand.TheVariants.{Check, Explain, Show, Dead, Replay, Solve, Best, Prove}

-- the word for a subcommand
abbrev pub word_of : Subcommand → List ℕ
word_of Check = codes "check"
word_of Explain = codes "explain"
word_of Show = codes "show"
word_of Dead = codes "dead"
word_of Replay = codes "replay"
word_of Solve = codes "solve"
word_of Best = codes "best"
word_of Prove = codes "prove"

-- the arguments that clap found, each with its name and its texts
abbrev pub found_in : ArgMatches → List Row
found_in matches = rows_of (found_of matches)

-- the argument with this name has this text
abbrev pub HasText : List Row → List ℕ → List ℕ → Type 0
HasText arguments name text = first_of name arguments ≡ Some text

-- no argument has this name
abbrev pub LacksText : List Row → List ℕ → Type 0
LacksText arguments name = first_of name arguments ≡ None

-- whether the flag with this name is given: then its text is `true`
abbrev pub HasFlag : List Row → List ℕ → Bool → Type 0
HasFlag arguments name true = HasText arguments name (codes "true")
HasFlag arguments name false = ¬ (HasText arguments name (codes "true"))

-- the word is a number of a range, in decimal digits alone
abbrev pub is_number : ℕ → ℕ → List ℕ → Bool
is_number least most word =
    (nat_lt 0 (length word) && all_ascii_digits word) &&
    (nat_le least (digits_value 10 word) && nat_le (digits_value 10 word) most)

-- the number that a word is, if it is one of a range
unfoldable pub number_from : ℕ → ℕ → List ℕ → Option ℕ
number_from least most word = if is_number least most word then Some (digits_value 10 word) else None

-- the number that the text of the argument with this name is, if it is one from 1 to a greatest one
abbrev pub number_in : List Row → List ℕ → ℕ → Option ℕ
number_in arguments name most = option_and_then (number_from 1 most) (first_of name arguments)

-- the number that a text is, if it is one of a range; a text that is left out is no number, which is accepted
abbrev pub number_if_any : ℕ → ℕ → Option (List ℕ) → Option (Option ℕ)
number_if_any least most None = Some None
number_if_any least most (Some word) = option_map Some (number_from least most word)

abbrev pub number_if_given : List Row → List ℕ → ℕ → ℕ → Option (Option ℕ)
number_if_given arguments name least most = number_if_any least most (first_of name arguments)

-- the text of the argument with this name is this number, from 1 to a greatest one
abbrev pub HasNumber : List Row → List ℕ → ℕ → ℕ → Type 0
HasNumber arguments name most n = number_in arguments name most ≡ Some n

-- the argument with this name is left out, or its text is this number of a range
abbrev pub MayHaveNumber : List Row → List ℕ → ℕ → ℕ → Option ℕ → Type 0
MayHaveNumber arguments name least most number = number_if_given arguments name least most ≡ Some number

-- the text of the argument with this name is this number of a range; or the argument is left out, and the number is the
-- default
abbrev pub HasNumberOr : List Row → List ℕ → ℕ → ℕ → ℕ → ℕ → Type 0
HasNumberOr arguments name default least most n =
    option_map (λ number. unwrap_or number default) (number_if_given arguments name least most) ≡ Some n

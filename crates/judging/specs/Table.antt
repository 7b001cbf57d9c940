-- The line of a level in a report on several, in words or as a row of a table.
use Rattle.std.specs.Prelude.{ℕ, ◌==◌, if◌then◌else◌, Bool, true, false, cond, List, [], ◌∷◌, ◌++◌, flat_map}
use Rattle.std.specs.Prelude.{Result, Ok, Err, Option, Some, None, codes, decimal}
use Rattle.std.specs.List.{list_any}
use Rattle.grid.specs.Board.{Board}
use Rattle.grid.specs.Lawful.{box_count}
use Rattle.grid.specs.declared.fault.LevelFault.{LevelFault}
use Rattle.lurd.specs.Text.{bytes_of}
use Rattle.judging.specs.Kinds.{best_of, bound_of, found_of, given_of, kind_of, kind_word, limit_of, proved_of}
use Rattle.judging.specs.Words.{judgement_words, line}
use Rattle.judging.specs.declared.judgement.Counts.{Counts}
use Rattle.judging.specs.declared.judgement.Judgement.{Judgement}
use Rattle.judging.specs.declared.judgement.Judgement.TheVariants as is
use Rattle.judging.specs.declared.judgement.LimitKind.{LimitKind}
use Rattle.judging.specs.declared.judgement.LimitKind.TheVariants.{Positions, Seconds}
use Rattle.judging.specs.declared.judgement.Settings.{Settings}
use Rattle.judging.specs.declared.judgement.Solution.{Solution}

-- a board of a collection: its name, the number of its first line, and the level or the first fault of its cells
pub record Listed : Type 0 where
  pub name : List ℕ
  pub first_line : ℕ
  pub board : Result Board LevelFault

-- the letters of the solution that was found between two texts; nothing if there is none
abbrev pub letters_between : List ℕ → List ℕ → Option Solution → List ℕ
letters_between before after None = []
letters_between before after (Some s) = before ++ bytes_of s.letters ++ after

abbrev pub letters_line : Judgement → List ℕ
letters_line judgement = letters_between [] (10 ∷ []) (found_of judgement)

-- a tab and a number, or the tab alone
abbrev pub number_cell : Option ℕ → List ℕ
number_cell None = codes "\t"
number_cell (Some n) = codes "\t" ++ decimal n

-- a tab and words
abbrev pub word_cell : List ℕ → List ℕ
word_cell words = codes "\t" ++ words

-- the limit at which a search ended, if it did: of positions, or of seconds
abbrev pub limit_cell : Settings → Option LimitKind → List ℕ
limit_cell set None = number_cell None
limit_cell set (Some Positions) = number_cell (Some set.limit)
limit_cell set (Some Seconds) = number_cell set.seconds ++ codes " s"

-- the numbers of pushes and moves of a solution, if there is one
abbrev pub counts_cells : Option Counts → List ℕ
counts_cells None = number_cell None ++ number_cell None
counts_cells (Some counts) = number_cell (Some counts.pushes) ++ number_cell (Some counts.moves)

-- how many boxes a lawful level has
abbrev pub boxes_of : Result Board LevelFault → Option ℕ
boxes_of (Ok board) = Some (box_count board)
boxes_of (Err fault) = None

-- a byte of a name: a space for a tab, two quotes for a quote
abbrev pub cell_bytes : ℕ → List ℕ
cell_bytes b = if b == 9 then codes " " else if b == 34 then codes "\"\"" else b ∷ []

-- a tab and a name, between quotes if it has one
abbrev pub quote_of : List ℕ → List ℕ
quote_of name = cond (list_any (λ b. b == 34) name) (codes "\"") (codes "")

abbrev pub name_cell : List ℕ → List ℕ
name_cell name = codes "\t" ++ quote_of name ++ flat_map cell_bytes name ++ quote_of name

-- the row of level n
abbrev pub row : Settings → ℕ → Listed → Judgement → List ℕ
row set n listed judgement =
    line
    (decimal n ++ number_cell (Some listed.first_line) ++ number_cell (boxes_of listed.board) ++
    word_cell (kind_word (kind_of judgement)) ++ word_cell (proved_of judgement) ++ counts_cells (given_of judgement) ++
    counts_cells (best_of judgement) ++ number_cell (bound_of judgement) ++ limit_cell set (limit_of judgement) ++
    name_cell listed.name ++ word_cell (letters_between [] [] (found_of judgement)))

-- the line of level n: nothing if no solution is given, a row in a table, else its number and its words
abbrev pub level_line : Bool → Settings → ℕ → Listed → Judgement → List ℕ
level_line table set n listed is.Missing = []
level_line true set n listed judgement = row set n listed judgement
level_line false set n listed judgement =
    line (decimal n ++ codes " " ++ judgement_words set judgement ++ letters_between (codes "  ") [] (found_of judgement))

-- the first line of a report on levels: a table has the names of its columns
abbrev pub table_head : List ℕ
table_head =
    line
    (codes "level\tline\tboxes\tverdict\tproved\tgiven_pushes\tgiven_moves\tpushes\tmoves\tat_least\tlimit\tname\tsolution")

abbrev pub head_of : Bool → List ℕ
head_of true = table_head
head_of false = []

-- Words of bits that tell where a pushed box may be held on both axes.
use Rattle.std.specs.Prelude.{◌≡◌, ℕ, ◌+◌, ◌*◌, ◌<◌, false, List, length, Some, slice_get}
use Rattle.grid.specs.declared.dir.Dir.{Dir}
use Rattle.grid.specs.declared.dir.Dir.TheVariants.{D, L, R, U}
use Rattle.grid.specs.declared.masks.TheConstants.{WORD_BITS}
use Rattle.grid.specs.Board.{Board, next}
use Rattle.grid.specs.Squares.{Squares, insert, remove}
use Rattle.area.specs.Words.{word_bit}
use Rattle.doom.specs.declared.dangers.Danger.{Danger}
use Rattle.doom.specs.Deadlocks.{IsDead}
use Rattle.doom.specs.Loose.{IsLoose}

-- the word for a direction
abbrev pub danger_word : Dir → Danger → ℕ
danger_word D m = m.d
danger_word L m = m.l
danger_word R m = m.r
danger_word U m = m.u

-- a box that is pushed onto the square in the direction is loose there, unless the square is dead
abbrev pub IsSpared : Board → Squares → Dir → ℕ → Type 0
IsSpared board boxes d q =
    (from : ℕ) → q ≡ next board from d → from < length board.cells → ¬ (IsDead board q) →
    IsLoose board (insert (remove boxes from) q) q

-- where a word has no bit for a direction, a box pushed in that direction onto the square is loose
abbrev pub TellsDanger : Board → Squares → ℕ → Danger → Type 0
TellsDanger board boxes place danger =
    (d : Dir) (j : ℕ) → j < WORD_BITS → word_bit (danger_word d danger) j ≡ false →
    IsSpared board boxes d (WORD_BITS * place + j)

-- the list has the dangers of the squares of its words
abbrev pub AreDangers : Board → Squares → List Danger → Type 0
AreDangers board boxes words =
    (place : ℕ) (danger : Danger) → slice_get words place ≡ Some danger → TellsDanger board boxes place danger

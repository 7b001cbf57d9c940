-- Ways round a square, and what a push opens and cuts off.
use Rattle.std.specs.Prelude.{◌≡◌, ◌≢◌, ℕ, ◌<◌, ◌≤◌, true, ◌⊎◌, length}
use Rattle.grid.specs.declared.dir.Dir.{Dir}
use Rattle.grid.specs.declared.dir.Dir.TheVariants.{D, L, R, U}
use Rattle.grid.specs.Squares.{Squares, contains, insert, remove}
use Rattle.grid.specs.Board.{Board, is_wall, next, opposite}

-- one of the two directions at right angles to a direction
abbrev pub across : Dir → Dir
across D = R
across L = D
across R = D
across U = R

-- the second direction is at right angles to the first
abbrev pub IsAcross : Dir → Dir → Type 0
IsAcross d e = (e ≡ across d) ⊎ (e ≡ opposite (across d))

-- steps over squares of a set, except `but`, lead from the square `from` to a square
pub data Skirts (board : Board) (set : Squares) (but from : ℕ) : ℕ → Type 0 where
  here : Skirts board set but from from
  onward : {q : ℕ} (d : Dir) → Skirts board set but from q → contains set (next board q d) ≡ true →
      next board q d ≢ but →
      Skirts board set but from (next board q d)

-- on the square beside `q` in a direction there is the square `but`, a wall, one of the boxes, or a square of the set
abbrev pub IsKnown : Board → Squares → Squares → ℕ → ℕ → Dir → Type 0
IsKnown board boxes set but q d = let r = next board q d in
    ((r ≡ but) ⊎ (is_wall board r ≡ true)) ⊎ ((contains boxes r ≡ true) ⊎ (contains set r ≡ true))

-- nothing free is beside `q` that is not in the set
abbrev pub GainsNothing : Board → Squares → Squares → ℕ → ℕ → Type 0
GainsNothing board boxes set but q = (d : Dir) → IsKnown board boxes set but q d

-- if the square beside `but` in a direction is in the set, steps over the set lead to it from `from` round `but`
abbrev pub IsJoined : Board → Squares → ℕ → ℕ → Dir → Type 0
IsJoined board set but from d = contains set (next board but d) ≡ true → Skirts board set but from (next board but d)

-- if `but` is in the set, each square beside it is joined to `from`
abbrev pub StaysJoined : Board → Squares → ℕ → ℕ → Type 0
StaysJoined board set but from = contains set but ≡ true → (d : Dir) → IsJoined board set but from d

-- a box went from one square of the grid to another
pub record HasMoved (board : Board) (before after : Squares) (square ahead : ℕ) : Type 0 where
  pub inside : square < length board.cells
  pub within : ahead < length board.cells
  pub moved : after ≡ insert (remove before square) ahead

-- three steps over the set, the first to a side, lead from `from` past `but`, which is next to it in the direction d
pub record GoesPast (board : Board) (set : Squares) (from but : ℕ) (d side : Dir) : Type 0 where
  pub first : contains set (next board from side) ≡ true
  pub beside : contains set (next board but side) ≡ true
  pub third : contains set (next board (next board but side) d) ≡ true

-- two more steps over the set lead on round `but`, to its other side
pub record GoesRound (board : Board) (set : Squares) (from but : ℕ) (d side : Dir) : Type 0 where
  pub past : GoesPast board set from but d side
  pub beyond : contains set (next board but d) ≡ true
  pub fifth : contains set (next board (next board but d) (opposite side)) ≡ true

-- q is the least of `more` and the squares of the set except `but`
pub record IsLeastWith (set : Squares) (but more q : ℕ) : Type 0 where
  pub one : (q ≡ more) ⊎ ((contains set q ≡ true) × (q ≢ but))
  pub most : q ≤ more
  pub least : (r : ℕ) → contains set r ≡ true → r ≢ but → q ≤ r

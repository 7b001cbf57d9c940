-- Boards, states and single steps: the rules of the game.
use Rattle.std.specs.Prelude.{◌≡◌, ℕ, suc, ◌+◌, ◌-◌, ◌%◌, Bool, true, false, cond, ◌==◌, nat_lt, List, length}
use Rattle.std.specs.Prelude.{slice_index_or}
use Rattle.std.specs.declared.cmp.Ordering.{Ordering}
use Rattle.std.specs.Ordering.{nat_cmp, ordering_then}
use Rattle.grid.specs.declared.dir.Dir.{Dir}
use Rattle.grid.specs.declared.dir.Dir.TheVariants.{D, L, R, U}
use Rattle.grid.specs.declared.cell.Cell.{Cell}
use Rattle.grid.specs.declared.cell.Cell.TheVariants.{Wall, Goal, Box, BoxOnGoal, Player, PlayerOnGoal}
use Rattle.grid.specs.declared.square.Push.{Push}
use Rattle.grid.specs.Squares.{Squares, contains, insert, remove, places_from}

-- what contracts see of a level: the length of a row, and the cells by rows.  A square is its row times the
-- columns plus its column, both from 0, so it is the place of its cell in the list.
pub record Board : Type 0 where
  pub cols : ℕ
  pub cells : List Cell

-- the cell is a wall
abbrev pub wall_cell : Cell → Bool
wall_cell Wall = true
wall_cell cell = false

-- the cell has a goal
abbrev pub goal_cell : Cell → Bool
goal_cell Goal = true
goal_cell BoxOnGoal = true
goal_cell PlayerOnGoal = true
goal_cell cell = false

-- the cell has a box at the start
abbrev pub box_cell : Cell → Bool
box_cell Box = true
box_cell BoxOnGoal = true
box_cell cell = false

-- the cell has the player at the start
abbrev pub player_cell : Cell → Bool
player_cell Player = true
player_cell PlayerOnGoal = true
player_cell cell = false

-- the square is a wall; everything outside the grid is
unfoldable pub is_wall : Board → ℕ → Bool
is_wall board q = wall_cell (slice_index_or board.cells q Wall)

-- the square has a goal
unfoldable pub is_goal : Board → ℕ → Bool
is_goal board q = goal_cell (slice_index_or board.cells q Wall)

-- the place of a direction in the order d, l, r, u, which is the order of the letters' bytes
abbrev pub dir_number : Dir → ℕ
dir_number D = 0
dir_number L = 1
dir_number R = 2
dir_number U = 3

abbrev pub opposite : Dir → Dir
opposite D = U
opposite L = R
opposite R = L
opposite U = D

-- the square next to q in a direction; the number of cells, which is no square, where the grid ends there
unfoldable pub next : Board → ℕ → Dir → ℕ
next board q D = cond (nat_lt (q + board.cols) (length board.cells)) (q + board.cols) (length board.cells)
next board q L = cond ((q % board.cols) == 0) (length board.cells) (q - 1)
next board q R = cond ((suc q % board.cols) == 0) (length board.cells) (suc q)
next board q U = cond (nat_lt q board.cols) (length board.cells) (q - board.cols)

-- the squares of the boxes and of the player: a state of the game, and what contracts see of a position
pub record Scene : Type 0 where
  pub boxes : Squares
  pub player : ℕ

-- the player's square at the start: the first of those whose cell has the player, or 0 where none has
abbrev pub start_player : Board → ℕ
start_player board = slice_index_or (places_from player_cell 0 board.cells) 0 0

-- the state in which a level begins: a box on each square whose cell has one
unfoldable pub start : Board → Scene
start board = record { boxes = places_from box_cell 0 board.cells; player = start_player board }

-- the square is neither a wall nor a box's
abbrev pub IsFree : Board → Squares → ℕ → Type 0
IsFree board boxes q = (is_wall board q ≡ false) × (contains boxes q ≡ false)

-- t is the state after a step without a push: onto a square that has neither wall nor box
abbrev pub Walks : Board → Scene → Dir → Scene → Type 0
Walks board s d t = let q = next board s.player d in
    IsFree board s.boxes q × (t ≡ record { boxes = s.boxes; player = q })

-- t is the state after a push: a box goes one square on, where there is neither wall nor box
abbrev pub Pushes : Board → Scene → Dir → Scene → Type 0
Pushes board s d t = let q = next board s.player d in let r = next board q d in
    (contains s.boxes q ≡ true) × IsFree board s.boxes r ×
    (t ≡ record { boxes = insert (remove s.boxes q) r; player = q })

-- every box is on a goal
abbrev pub IsSolved : Board → Scene → Type 0
IsSolved board s = (q : ℕ) → contains s.boxes q ≡ true → is_goal board q ≡ true

-- directions are ordered d, l, r, u
abbrev pub dir_cmp : Dir → Dir → Ordering
dir_cmp d e = nat_cmp (dir_number d) (dir_number e)

-- pushes are ordered by the square that the box left, then by direction
abbrev pub push_cmp : Push → Push → Ordering
push_cmp p q = ordering_then (nat_cmp p.square q.square) (dir_cmp p.dir q.dir)

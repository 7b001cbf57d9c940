-- The states of a level, the positions that may be played on it, and what a step answers.
use Rattle.std.specs.Prelude.{◌≡◌, ℕ, Bool, true, false, length, slice_index_or}
use Rattle.grid.specs.declared.cell.Cell.TheVariants.{Wall}
use Rattle.grid.specs.declared.dir.Dir.{Dir}
use Rattle.grid.specs.declared.state.Step.{Step}
use Rattle.grid.specs.declared.state.Step.TheVariants.{Blocked, Walked, Pushed}
use Rattle.grid.specs.Squares.{Squares, contains, places_from}
use Rattle.grid.specs.Rising.{is_rising}
use Rattle.grid.specs.Board.{Board, IsFree, Pushes, Scene, Walks, box_cell, is_wall}
use Rattle.grid.specs.Lawful.{box_count}

-- a box is on the square at the start
unfoldable pub has_box : Board → ℕ → Bool
has_box board q = box_cell (slice_index_or board.cells q Wall)

-- the squares of the first boxes
abbrev pub start_boxes : Board → Squares
start_boxes board = places_from box_cell 0 board.cells

-- a state of the level: no box is on a wall, and the player neither on a wall nor on a box
pub record IsScene (board : Board) (s : Scene) : Type 0 where
  pub rising : is_rising s.boxes ≡ true
  pub boxes : (q : ℕ) → contains s.boxes q ≡ true → is_wall board q ≡ false
  pub player : IsFree board s.boxes s.player

-- what a step in a direction did; Blocked exactly where no step is possible, and then nothing changes
abbrev pub Steps : Board → Scene → Dir → Step → Scene → Type 0
Steps board s d Blocked t = (t ≡ s) × ((m : Scene) → ¬ (Walks board s d m)) × ((m : Scene) → ¬ (Pushes board s d m))
Steps board s d Walked t = Walks board s d t
Steps board s d Pushed t = Pushes board s d t

-- a position that may be played on the level: a state of it with as many boxes as the level
pub record FitsLevel (board : Board) (s : Scene) : Type 0 where
  pub scene : IsScene board s
  pub boxes : length s.boxes ≡ box_count board

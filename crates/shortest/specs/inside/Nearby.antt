-- What a search near a solution keeps.
use Rattle.std.specs.Prelude.{◌≡◌, ◌≤◌, length}
use Rattle.grid.specs.Board.{Board}
use Rattle.grid.specs.Lawful.{box_count}
use Rattle.grid.specs.declared.limits.TheConstants.{MAX_BOXES}
use Rattle.grid.specs.States.{FitsLevel}
use Rattle.store.specs.Visited.{VisitedView}
use Rattle.shortest.specs.declared.improving.Finder.{Finder}
use Rattle.shortest.specs.declared.near.Memory.{Memory}

-- a list for states of the board's size
pub record IsListFor (board : Board) (v : VisitedView) : Type 0 where
  pub boxes : v.boxes ≡ box_count board
  pub squares : v.squares ≡ length board.cells

-- memory for states of the board
pub record IsMemoryFor (board : Board) (memory : Memory) : Type 0 where
  pub expander : memory.workspace.expander.problem.board ≡ board
  pub walks : length memory.walks ≡ length board.cells

-- a start, bounds and memory of the board
pub record IsFinderFor (board : Board) (finder : Finder) : Type 0 where
  pub start : FitsLevel board finder.start
  pub few : box_count board ≤ MAX_BOXES
  pub bounds : finder.bounds.board ≡ board
  pub memory : IsMemoryFor board finder.memory

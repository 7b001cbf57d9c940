-- What the reader answers of a board and its rows.
use Rattle.std.specs.Prelude.{◌≡◌, ℕ, ◌≤◌, List, [], ◌∷◌, ◌++◌, length, Option, Some, None, Result, Ok, Err}
use Rattle.grid.specs.Board.{Board}
use Rattle.grid.specs.Lawful.{cell_fault, row_count}
use Rattle.grid.specs.declared.limits.TheConstants.{MAX_ROWS, MAX_COLS}
use Rattle.xsb.specs.Boards.{board_of}
use Rattle.xsb.specs.Collection.{Found, IsCollection}
use Rattle.xsb.specs.Entries.{IsBoardEntry}
use Rattle.xsb.specs.Places.{IsBoardAt, IsExcess, excess_fault, row_places}
use Rattle.xsb.specs.declared.boards.Stretch.{Stretch}
use Rattle.xsb.specs.declared.entry.BoardEntry.{BoardEntry}
use Rattle.xsb.specs.declared.lines.Lines.{Lines}
use Rattle.xsb.specs.declared.places.BoardRows.{BoardRows}
use Rattle.xsb.specs.declared.places.BoardSource.{BoardSource}
use Rattle.xsb.specs.declared.places.Excess.{Excess}
use Rattle.xsb.specs.declared.places.RowPlace.{RowPlace}
use Rattle.xsb.specs.declared.reader.Collection.{Collection}
use Rattle.xsb.specs.inside.Cursors.{IsAt}
use Rattle.xsb.specs.inside.Progress.{HasRead}
use Rattle.xsb.specs.inside.Stretches.{ReadsBoard}

-- a board that was read from these lines on, and left the others for later
pub record IsTaken (old new : Lines) (found : Found) (stretch : Stretch) : Type 0 where
  pub mid : Lines
  pub read : ReadsBoard old mid stretch
  pub board : found.board ≡ board_of read.rows
  pub first_line : found.first_line ≡ old.number
  pub onward : (bytes : List ℕ) → IsAt bytes old → IsAt bytes new

-- the next board with the lines that it was read from, and the collection after it; or these boards are all
abbrev pub Takes : List ℕ → List Found → Collection → Option (BoardEntry × Stretch × Collection) → Type 0
Takes bytes founds left None = IsCollection bytes founds
Takes bytes founds left (Some taken) =
    (found : Found) × IsBoardEntry taken.0 found × HasRead bytes taken.2 (founds ++ found ∷ []) ×
    IsTaken left.lines taken.2.lines found taken.1

-- the rows of a board that was not too large, in its lines from this one on
pub record AreRowsOf (lines : List (List ℕ)) (first : ℕ) (board : Board) (rows : BoardRows) : Type 0 where
  pub board_is : board ≡ record { cols = rows.cols; cells = rows.cells.items }
  pub places_are : row_places first lines ≡ rows.places.items
  pub columns : 1 ≤ rows.cols
  pub wide : rows.cols ≤ MAX_COLS
  pub tall : row_count board ≤ MAX_ROWS
  pub bound : length rows.cells.items ≤ 65535

-- the rows of a board, or where it is too large
abbrev pub HasRowsFor : List (List ℕ) → ℕ → Board → Result BoardRows Excess → Type 0
HasRowsFor lines first board (Ok rows) = AreRowsOf lines first board rows
HasRowsFor lines first board (Err excess) =
    IsExcess lines first excess × (cell_fault board ≡ Some (excess_fault excess))

-- the board that was found is read from the lines at its first line, with these rows
abbrev pub HasSource : List ℕ → Found → Result BoardRows Excess → Type 0
HasSource bytes found rows = (places : List RowPlace) ×
    (here : IsBoardAt bytes found.first_line found.board places) ×
    HasRowsFor here.lines found.first_line found.board rows

-- the next board with its rows, and the collection after it; or these boards are all
abbrev pub GivesSource : List ℕ → List Found → Collection → Option BoardSource → Type 0
GivesSource bytes founds new None = IsCollection bytes founds
GivesSource bytes founds new (Some source) =
    (found : Found) × IsBoardEntry source.entry found × HasRead bytes new (founds ++ found ∷ []) ×
    IsAt bytes new.lines × HasSource bytes found source.rows

-- How a level is written.
use Rattle.std.specs.Prelude.{ℕ, zero, suc, List, [], ◌∷◌, ◌++◌, map, take, drop, flat_map}
use Rattle.grid.specs.Board.{Board}
use Rattle.grid.specs.Lawful.{row_count}
use Rattle.xsb.specs.Rows.{cell_byte}
use Rattle.xsb.specs.Boards.{cut_row}

-- the first n rows of length `cols` of a list
abbrev pub rows_from : {A : Type 0} → ℕ → ℕ → List A → List (List A)
rows_from zero cols xs = []
rows_from (suc n) cols xs = take cols xs ∷ rows_from n cols (drop cols xs)

-- a board as it is written, row by row: each without floor at its end, and ended by a line feed
unfoldable pub written : Board → List ℕ
written board =
    flat_map (λ row. map cell_byte (cut_row row) ++ 10 ∷ []) (rows_from (row_count board) board.cols board.cells)

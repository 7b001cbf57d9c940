-- What the table of a region says.
use Rattle.std.specs.Prelude.{ℕ, ◌+◌, ◌*◌, ◌&&◌, ◌==◌, Bool, not, Option, Some, None, List, slice_index_or}
use Rattle.grid.specs.declared.dir.Dir.{Dir}
use Rattle.grid.specs.Board.{Scene, dir_number}
use Rattle.prices.specs.Prices.{sum_over}
use Rattle.regions.specs.declared.table.BoxKey.{BoxKey}
use Rattle.regions.specs.declared.table.RegionTable.{RegionTable}

-- the key of a square; that of a square where no box is seen past the end
abbrev pub key_of : RegionTable → ℕ → BoxKey
key_of t q = slice_index_or t.keys.items q (record { high = 0; low = 0 })

abbrev pub high_of : RegionTable → ℕ → ℕ
high_of t q = (key_of t q).high

abbrev pub low_of : RegionTable → ℕ → ℕ
low_of t q = (key_of t q).low

-- a box on the square is seen
abbrev pub is_seat : RegionTable → ℕ → Bool
is_seat t q = not ((high_of t q == 0) && (low_of t q == 0))

-- the place of a square
abbrev pub place_of : RegionTable → ℕ → ℕ
place_of t q = slice_index_or t.places.items q 0

-- where the row of a set of boxes begins, by the sums of their keys
abbrev pub row_of : RegionTable → ℕ → ℕ → ℕ
row_of t high low = slice_index_or t.high_rows.items high 0 + slice_index_or t.low_rows.items low 0

-- the entry of a row for a place of the player
abbrev pub byte_in : RegionTable → ℕ → ℕ → ℕ
byte_in t row place = slice_index_or t.bytes.items (row + place) 0

-- the entry of a row for a square of the player
abbrev pub byte_for : RegionTable → ℕ → ℕ → ℕ
byte_for t row p = byte_in t row (place_of t p)

-- the entry of boxes with these sums of keys, for a square of the player
abbrev pub entry_at : RegionTable → ℕ → ℕ → ℕ → ℕ
entry_at t high low p = byte_for t (row_of t high low) p

-- the entry of a state
abbrev pub says : RegionTable → Scene → ℕ
says t s = entry_at t (sum_over (high_of t) s.boxes) (sum_over (low_of t) s.boxes) s.player

-- the entry of a state; 0 without a table
abbrev pub said : Option RegionTable → Scene → ℕ
said None s = 0
said (Some t) s = says t s

-- what a push of a box on the square wastes, by a list of four numbers for each square
abbrev pub waste_in : List ℕ → ℕ → Dir → ℕ
waste_in wastes q d = slice_index_or wastes (4 * q + dir_number d) 0

-- What contracts see of the job of a region: the level, the waste that the region counts, and its table.
use Rattle.std.specs.Prelude.{ℕ, Option, List, [], ◌∷◌}
use Rattle.grid.specs.Board.{Board}
use Rattle.regions.specs.declared.table.RegionTable.{RegionTable}
use Rattle.regions.specs.Regions.{Region}
use Rattle.regions.specs.inside.Tables.{said, waste_in}

pub record JobView : Type 0 where
  pub board : Board
  pub wastes : List ℕ
  pub table : Option RegionTable

abbrev pub part_of : JobView → Region
part_of t = record { waste = waste_in t.wastes; excess = said t.table }

abbrev pub parts_of : List JobView → List Region
parts_of [] = []
parts_of (t ∷ ts) = part_of t ∷ parts_of ts

-- The levels of a collection, each judged.
use Rattle.std.specs.Prelude.{◌≡◌, ℕ, ◌-◌, List, Result, Option, option_map, slice_get}
use Rattle.std.specs.List.{AllZip}
use Rattle.grid.specs.Board.{Board}
use Rattle.grid.specs.declared.fault.LevelFault.{LevelFault}
use Rattle.xsb.specs.Collection.{Found, IsCollection, IsJudged}
pub use Rattle.judging.specs.Table.{Listed}

-- the entry has the name and the first line of the board found, and the judgement of its cells
pub record IsListed (listed : Listed) (found : Found) : Type 0 where
  pub name : listed.name ≡ found.name
  pub first_line : listed.first_line ≡ found.first_line
  pub board : IsJudged found.board listed.board

-- the bytes are a collection of these levels, in order
abbrev pub IsLevelListing : List ℕ → List Listed → Type 0
IsLevelListing bytes listing = (founds : List Found) × IsCollection bytes founds × AllZip IsListed listing founds

-- level n of the collection of these bytes, counted from 1 and judged; none if the collection has fewer levels
pub record IsLevelAt (bytes : List ℕ) (n : ℕ) (level : Option (Result Board LevelFault)) : Type 0 where
  pub listing : List Listed
  pub lists : IsLevelListing bytes listing
  pub is : level ≡ option_map (λ listed. listed.board) (slice_get listing (n - 1))

-- The entries that the reader makes of a board that was found.
use Rattle.std.specs.Prelude.{◌≡◌}
use Rattle.xsb.specs.declared.entry.BoardEntry.{BoardEntry}
use Rattle.xsb.specs.declared.entry.Entry.{Entry}
use Rattle.xsb.specs.Collection.{Found, IsJudged}

-- the entry of a board that was found
pub record IsEntry (entry : Entry) (found : Found) : Type 0 where
  pub name : entry.name.items ≡ found.name
  pub first_line : entry.first_line ≡ found.first_line
  pub board : IsJudged found.board entry.board

-- `IsEntry` before the level is made
pub record IsBoardEntry (entry : BoardEntry) (found : Found) : Type 0 where
  pub name : entry.name.items ≡ found.name
  pub first_line : entry.first_line ≡ found.first_line
  pub board : IsJudged found.board entry.board

-- The listing that the boards of the reader make.
use Rattle.xsb.specs.declared.entry.BoardEntry.{BoardEntry}
use Rattle.sokopar.specs.Listing.{Listed}

-- a board of the reader without its memory
abbrev pub listed_of : BoardEntry → Listed
listed_of entry = record { name = entry.name.items; first_line = entry.first_line; board = entry.board }

-- The listing that the entries of the reader make.
use Rattle.xsb.specs.declared.entry.Entry.{Entry}
use Rattle.judging.specs.Table.{Listed}

-- a board of the reader with its level, without its memory
abbrev pub entry_listed : Entry → Listed
entry_listed entry = record { name = entry.name.items; first_line = entry.first_line; board = entry.board }

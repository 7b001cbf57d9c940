use Rattle.std.proofs.Common.{◌≡◌, ◌+◌, take}
use Rattle.xsb.specs.Places.{row_places}
use Rattle.xsb.specs.inside.Reading.{cut_lines}
use Rattle.xsb.proofs.RowPlaces.{Placing}
use Rattle.xsb.proofs.boards.Stretch.places.Given as goal

abbrev pub invariant-lines : goal.invariant-lines
invariant-lines l = record {
  number : l.number ≡ l.self.first_line + l.counter;
  placing : Placing (row_places l.self.first_line (take l.self.count (cut_lines l.self.lines))) l.self.count l.counter l.number l.lines l.places.items;
}

use Rattle.xsb.proofs.RowPlaces.{rows-tall, rows-wide, rows-made}
use Rattle.xsb.proofs.boards.Stretch.rows.Goals as goal

pub returns-in-Some : goal.returns-in-Some
returns-in-Some c = λ rows has. rows-tall rows c.in-Some.line has c.in-Some.is

pub returns-in-Some-cols : goal.returns-in-Some-cols
returns-in-Some-cols c = λ rows has. rows-wide rows c.in-Some-cols.line has c.in_default.is c.in-Some-cols.is

pub returns : goal.returns
returns c = λ rows has.
    rows-made rows c.in_ok-cells.cells c.in_ok-places.places has c.in_default.is c.in_default-cols.is (c.in_ok-cells.ensures rows has)
    c.in_ok-places.ensures

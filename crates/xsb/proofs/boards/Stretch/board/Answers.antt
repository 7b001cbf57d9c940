use Rattle.std.proofs.Common.{arith, ◌∙◌}
use Rattle.xsb.proofs.Judging.{HasRows-cols, too-tall, too-wide, cols-exact, cells-whole, same-board, judged-fault}
use Rattle.xsb.proofs.boards.Stretch.board.Goals as goal

pub from_cells-requires : goal.from_cells-requires
from_cells-requires c =
    let has = c.requires.1 in let rows = c.requires.0 in
    let few = c.if-self-gt-MAX_COLS.false in
    let exact = cols-exact rows has few in let some = HasRows-cols has in
    record { columns = omega arith; whole = cells-whole _ rows _ exact (c.in_ok-cells.ensures rows has (omega arith)) }

pub returns-then-self-gt-MAX_ROWS : goal.returns-then-self-gt-MAX_ROWS
returns-then-self-gt-MAX_ROWS c = λ rows has. too-tall rows has c.if-self-gt-MAX_ROWS.true

pub returns-then-self-gt-MAX_COLS : goal.returns-then-self-gt-MAX_COLS
returns-then-self-gt-MAX_COLS c = λ rows has. too-wide rows has c.if-self-gt-MAX_ROWS.false c.if-self-gt-MAX_COLS.true

pub returns-in-Ok : goal.returns-in-Ok
returns-in-Ok c = λ rows has.
    let few = c.if-self-gt-MAX_COLS.false in
    let exact = cols-exact rows has few in
    (c.in-Ok.ensures.ok ∙ same-board rows c.in_ok-cells.cells.items has few (c.in_ok-cells.ensures rows has (omega arith)), c.in-Ok.ensures.lawful)

pub returns-else-is_want_of_memory : goal.returns-else-is_want_of_memory
returns-else-is_want_of_memory c = λ rows has.
    let few = c.if-self-gt-MAX_COLS.false in
    let exact = cols-exact rows has few in
    judged-fault c.in-Err.fault c.is_want_of_memory.result
    (same-board rows c.in_ok-cells.cells.items has few (c.in_ok-cells.ensures rows has (omega arith))) c.in-Err.ensures.err c.is_want_of_memory.ensures
    c.if-is_want_of_memory.false

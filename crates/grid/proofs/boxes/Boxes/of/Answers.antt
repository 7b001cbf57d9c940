use Rattle.std.proofs.Common.{◌∙◌, ap, length, map, arith}
use Rattle.grid.specs.declared.boxes.TheConstants.{SQUARE_NUMBERS}
use Rattle.grid.specs.Board.{box_cell}
use Rattle.grid.specs.Marks.{marked}
use Rattle.grid.proofs.Marked.{marked_first}
use Rattle.grid.proofs.boxes.Boxes.of.Goals as goal

pub returns : goal.returns
returns c =
    let cells = c.cells.ensures in
    ap marked c.in_ok-resize.ensures.items
    ∙ marked_first _ c.args.level.now.cells SQUARE_NUMBERS _ (c.in_ok-flags.ensures ∙ ap (map box_cell) cells.value)
    (omega (arith, ap length cells.value, cells.bound))

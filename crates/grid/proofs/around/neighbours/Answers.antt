use Rattle.std.proofs.Common.{◌%◌, [], ◌∷◌, length, sym, ap, ◌∙◌, arith}
use Rattle.std.proofs.lemmas.List.{length-append}
use Rattle.std.proofs.Math.Numerals.{add-one}
use Rattle.grid.specs.Board.{Board}
use Rattle.grid.proofs.Columns.{next_row, next_column, one_more}
use Rattle.grid.proofs.around.neighbours.Goals as goal
use Rattle.grid.proofs.around.neighbours.Goals.{then-column-cols, else-column-cols}

pub loop-square-preserved : goal.loop-square-preserved
loop-square-preserved c =
    let board : Board = record { cols = c.args.cols; cells = c.args.cells.now } in
    let next = ap (λ k. k % c.args.cols) (add-one c.loop-square.square) in
    let here = c.loop-square.invariant.column in
    record {
      size = omega (
        arith,
        ap length c.push_reserved.ensures.items,
        c.loop-square.invariant.size,
        length-append c.loop-square.around.items (c.neighbours_of.result ∷ []),
      );
      room = omega (arith, c.push_reserved.ensures.capacity, c.loop-square.invariant.room);
      column = elim c.if-column-cols.branch [
        | then-column-cols w ↦ w.column-is ∙ sym (next ∙ next_row c.loop-square.square c.args.cols c.loop-square.column here w.if-column-cols.true)
        | else-column-cols w ↦ w.column-is ∙
            sym (next ∙ next_column c.loop-square.square c.args.cols c.loop-square.column c.requires.columns here w.if-column-cols.false)
      ];
      each = one_more board c.loop-square.around.items c.push_reserved.new.self.items c.loop-square.square c.neighbours_of.result c.loop-square.invariant.size
          c.loop-square.invariant.each c.neighbours_of.ensures c.push_reserved.ensures.items;
    }

use Rattle.std.proofs.Common.{◌++◌, ◌∷◌, [], map, take, drop, ap, ◌∙◌, append_assoc, arith, ◌≡◌}
use Rattle.xsb.specs.inside.Bytes.{line_feed}
use Rattle.xsb.specs.Rows.{cell_byte}
use Rattle.xsb.proofs.CellsByReaders.{kept-cells}
use Rattle.xsb.proofs.writer.push_row.Goals as goal

pub returns-clause-ok : goal.returns-clause-ok
returns-clause-ok c =
    let cells = c.args.level.now.cells in
    let all : c.loop-col.col ≡ c.kept_cells-kept.result = omega arith in
    c.in_ok-push-2.ensures.items ∙
    ap (λ l. l ++ line_feed ∷ []) (c.loop-col.invariant ∙ ap (λ n. c.args.out.now.items ++ map cell_byte (take n (drop c.args.start cells))) all
    ∙ ap (λ r. c.args.out.now.items ++ map cell_byte r)
    (kept-cells cells c.args.start c.args.level.now.cols c.kept_cells-kept.result c.kept_cells-kept.ensures.kept c.kept_cells-kept.ensures.within))
    ∙ append_assoc c.args.out.now.items _ (line_feed ∷ [])

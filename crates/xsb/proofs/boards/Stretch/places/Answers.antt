use Rattle.std.proofs.Common.{refl, ap, ◌∙◌, ◌+◌, length, arith}
use Rattle.xsb.specs.Places.{is_plain}
use Rattle.xsb.specs.Rows.{pieces_of}
use Rattle.xsb.proofs.RowPlaces.{Placing-more}
use Rattle.xsb.proofs.boards.Stretch.places.Goals as goal

pub lines-preserved : goal.lines-preserved
lines-preserved c = record {
  number = let n = c.lines.invariant.number in omega arith;
  placing = Placing-more c.in-Some.raw.now c.next.new.self (c.lines.counter + 1) (c.lines.number + 1) c.push_places.new.places.items c.row_count.result
      c.is_plain.result c.lines.invariant.placing c.lines-test.true refl refl c.in-Some.ensures.steps
      (c.row_count.ensures ∙ ap (λ l. length (pieces_of l)) c.cut_line-line.ensures) (c.is_plain.ensures ∙ ap is_plain c.cut_line-line.ensures)
      c.in_ok-push_places.ensures;
}

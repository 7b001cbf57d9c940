-- The first broken row is known.
use Rattle.sokopar.proofs.explain.broken_of.Goals as goal

pub returns : goal.returns
returns c = record {
  rest = c.next_row-first.ensures.on c.args.bytes.now c.of-rows.ensures;
  first = c.next_row-first.ensures.row c.args.bytes.now c.of-rows.ensures;
}

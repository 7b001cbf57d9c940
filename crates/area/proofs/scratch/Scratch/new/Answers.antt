use Rattle.std.proofs.Common.{rules, arith}
use Rattle.grid.proofs.lemmas.Levels.{level_squares}
use Rattle.area.proofs.scratch.Scratch.new.Goals as goal

pub invariant_of-result : goal.invariant_of-result
invariant_of-result c = record {
  marks = c.in_ok-zeros.ensures;
  queue = search rules;
  small = (let s = level_squares c.args.level.now c.tell.ensures in omega (arith, s, c.squares-squares.ensures));
  reached_words = c.in_ok-none.ensures.size;
  boxes_words = c.in_ok-none-2.ensures.size;
  spare_words = c.in_ok-none-3.ensures.size;
  spare_boxes_words = c.in_ok-none-4.ensures.size;
}

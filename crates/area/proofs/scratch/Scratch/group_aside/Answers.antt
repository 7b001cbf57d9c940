use Rattle.std.proofs.Common.{length, drop, ap, ◌∙◌, arith}
use Rattle.area.proofs.Seams.{written, length-written_over}
use Rattle.area.proofs.scratch.Scratch.group_aside.Goals as goal

pub invariant_of-self-lent : goal.invariant_of-self-lent
invariant_of-self-lent c = λ w. record {
  marks = (let kept = ap length (written c.group.new.marks (drop (length c.group.new.marks) c.self.inside.marks.items) c.self.inside.marks.len (omega arith)) in
      let old = c.self.invariant.marks in omega (arith, kept, old));
  queue = (let kept = ap length (written c.group.new.queue (drop (length c.group.new.queue) c.self.inside.queue.items) c.self.inside.queue.len (omega arith)) in
      let old = c.self.invariant.queue in omega (arith, kept, old));
  small = c.self.invariant.small;
  reached_words = c.self.invariant.reached_words;
  boxes_words = c.self.invariant.boxes_words;
  spare_words = length-written_over c.group.new.members w ∙ (c.group.ensures.room ∙ c.self.invariant.spare_words);
  spare_boxes_words = c.group.ensures.places ∙ c.self.invariant.spare_boxes_words;
}

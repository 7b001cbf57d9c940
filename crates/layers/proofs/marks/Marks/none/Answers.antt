use Rattle.layers.proofs.Marking.{no_words}
use Rattle.layers.proofs.marks.Marks.none.Goals as goal

pub invariant_of-result : goal.invariant_of-result
invariant_of-result c = no_words c.new.result.items c.new.ensures.items

use Rattle.layers.proofs.Marking.{no_words}
use Rattle.layers.proofs.marks.Marks.clear.Goals as goal

pub invariant_of-self : goal.invariant_of-self
invariant_of-self c = no_words c.clear.new.self.items c.clear.ensures.items

use Rattle.std.proofs.Common.{refl}
use Rattle.layers.proofs.Marking.{all_or_not}
use Rattle.layers.proofs.marks.Marks.are_all_set.Goals as goal

pub returns : goal.returns
returns c = all_or_not c.self.inside.words.items c.self.inside.len c.args.self.now c.self.view_is c.self.inside.set c.self.invariant _ refl

use Rattle.layers.proofs.Marking.{marks_long}
use Rattle.layers.proofs.marks.Marks.len.Goals as goal

pub returns : goal.returns
returns c = marks_long c.self.inside.words.items c.self.inside.len c.args.self.now c.self.view_is

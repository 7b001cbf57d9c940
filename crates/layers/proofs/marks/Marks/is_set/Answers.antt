use Rattle.std.proofs.Common.{arith}
use Rattle.layers.proofs.Marking.{enough_words, marks_long, read_mark}
use Rattle.layers.proofs.marks.Marks.is_set.Goals as goal

pub has_mark-requires : goal.has_mark-requires
has_mark-requires c =
    let long = marks_long c.self.inside.words.items c.self.inside.len c.args.self.now c.self.view_is in
    omega (arith, enough_words c.self.inside.words.items c.self.inside.len c.self.inside.set c.args.rank c.self.invariant (omega (arith, long, c.requires)))

pub returns : goal.returns
returns c =
    let long = marks_long c.self.inside.words.items c.self.inside.len c.args.self.now c.self.view_is in
    read_mark c.self.inside.words.items c.self.inside.len c.args.self.now c.self.view_is _ c.args.rank c.has_mark.result c.as_slice.ensures.value
    (omega (arith, long, c.requires)) c.has_mark.ensures

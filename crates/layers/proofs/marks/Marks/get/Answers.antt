use Rattle.std.proofs.Common.{arith}
use Rattle.layers.proofs.Marking.{enough_words, told_mark, told_none}
use Rattle.layers.proofs.marks.Marks.get.Goals as goal

pub returns-then-rank-self : goal.returns-then-rank-self
returns-then-rank-self c = told_none c.self.inside.words.items c.self.inside.len c.args.self.now c.self.view_is c.args.rank c.if-rank-self.true

pub has_mark-requires : goal.has_mark-requires
has_mark-requires c = omega (
  arith,
  enough_words c.self.inside.words.items c.self.inside.len c.self.inside.set c.args.rank c.self.invariant (omega (arith, c.if-rank-self.false)),
)

pub returns : goal.returns
returns c = told_mark c.self.inside.words.items c.self.inside.len c.args.self.now c.self.view_is _ c.args.rank c.has_mark.result c.as_slice.ensures.value
    (omega (arith, c.if-rank-self.false)) c.has_mark.ensures

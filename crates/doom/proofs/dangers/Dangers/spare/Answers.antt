use Rattle.std.proofs.Common.{arith}
use Rattle.std.proofs.lemmas.Bool.{not-true}
use Rattle.doom.proofs.Spared.{spared_at}
use Rattle.doom.proofs.dangers.Dangers.spare.Goals as goal

pub returns : goal.returns
returns c = λ board boxes from are yes.
    spared_at board boxes c.args.self.now.words.items c.as_slice.result.now c.as_slice.ensures.value c.args.square c.square.inside.0 c.args.dir _
    c.word_for-word.result c.square.view_is (omega (arith, c.if-index-len.false, c.len.ensures.value)) are c.word_for-word.ensures
    (not-true _ yes) from

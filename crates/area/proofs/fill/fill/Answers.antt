use Rattle.std.proofs.Common.{arith}
use Rattle.area.specs.inside.Flooding.{PassesOn}
use Rattle.area.proofs.lemmas.Growing.{grown_then}
use Rattle.area.proofs.fill.fill.Goals as goal

pub loop-word-smaller : goal.loop-word-smaller
loop-word-smaller c = omega (arith, c.fill_once-next.ensures.most, c.if-next-word.false)

pub loop-word-preserved : goal.loop-word-preserved
loop-word-preserved c = grown_then c.args.word c.loop-word.word _ (λ test. PassesOn test c.args.cols c.args.free) c.loop-word.invariant
    c.fill_once-next.ensures

use Rattle.std.proofs.Common.{arith}
use Rattle.area.proofs.lemmas.WordSets.{bit_take}
use Rattle.area.proofs.bits.take_out.Goals as goal

pub returns : goal.returns
returns c = λ q. bit_take c.args.words.now c.square.inside.0 c.args.square q c.square.view_is (omega arith)

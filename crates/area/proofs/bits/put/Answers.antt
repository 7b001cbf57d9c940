use Rattle.std.proofs.Common.{arith}
use Rattle.area.proofs.lemmas.WordSets.{bit_put}
use Rattle.area.proofs.bits.put.Goals as goal

pub returns : goal.returns
returns c = λ q. bit_put c.args.words.now c.square.inside.0 c.args.square q c.square.view_is (omega arith)

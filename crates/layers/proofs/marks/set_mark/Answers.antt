use Rattle.std.proofs.Common.{refl, arith}
use Rattle.area.proofs.lemmas.WordSets.{bit_put}
use Rattle.layers.proofs.marks.set_mark.Goals as goal

pub returns : goal.returns
returns c = λ q. bit_put c.args.words.now c.args.rank c.args.rank q refl (omega arith)

use Rattle.area.proofs.lemmas.WordSets.{bit_without}
use Rattle.area.proofs.bits.without.Goals as goal

pub returns-then-index-square : goal.returns-then-index-square
returns-then-index-square c = λ j lt. bit_without c.args.index c.args.word c.square.inside.0 c.args.square j c.square.view_is c.if-index-square.true lt

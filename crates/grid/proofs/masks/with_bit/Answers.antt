use Rattle.grid.proofs.Bits.{bit_at-set}
use Rattle.grid.proofs.masks.with_bit.Goals as goal

pub returns-then-set : goal.returns-then-set
returns-then-set c = λ i. bit_at-set c.args.word c.args.place i c.args.set c.requires c.if-set.true

use Rattle.std.proofs.Common.{arith}
use Rattle.area.proofs.lemmas.WordBits.{up_here, up_low}
use Rattle.area.proofs.bits.slid_up.Goals as goal

pub returns-clause-here : goal.returns-clause-here
returns-clause-here c = λ i j lt e. up_here c.args.here c.args.low c.args.near i j (omega arith) lt e

pub returns-clause-low : goal.returns-clause-low
returns-clause-low c = λ i j lt e. up_low c.args.here c.args.low c.args.near i j c.requires lt e

use Rattle.std.proofs.Common.{arith}
use Rattle.area.proofs.lemmas.WordBits.{down_here, down_high}
use Rattle.area.proofs.bits.slid_down.Goals as goal

pub returns-clause-here : goal.returns-clause-here
returns-clause-here c = λ i j lt e. down_here c.args.here c.args.high c.args.near i j c.requires lt e

pub returns-clause-high : goal.returns-clause-high
returns-clause-high c = λ i j lt e. down_high c.args.here c.args.high c.args.near i j c.requires (omega arith) lt e

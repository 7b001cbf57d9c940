use Rattle.std.proofs.Common.{arith}
use Rattle.area.proofs.lemmas.Growing.{grown_up}
use Rattle.area.proofs.fill.step_up.Goals as goal

pub returns-then-by-lt-WORD_BITS : goal.returns-then-by-lt-WORD_BITS
returns-then-by-lt-WORD_BITS c = grown_up c.args.word c.args.free c.args.by (omega arith)

use Rattle.area.proofs.lemmas.Growing.{grown_down}
use Rattle.area.proofs.fill.step_down.Goals as goal

pub returns-then-by-lt-WORD_BITS : goal.returns-then-by-lt-WORD_BITS
returns-then-by-lt-WORD_BITS c = grown_down c.args.word c.args.free c.args.by

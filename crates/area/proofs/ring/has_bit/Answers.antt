use Rattle.area.proofs.lemmas.WordBits.{word_bit_tested}
use Rattle.area.proofs.ring.has_bit.Goals as goal

pub returns : goal.returns
returns c = word_bit_tested c.args.word c.args.index

use Rattle.std.proofs.Common.{◌/◌, ◌%◌, get_or, sym, ◌∙◌}
use Rattle.grid.specs.declared.masks.TheConstants.{WORD_BITS}
use Rattle.area.proofs.lemmas.WordBits.{has_bit-parts, word_bit_tested}
use Rattle.layers.proofs.marks.has_mark.Goals as goal

pub returns : goal.returns
returns c =
    word_bit_tested (get_or c.args.words.now (c.args.rank / WORD_BITS) 0) (c.args.rank % WORD_BITS)
    ∙ sym (has_bit-parts c.args.words.now c.args.rank)

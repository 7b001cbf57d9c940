use Rattle.std.proofs.Common.{ℕ, ◌/◌, ◌%◌, length, get_or, sym, ap, ◌∙◌}
use Rattle.std.proofs.lemmas.Bool.{le-ltb}
use Rattle.std.proofs.lemmas.List.{get_or_past}
use Rattle.grid.specs.declared.masks.TheConstants.{WORD_BITS}
use Rattle.grid.specs.Masks.{has_bit}
use Rattle.area.specs.Words.{word_bit}
use Rattle.area.proofs.lemmas.WordBits.{has_bit-parts, word_bit-zero, word_bit_tested}
use Rattle.area.proofs.bits.has.Goals as goal

pub returns-then-index-words : goal.returns-then-index-words
returns-then-index-words c =
    word_bit_tested (get_or c.args.words.now (c.square.inside.0 / WORD_BITS) 0) (c.square.inside.0 % WORD_BITS)
    ∙ (sym (has_bit-parts c.args.words.now c.square.inside.0) ∙ ap (has_bit c.args.words.now) c.square.view_is)

pub returns-else-index-words : goal.returns-else-index-words
returns-else-index-words c =
    le-ltb (c.square.inside.0 / WORD_BITS) (length c.args.words.now) c.if-index-words.false
    ∙ sym (ap (has_bit c.args.words.now) (sym c.square.view_is) ∙ (has_bit-parts c.args.words.now c.square.inside.0
    ∙ (ap (λ (w : ℕ). word_bit w (c.square.inside.0 % WORD_BITS)) (get_or_past c.args.words.now (c.square.inside.0 / WORD_BITS) 0 c.if-index-words.false)
    ∙ word_bit-zero (c.square.inside.0 % WORD_BITS))))

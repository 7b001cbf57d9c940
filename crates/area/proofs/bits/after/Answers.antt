use Rattle.std.proofs.Common.{ℕ, ◌+◌, ◌/◌, ◌%◌, sym, ap, ◌∙◌, arith}
use Rattle.grid.specs.declared.masks.TheConstants.{WORD_BITS}
use Rattle.grid.specs.Masks.{has_bit}
use Rattle.area.specs.Words.{word_bit}
use Rattle.area.proofs.lemmas.WordBits.{has_bit-at, seen_after}
use Rattle.area.proofs.bits.after.Goals as goal

pub returns : goal.returns
returns c = λ i j lt e.
    seen_after (has_bit c.args.words.now) c.args.index (c.args.by / WORD_BITS) (c.args.by % WORD_BITS) c.args.by _ _ _ (omega arith) (omega arith)
    (λ m l. ap (λ (w : ℕ). word_bit w m) c.word_at-here.ensures ∙ sym (has_bit-at c.args.words.now (c.args.index + c.args.by / WORD_BITS) m l))
    (λ m l. ap (λ (w : ℕ). word_bit w m) c.word_at-high.ensures ∙
    sym (has_bit-at c.args.words.now (c.args.index + c.args.by / WORD_BITS + 1) m l)) c.slid_down.ensures.here c.slid_down.ensures.high i j lt e

use Rattle.std.proofs.Common.{ℕ, ◌-◌, ◌+◌, ◌/◌, ◌%◌, false, sym, ap, ◌∙◌, arith}
use Rattle.grid.specs.declared.masks.TheConstants.{WORD_BITS}
use Rattle.grid.specs.Masks.{has_bit}
use Rattle.area.specs.Words.{word_bit}
use Rattle.area.proofs.lemmas.WordBits.{has_bit-at, none_before, seen_before}
use Rattle.area.proofs.bits.before.Goals as goal

pub returns-clause-there : goal.returns-clause-there
returns-clause-there c = λ i j lt e.
    seen_before (has_bit c.args.words.now) c.args.index (c.args.by / WORD_BITS) (c.args.by % WORD_BITS) c.args.by _ _ _ (omega arith) (omega arith)
    (λ m l le. ap (λ (w : ℕ). word_bit w m) (c.word_before-here.ensures.there le) ∙
    sym (has_bit-at c.args.words.now (c.args.index - c.args.by / WORD_BITS) m l))
    (λ m l le. ap (λ (w : ℕ). word_bit w m) (c.word_before-low.ensures.there le) ∙
    sym (has_bit-at c.args.words.now (c.args.index - (c.args.by / WORD_BITS + 1)) m l)) c.slid_up.ensures.here c.slid_up.ensures.low i j lt e

pub returns-clause-none : goal.returns-clause-none
returns-clause-none c = λ j lt low.
    none_before (λ q. false) c.args.index (c.args.by / WORD_BITS) (c.args.by % WORD_BITS) c.args.by _ _ _ (omega arith) (omega arith)
    c.word_before-here.ensures.none c.word_before-low.ensures.none c.slid_up.ensures.here c.slid_up.ensures.low j lt low

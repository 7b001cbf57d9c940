use Rattle.std.proofs.Common.{◌≡◌, ℕ, ◌-◌, false, get_or, sym, ap, ◌∙◌, arith}
use Rattle.grid.specs.Masks.{has_bit}
use Rattle.area.specs.Words.{word_bit}
use Rattle.area.proofs.lemmas.WordBits.{has_bit-at, none_before, seen_before}
use Rattle.area.proofs.bits.just_before.Goals as goal

pub returns-clause-there : goal.returns-clause-there
returns-clause-there c = λ i j lt e.
    (let here : c.args.index ≡ c.args.index - 0 = omega arith in
    seen_before (has_bit c.args.words.now) c.args.index 0 c.args.by c.args.by c.slid_up.result (get_or c.args.words.now c.args.index 0) c.word_before-low.result
    (omega arith) c.requires.near
    (λ m l le. ap (λ (k : ℕ). word_bit (get_or c.args.words.now k 0) m) here ∙ sym (has_bit-at c.args.words.now (c.args.index - 0) m l))
    (λ m l le. ap (λ (w : ℕ). word_bit w m) (c.word_before-low.ensures.there le) ∙
    sym (has_bit-at c.args.words.now (c.args.index - 1) m l)) c.slid_up.ensures.here c.slid_up.ensures.low i j lt e)

pub returns-clause-none : goal.returns-clause-none
returns-clause-none c = λ j lt low.
    none_before (λ q. false) c.args.index 0 c.args.by c.args.by c.slid_up.result (get_or c.args.words.now c.args.index 0) c.word_before-low.result
    (omega arith) c.requires.near
    (λ lt. absurd (omega (arith, lt))) c.word_before-low.ensures.none c.slid_up.ensures.here c.slid_up.ensures.low j lt low

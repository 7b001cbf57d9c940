use Rattle.std.proofs.Common.{◌≡◌, ℕ, ◌+◌, get_or, sym, ap, ◌∙◌, arith}
use Rattle.grid.specs.Masks.{has_bit}
use Rattle.area.specs.Words.{word_bit}
use Rattle.area.proofs.lemmas.WordBits.{has_bit-at, seen_after}
use Rattle.area.proofs.bits.just_after.Goals as goal

pub returns : goal.returns
returns c = λ i j lt e.
    (let here : c.args.index ≡ c.args.index + 0 = omega arith in
    let far : c.args.index + 1 ≡ c.args.index + 0 + 1 = omega arith in
    seen_after (has_bit c.args.words.now) c.args.index 0 c.args.by c.args.by c.slid_down.result (get_or c.args.words.now c.args.index 0) c.word_at-high.result
    (omega arith) c.requires.near
    (λ m l. ap (λ (k : ℕ). word_bit (get_or c.args.words.now k 0) m) here ∙ sym (has_bit-at c.args.words.now (c.args.index + 0) m l))
    (λ m l. ap (λ (w : ℕ). word_bit w m) (c.word_at-high.ensures ∙ ap (λ (k : ℕ). get_or c.args.words.now k 0) far) ∙
    sym (has_bit-at c.args.words.now (c.args.index + 0 + 1) m l)) c.slid_down.ensures.here c.slid_down.ensures.high i j lt e)

use Rattle.std.proofs.Common.{◌+◌, ◌*◌, refl, ◌∙◌, arith}
use Rattle.area.proofs.lemmas.WordBits.{word_bit-shr}
use Rattle.area.proofs.ring.ring_of.Goals as goal

pub returns-then-cols-le-NEAR_COLS : goal.returns-then-cols-le-NEAR_COLS
returns-then-cols-le-NEAR_COLS c =
    let few = c.if-cols-le-NEAR_COLS.true in
    let inner = c.requires.inner in
    record {
      above = λ i j lt e. c.after-above.ensures i j (omega (arith, lt)) (omega (arith, inner, e));
      beside = λ i j lt e. word_bit-shr c.after-above.result c.args.cols (j + c.args.cols) j refl ∙
          c.after-above.ensures i (j + c.args.cols) (omega (arith, lt, few)) (omega (arith, inner, e));
      below = λ i j lt e. word_bit-shr c.after-above.result (2 * c.args.cols) (j + 2 * c.args.cols) j refl ∙
          c.after-above.ensures i (j + 2 * c.args.cols) (omega (arith, lt, few)) (omega (arith, inner, e));
    }

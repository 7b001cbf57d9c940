use Rattle.std.proofs.Common.{get_or, sym, ap, ◌∙◌, ◌+◌, ◌*◌, ◌-◌, ◌≤◌, arith}
use Rattle.counts.proofs.Numbers.{digit_there, digit_high, decimal_more, below_next_power}
use Rattle.counts.proofs.decimal.Goals as goal

pub loop-digit-preserved : goal.loop-digit-preserved
loop-digit-preserved c =
    let ds = c.args.digits.now in
    let i = c.loop-digit.digit-index in
    let high : get_or ds i 0 ≤ 57 = digit_high (get_or ds i 0) (digit_there ds i c.requires.all c.loop-digit-test.true) in
    record {
      number = ap (λ n. n * 10 + (get_or ds i 0 - 48)) c.loop-digit.invariant.number ∙ sym (decimal_more ds i c.loop-digit-test.true);
      small = below_next_power c.loop-digit.number i (get_or ds i 0 - 48) c.loop-digit.invariant.small (omega arith);
    }

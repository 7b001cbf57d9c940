use Rattle.std.proofs.Common.{refl, arith}
use Rattle.xsb.proofs.Breaking.{zero-count}
use Rattle.xsb.proofs.FirstItem.{cut-at_digits}
use Rattle.xsb.proofs.breaks.cause_of.Goals as goal

pub times-requires : goal.times-requires
times-requires c = (cut-at_digits c.args.bytes.now _ _ c.digit_count-digits.result c.digit_count-digits.ensures.count refl refl).decimal

pub returns-then-is_none : goal.returns-then-is_none
returns-then-is_none c =
    zero-count c.args.bytes.now c.digit_count-digits.result c.times.result c.digit_count-digits.ensures.count (λ e. omega arith) (omega arith)
    c.times.ensures.none
    c.if-is_none.ensures

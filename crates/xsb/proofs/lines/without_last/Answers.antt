use Rattle.std.proofs.Common.{cond, sym, ap, ◌∙◌}
use Rattle.std.proofs.lemmas.Bool.{eq-eqb, ne_eqb}
use Rattle.xsb.proofs.LineFeeds.{without_last-end}
use Rattle.xsb.proofs.lines.without_last.Goals as goal

pub returns-then-last-byte : goal.returns-then-last-byte
returns-then-last-byte c = sym (without_last-end c.args.byte c.args.bytes.now c.in-Some.before.now c.in-Some.last.now c.in-Some.ensures.cases.0 ∙
    ap (λ t. cond t c.in-Some.before.now c.args.bytes.now) (eq-eqb _ _ c.if-last-byte.true))

pub returns-else-last-byte : goal.returns-else-last-byte
returns-else-last-byte c = sym (without_last-end c.args.byte c.args.bytes.now c.in-Some.before.now c.in-Some.last.now c.in-Some.ensures.cases.0 ∙
    ap (λ t. cond t c.in-Some.before.now c.args.bytes.now) (ne_eqb _ _ c.if-last-byte.false))

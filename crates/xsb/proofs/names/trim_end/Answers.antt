use Rattle.std.proofs.Common.{sym, ◌∙◌}
use Rattle.xsb.specs.Names.{is_blank}
use Rattle.xsb.proofs.CutEnds.{cut_end-last_blank, cut_end-last_other}
use Rattle.xsb.proofs.names.trim_end.Goals as goal

pub loop-last-preserved : goal.loop-last-preserved
loop-last-preserved c = cut_end-last_blank is_blank c.loop-last.rest.now c.in-Some.before.now c.in-Some.last.now c.in-Some.ensures.cases.0
    (sym c.is_blank.ensures ∙ c.if-not-is_blank.false) ∙ c.loop-last.invariant

pub returns-then-not-is_blank : goal.returns-then-not-is_blank
returns-then-not-is_blank c =
    sym (cut_end-last_other is_blank c.loop-last.rest.now c.in-Some.before.now c.in-Some.last.now c.in-Some.ensures.cases.0 (sym c.is_blank.ensures ∙
    c.if-not-is_blank.true)) ∙ c.loop-last.invariant

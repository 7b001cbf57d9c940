use Rattle.std.proofs.Common.{◌∙◌, sym}
use Rattle.std.proofs.lemmas.Bool.{eqb-true}
use Rattle.xsb.proofs.RowItems.{IsMeasured-floor, IsMeasured-other, IsMeasured-all}
use Rattle.xsb.proofs.rows.row_length.Goals as goal

pub loop-rest-preserved-then-not-is_floor : goal.loop-rest-preserved-then-not-is_floor
loop-rest-preserved-then-not-is_floor c = (
  _,
  IsMeasured-other c.in_ok-run.run' c.loop-rest.invariant.1 c.in_ok-run.ensures c.saturating_add-length.ensures (sym c.is_floor.ensures ∙
      c.if-not-is_floor.true),
)

pub loop-rest-preserved : goal.loop-rest-preserved
loop-rest-preserved c = (
  _,
  IsMeasured-floor c.in_ok-run.run' c.loop-rest.invariant.1 c.in_ok-run.ensures c.saturating_add-length.ensures (sym c.is_floor.ensures ∙
      c.if-not-is_floor.false),
)

pub returns : goal.returns
returns c = IsMeasured-all c.loop-rest.invariant.1 (eqb-true _ _ (sym c.is_empty.ensures ∙ c.loop-rest-test.false))

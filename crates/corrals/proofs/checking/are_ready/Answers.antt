use Rattle.std.proofs.Common.{length, ◌∙◌, refl, arith}
use Rattle.std.proofs.lemmas.Option.{slice_get_read}
use Rattle.corrals.proofs.Looks.{each_member, one_more}
use Rattle.corrals.proofs.checking.are_ready.Goals as goal

pub loop-square-preserved : goal.loop-square-preserved
loop-square-preserved c = record {
  ready = one_more _ c.args.boxes.now _ c.square-item.result c.loop-square.invariant.ready
      (slice_get_read _ (length c.args.boxes.now) _ _ refl (omega arith) c.square-item.is)
      (c.if-not-is_ready_round.ensures.ready refl);
  spare = c.if-not-is_ready_round.ensures.spare ∙ c.loop-square.invariant.spare;
}

pub returns-clause-ready : goal.returns-clause-ready
returns-clause-ready c told m allowed b there =
    each_member _ c.args.boxes.now _ (omega arith) c.loop-square.invariant.ready b there m allowed

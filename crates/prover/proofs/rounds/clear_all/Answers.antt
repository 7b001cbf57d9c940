use Rattle.std.proofs.Common.{arith, ◌∙◌}
use Rattle.std.proofs.lemmas.List.{length-set}
use Rattle.successors.proofs.lemmas.Lists.{each_set}
use Rattle.prover.specs.inside.Rounds.{IsLane}
use Rattle.prover.proofs.Dealing.{each_at}
use Rattle.prover.proofs.rounds.clear_all.Goals as goal

pub loop-index-preserved : goal.loop-index-preserved
loop-index-preserved c =
    let size = c.loop-index.invariant.all in
    record {
      lanes = λ t all start. each_set (IsLane t all) c.loop-index.lanes c.loop-index.index c.clear.new.self
          (c.clear.ensures t all (each_at (IsLane t all) c.loop-index.lanes c.loop-index.index (omega (arith, size, c.loop-index-test.true))
          (c.loop-index.invariant.lanes t all start) _)) (c.loop-index.invariant.lanes t all start);
      all = length-set c.loop-index.lanes c.loop-index.index c.clear.new.self ∙ size;
    }

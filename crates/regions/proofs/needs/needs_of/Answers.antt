use Rattle.std.proofs.Common.{◌≡◌, ◌+◌, ℕ, List, length, subst, sym}
use Rattle.regions.specs.inside.Needs.{AreNeeds}
use Rattle.regions.proofs.Tolls.{needs_pushed}
use Rattle.regions.proofs.needs.needs_of.Goals as goal

pub loop-start-preserved : goal.loop-start-preserved
loop-start-preserved c =
    let v = c.args.distances.now in
    let tolls = c.args.tolls.now in
    let step = needs_pushed v tolls c.loop-start.needs.items c.need_from.result c.loop-start.start c.loop-start.invariant.all
    c.loop-start.invariant.below c.need_from.ensures in
    record {
      all = subst (λ (xs : List ℕ). length xs ≡ c.loop-start.start + 1) (sym c.in_ok-push.ensures.items) step.0;
      below = subst (λ (xs : List ℕ). AreNeeds v tolls xs) (sym c.in_ok-push.ensures.items) step.1;
    }

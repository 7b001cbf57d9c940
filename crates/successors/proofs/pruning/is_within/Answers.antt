use Rattle.std.proofs.lemmas.Bool.{leb-true, le-leb}
use Rattle.successors.proofs.Picking.{sum_within, dead_unbounded}
use Rattle.successors.proofs.pruning.is_within.Goals as goal

pub returns-in-Some : goal.returns-in-Some
returns-in-Some c = (
  λ le. (c.in-Some.low, c.in-Some.ensures.lower, leb-true c.in-Some.low c.args.most le),
  λ within. le-leb c.in-Some.low c.args.most
      (sum_within c.args.bound.now c.args.position.now.boxes c.in-Some.low c.args.most c.in-Some.ensures.lower within),
)

pub returns-in-None : goal.returns-in-None
returns-in-None c = (
  λ e. cc,
  λ within. absurd (dead_unbounded c.args.bound.now c.args.position.now.boxes c.args.most c.in-None.ensures.lower
      within),
)

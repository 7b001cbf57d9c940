use Rattle.std.proofs.Common.{◌∙◌, sym, arith}
use Rattle.std.proofs.lemmas.Bool.{true≢false}
use Rattle.prover.proofs.Openings.{none_lost, none_over}
use Rattle.prover.proofs.Steps.{bound_rounded}
use Rattle.prover.proofs.pruner.Pruner.allowed_total.Goals as goal

pub returns-in_default-clause-none : goal.returns-in_default-clause-none
returns-in_default-clause-none c =
    none_lost c.args.self.now.board c.args.self.now.cap c.args.pushes c.args.position.now c.in_default.ensures.lost

pub returns-then-not-allowed-clause-none : goal.returns-then-not-allowed-clause-none
returns-then-not-allowed-clause-none c =
    none_over c.args.self.now.board c.args.self.now.cap c.args.pushes c.rounded-total.result c.args.position.now
    (bound_rounded c.args.self.now.board c.args.pushes c.in-Some.total c.rounded-total.result c.args.position.now c.requires.reached
    c.rounded-total.ensures.least c.in-Some.ensures.bound.1)
    (λ ok. true≢false (sym (c.allows-allowed.ensures.1 ok) ∙ c.if-not-allowed.true))

pub returns-clause-total : goal.returns-clause-total
returns-clause-total c = record {
  near = (let near = c.in-Some.ensures.bound.0 in let up = c.rounded-total.ensures.near in omega (arith, near, up));
  allowed = c.allows-allowed.ensures.0 c.if-not-allowed.false;
  bound = bound_rounded c.args.self.now.board c.args.pushes c.in-Some.total c.rounded-total.result c.args.position.now c.requires.reached
      c.rounded-total.ensures.least c.in-Some.ensures.bound.1;
}

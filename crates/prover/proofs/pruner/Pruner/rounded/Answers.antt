use Rattle.std.proofs.Common.{subst}
use Rattle.successors.specs.Problems.{Problem}
use Rattle.prover.specs.Parity.{AreOdd}
use Rattle.prover.proofs.pruner.Pruner.rounded.Goals as goal

pub returns-clause-least : goal.returns-clause-least
returns-clause-least c = λ n some le.
    c.next_of.ensures.least n (subst (λ (t : Problem). AreOdd t.board c.self.inside.odd) c.self.view_is c.self.invariant.1 n some) le

use Rattle.std.proofs.Common.{rules, tests}
use Rattle.std.proofs.lemmas.Iterator.{cases_from_any, YieldsList-from_slice}
use Rattle.doom.specs.Deadlocks.{IsDead}
use Rattle.doom.proofs.Search.{any_tells}
use Rattle.doom.proofs.freeze.any_dead.Goals as goal

pub returns : goal.returns
returns c =
    let board = c.args.dead.now in
    any_tells (IsDead board) (λ q. ¬ (IsDead board q)) _ c.args.boxes.now (λ q no yes. no yes)
    (cases_from_any _ _ _ (IsDead board) (λ q. ¬ (IsDead board q)) c.any.ensures.ran (YieldsList-from_slice c.args.boxes.now cc)
    (λ x q k. search (rules, tests)) (λ x q k. search (rules, tests)))

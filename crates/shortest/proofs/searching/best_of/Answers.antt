use Rattle.std.proofs.Common.{IfOk, length, subst, sym}
use Rattle.lurd.specs.Verdict.{IsVerdict}
use Rattle.lurd.specs.declared.verdict.Verdict.TheVariants.{Solved}
use Rattle.prices.specs.Searching.{SomeHas}
use Rattle.shortest.specs.Shortest.{NoneIsBetter}
use Rattle.shortest.specs.inside.Listing.{StatesView}
use Rattle.shortest.proofs.searching.best_of.Goals as goal

pub least_moves-requires : goal.least_moves-requires
least_moves-requires c = subst (λ (v : StatesView). SomeHas v.board v.most) (sym c.of-states.ensures) c.requires.some

pub returns : goal.returns
returns c = subst (λ (v : StatesView). IfOk c.least_moves.result (λ moves. IsVerdict v.board moves (Solved v.most (length moves)) ×
    NoneIsBetter v.board v.most (length moves))) c.of-states.ensures c.least_moves.ensures

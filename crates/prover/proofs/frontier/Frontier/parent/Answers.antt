use Rattle.std.proofs.Common.{◌≡◌, Some, sym, subst}
use Rattle.std.specs.Prelude.{slice_get}
use Rattle.store.specs.Visited.{VisitedView}
use Rattle.prover.proofs.frontier.Frontier.parent.Goals as goal

pub returns : goal.returns
returns c = λ x at. (c.label.ensures x (subst (λ (v : VisitedView). slice_get v.entries c.args.place ≡ Some x) (sym c.self.view_is) at)).2

use Rattle.std.proofs.Common.{rules, sym, subst}
use Rattle.store.specs.Visited.{VisitedView}
use Rattle.store.specs.FoundView.{FitsGrid}
use Rattle.store.proofs.Bytes.{suits}
use Rattle.store.proofs.labels.Labels.find.Goals as goal

pub of-requires : goal.of-requires
of-requires g c =
    let a = c.self.inside in (
      search rules,
      (
        c.self.invariant.0,
        suits g.row.N g.row.M a.boxes a.squares c.args.position.now c.self.invariant.1
            (subst (λ (v : VisitedView). FitsGrid v.boxes v.squares c.args.position.now) (sym c.self.view_is) c.requires.fits),
      ),
    )

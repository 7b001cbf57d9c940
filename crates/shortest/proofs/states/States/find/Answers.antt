use Rattle.std.proofs.Common.{subst, sym}
use Rattle.grid.specs.States.{FitsLevel}
use Rattle.shortest.specs.inside.Listing.{StatesView}
use Rattle.store.specs.Places.{IsPlaceOf}
use Rattle.store.proofs.lemmas.Fitting.{level_fits}
use Rattle.shortest.proofs.states.States.find.Goals as goal

pub find-requires : goal.find-requires
find-requires c = record {
  fits = level_fits c.self.inside.level.now _ _ c.args.state.now c.self.invariant.1 c.self.invariant.2
      (subst (λ (v : StatesView). FitsLevel v.board c.args.state.now) (sym c.self.view_is) c.requires);
}

pub returns : goal.returns
returns c = subst (λ (v : StatesView). IsPlaceOf v.entries c.args.state.now c.find.result) c.self.view_is c.find.ensures

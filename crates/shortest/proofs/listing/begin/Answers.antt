use Rattle.std.proofs.Common.{◌∙◌, subst, sym}
use Rattle.grid.specs.States.{FitsLevel}
use Rattle.store.proofs.lemmas.Fitting.{level_fits}
use Rattle.shortest.proofs.Layering.{start_listed}
use Rattle.shortest.proofs.listing.begin.Goals as goal

pub enter-requires : goal.enter-requires
enter-requires c = record {
  fits = level_fits c.args.level.now _ _ c.args.first.now c.requires.size.boxes c.requires.size.squares
      (subst (FitsLevel c.args.level.now) (sym c.requires.first) c.requires.fits);
}

pub returns : goal.returns
returns c = λ most. record {
  listed = start_listed c.args.level.now most c.args.listed.now.entries c.enter.new.self.entries c.args.first.now
      c.label_of.result _ c.requires.empty
      c.requires.first c.requires.fits c.label_of.ensures c.in_ok-enter.ensures.ok;
  boxes = c.enter.ensures.boxes ∙ c.requires.size.boxes;
  squares = c.enter.ensures.squares ∙ c.requires.size.squares;
}

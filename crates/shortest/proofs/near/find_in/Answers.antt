use Rattle.store.proofs.lemmas.Fitting.{level_fits}
use Rattle.shortest.proofs.near.find_in.Goals as goal

pub enter-requires : goal.enter-requires
enter-requires g c = record {
  fits = level_fits c.args.bounds.now.board _ _ c.args.start.now c.requires.list.boxes c.requires.list.squares
      c.requires.fits;
}

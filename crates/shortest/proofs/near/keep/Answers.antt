use Rattle.std.proofs.Common.{rules}
use Rattle.grid.specs.States.{FitsLevel}
use Rattle.store.proofs.lemmas.Fitting.{level_fits}
use Rattle.shortest.proofs.near.keep.Goals as goal

pub enter-requires : goal.enter-requires
enter-requires c =
    let fits : FitsLevel c.args.level.now c.position-state.result = search rules in
    record {
      fits = level_fits c.args.level.now c.args.kept.now.boxes c.args.kept.now.squares c.position-state.result
          c.requires.boxes c.requires.squares fits;
    }

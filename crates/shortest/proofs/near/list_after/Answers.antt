use Rattle.std.proofs.Common.{◌<◌, length, sym, subst}
use Rattle.grid.specs.Board.{Board}
use Rattle.grid.proofs.lemmas.Steps.{inside_grid}
use Rattle.store.proofs.lemmas.Fitting.{level_fits}
use Rattle.shortest.proofs.near.list_after.Goals as goal

pub next-ahead-requires : goal.next-ahead-requires
next-ahead-requires c =
    subst (λ (b : Board). c.args.push.square < length b.cells) (sym c.level.ensures)
    (inside_grid c.args.bounds.now.board c.args.push.square (c.requires.fits.scene.boxes c.args.push.square c.requires.possible.there))

pub next-behind-requires : goal.next-behind-requires
next-behind-requires c =
    subst (λ (b : Board). c.args.push.square < length b.cells) (sym c.level-2.ensures)
    (inside_grid c.args.bounds.now.board c.args.push.square (c.requires.fits.scene.boxes c.args.push.square c.requires.possible.there))

pub enter-requires-clause-before : goal.enter-requires-clause-before
enter-requires-clause-before c =
    level_fits c.args.bounds.now.board c.args.kept.now.boxes c.args.kept.now.squares c.in-Some-after.after
    c.requires.before.boxes c.requires.before.squares c.in-Some-after.ensures.fits

pub enter-requires-clause-list : goal.enter-requires-clause-list
enter-requires-clause-list c =
    level_fits c.args.bounds.now.board c.args.listed.now.boxes c.args.listed.now.squares c.in-Some-after.after
    c.requires.list.boxes c.requires.list.squares c.in-Some-after.ensures.fits

use Rattle.std.proofs.Common.{sym, ◌∙◌}
use Rattle.std.proofs.lemmas.Bool.{false≢true}
use Rattle.successors.proofs.lemmas.Successors.{come_by, successor_is}
use Rattle.successors.proofs.pushing.make_successor.Goals as goal

pub returns-clause-some : goal.returns-clause-some
returns-clause-some c = λ done.
    let board = c.args.parent.now.level.now in
    let n = c.args.parent.now.position.now in
    let made = c.make_after.ensures.made done in (
      successor_is board n c.requires.ready.fits.scene c.args.push c.requires.undoomed c.requires.possible
          ((c.make_after.ensures.undoomed c.requires.undoomed).0 done) c.make_after.new.moved made.0,
      made.1,
    )

pub returns-clause-none : goal.returns-clause-none
returns-clause-none c = λ no m come.
    let board = c.args.parent.now.level.now in
    let n = c.args.parent.now.position.now in
    false≢true (sym no ∙ (c.make_after.ensures.undoomed c.requires.undoomed).1 (come_by board n c.requires.ready.fits.scene c.args.push m come).safe)

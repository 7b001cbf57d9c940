-- A lawful level has no fault; all faults behind the first one are told in turn.
use Rattle.std.proofs.Common.{[], Result, subst}
use Rattle.grid.specs.Board.{Board}
use Rattle.grid.specs.Lawful.{IsLevel}
use Rattle.grid.specs.declared.fault.LevelFault.{LevelFault}
use Rattle.xsb.specs.Collection.{IsJudged}
use Rattle.sokopar.specs.inside.Explaining.{board_in}
use Rattle.sokopar.proofs.Behind.{adds_further, adds_none, lawful_faults}
use Rattle.sokopar.proofs.further.put_further.Goals as goal

pub returns-in_default : goal.returns-in_default
returns-in_default c =
    let board = board_in c.args.rows.now in
    let judged = subst (λ (b : Result Board LevelFault). IsJudged board b) c.in_default.is c.requires.judged in (
      [],
      lawful_faults board c.args.exit.now (subst IsLevel judged.0 judged.1) c.requires.exit,
      adds_none board c.args.rows.now.places.items c.args.text.now,
    )

pub returns : goal.returns
returns c =
    let board = board_in c.args.rows.now in
    adds_further c.put_open.result board c.args.rows.now.places.items c.in-Err.first c.args.exit.now c.args.text.now c.put_unequal.new.text
    c.put_open.new.text c.requires.bounds.tall c.requires.bounds.wide
    (subst (λ (b : Result Board LevelFault). IsJudged board b) c.in-Err.is c.requires.judged) c.requires.exit c.in_ok-put_unequal.ensures
    c.put_open.ensures

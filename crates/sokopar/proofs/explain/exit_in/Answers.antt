-- The player of a lawful level does not get out.
use Rattle.std.proofs.Common.{Result, subst}
use Rattle.grid.specs.Board.{Board}
use Rattle.grid.specs.Lawful.{IsLevel}
use Rattle.grid.specs.declared.fault.LevelFault.{LevelFault}
use Rattle.xsb.specs.Collection.{IsJudged}
use Rattle.sokopar.specs.inside.Explaining.{board_in}
use Rattle.sokopar.proofs.explain.exit_in.Goals as goal

pub returns-in-Ok : goal.returns-in-Ok
returns-in-Ok c = λ way.
    let judged = subst (λ (b : Result Board LevelFault). IsJudged (board_in c.args.rows.now) b) c.in-Ok.is c.requires.judged in
    (subst IsLevel judged.0 judged.1).lawful.closed way.1

-- The remark is on the board that was read, as it is judged.
use Rattle.std.proofs.Common.{Result, IfOk, sym, subst}
use Rattle.grid.specs.Board.{Board}
use Rattle.grid.specs.declared.fault.LevelFault.{LevelFault}
use Rattle.xsb.specs.Collection.{IsJudged}
use Rattle.sokopar.specs.Explaining.{IsRemarkOn, IsRemarkOnLevel}
use Rattle.sokopar.specs.inside.Explaining.{board_in}
use Rattle.sokopar.proofs.explain.remark_of.Goals as goal

pub returns-in_ok-goals-in-Ok : goal.returns-in_ok-goals-in-Ok
returns-in_ok-goals-in-Ok c =
    let board = board_in c.args.rows.now in
    let judged = subst (λ (b : Result Board LevelFault). IsJudged board b) c.in-Ok.is c.requires.judged in
    let remark = subst (λ (b : Board). IfOk c.remark_of_level.result (IsRemarkOnLevel b)) judged.0 c.remark_of_level.ensures in
    subst (λ (b : Result Board LevelFault). IfOk c.remark_of_level.result (IsRemarkOn b board)) (sym c.in-Ok.is) remark

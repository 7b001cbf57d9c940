-- What is found fits the board.
use Rattle.std.proofs.Common.{Result, ap, subst}
use Rattle.grid.specs.Board.{Board}
use Rattle.grid.specs.declared.fault.LevelFault.{LevelFault}
use Rattle.xsb.specs.declared.entry.Entry.{Entry}
use Rattle.sokopar.specs.Entries.{listed_of}
use Rattle.sokopar.specs.Explaining.{IsRemarkOn}
use Rattle.sokopar.specs.inside.Explaining.{board_in}
use Rattle.sokopar.specs.inside.Pages.{Tells}
use Rattle.sokopar.proofs.Explanations.{found-told}
use Rattle.sokopar.proofs.explain.put_judged.Goals as goal

pub returns : goal.returns
returns c = λ n is.
    let same = ap (λ (e : Entry). e.board) c.in_ok-listed.ensures in
    let board = board_in c.args.rows.now in
    found-told c.put_found.result c.in_ok-remark.remark (IsRemarkOn c.args.entry.board board)
    (λ one. Tells c.args.wanted n (listed_of c.args.entry) board c.args.rows.now.places.items one c.args.page.now c.put_found.new.page)
    (subst (λ (b : Result Board LevelFault). IsRemarkOn b board c.in_ok-remark.remark) same c.in_ok-remark.ensures)
    (c.put_found.ensures n (listed_of c.args.entry) is same)

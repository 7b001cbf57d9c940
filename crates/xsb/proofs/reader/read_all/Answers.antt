use Rattle.std.proofs.Common.{sym, subst}
use Rattle.xsb.specs.inside.Progress.{GivesNext}
use Rattle.xsb.proofs.BoardByBoard.{HasEntries, HasEntries-more}
use Rattle.xsb.proofs.reader.read_all.Goals as goal

pub boards-preserved : goal.boards-preserved
boards-preserved c = λ bytes has.
    let so_far = c.boards.invariant bytes has in
    let next = subst (λ n. GivesNext bytes so_far.founds c.next_board.new.self n) c.in-Some.is (c.in_ok-board.ensures.next bytes so_far.founds so_far.read) in
    subst (λ es. HasEntries bytes c.next_board.new.self es) (sym c.in_ok-push.ensures.items)
    (HasEntries-more c.next_board.new.self c.in-Some.board c.in_ok-entry.entry so_far next c.in_ok-entry.ensures)

pub returns : goal.returns
returns c = λ bytes has.
    let so_far = c.boards.invariant bytes has in (
      so_far.founds,
      subst (λ n. GivesNext bytes so_far.founds c.next_board.new.self n) c.in_default.is
          (c.in_ok-board.ensures.next bytes so_far.founds so_far.read),
      so_far.each,
    )

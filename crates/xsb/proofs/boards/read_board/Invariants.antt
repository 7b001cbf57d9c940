use Rattle.std.proofs.Common.{length}
use Rattle.xsb.proofs.GapsAndBoards.{IsRead}
use Rattle.xsb.proofs.boards.read_board.Given as goal

abbrev pub invariant-rows : goal.invariant-rows
invariant-rows l = IsRead l.fn.lines l.lines l.size l.beyond l.first_line l.first

abbrev pub decreases-rows : goal.decreases-rows
decreases-rows l = length l.lines.rest

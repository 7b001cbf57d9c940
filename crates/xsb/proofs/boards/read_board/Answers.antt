use Rattle.xsb.proofs.GapsAndBoards.{IsRead-more}
use Rattle.xsb.proofs.boards.read_board.Goals as goal

pub rows-preserved : goal.rows-preserved
rows-preserved c = IsRead-more c.skip.new.self c.in-Some-line_size.more c.with-size.result c.with-beyond.result c.in-Some.line.now c.rows.invariant c.in-Some.ensures
    c.in-Some-line_size.ensures c.skip.ensures.rest c.skip.ensures.number c.with-size.ensures c.with-beyond.ensures

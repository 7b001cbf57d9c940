-- One board more is checked, or none is left.
use Rattle.std.proofs.Common.{rules}
use Rattle.sokopar.proofs.Listings.{checked_next, checked_end}
use Rattle.sokopar.proofs.check.check_report.Goals as goal

pub boards-preserved-in_ok-put_line : goal.boards-preserved-in_ok-put_line
boards-preserved-in_ok-put_line c =
    checked_next c.next_board.new.self _ c.in-Some.entry c.put_line.new.text c.good_with-good.result c.boards.invariant c.in_ok-entry.ensures.next
    c.in-Some.is (search rules) c.good_with-good.ensures (search rules)

pub boards-preserved : goal.boards-preserved
boards-preserved c =
    checked_next c.next_board.new.self _ c.in-Some.entry c.put_line.new.text c.good_with-good.result c.boards.invariant c.in_ok-entry.ensures.next
    c.in-Some.is (search rules) c.good_with-good.ensures (search rules)

pub returns : goal.returns
returns c = checked_end c.next_board.new.self _ c.new.result c.boards.invariant c.in_ok-entry.ensures.next c.in_default-2.is (search rules)

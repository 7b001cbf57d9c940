-- One board more is looked at, or none is left.
use Rattle.std.proofs.Common.{rules, ap}
use Rattle.sokopar.proofs.Listings.{looked_here, looked_on, looked_all}
use Rattle.sokopar.proofs.listing.level_of.Goals as goal

pub boards-preserved-then-count-number : goal.boards-preserved-then-count-number
boards-preserved-then-count-number c =
    looked_here c.next_board.new.self _ c.in-Some.entry c.in_ok-listed.listed.board c.boards.invariant c.in_ok-entry.ensures.next c.in-Some.is
    (search rules) c.if-count-number.true (ap (λ e. e.board) c.in_ok-listed.ensures)

pub boards-preserved-else-count-number : goal.boards-preserved-else-count-number
boards-preserved-else-count-number c =
    looked_on c.next_board.new.self _ c.in-Some.entry c.boards.invariant c.in_ok-entry.ensures.next c.in-Some.is (search rules) c.requires.number
    c.if-count-number.false

pub boards-preserved : goal.boards-preserved
boards-preserved c =
    looked_on c.next_board.new.self _ c.in-Some.entry c.boards.invariant c.in_ok-entry.ensures.next c.in-Some.is (search rules) c.requires.number
    c.if-count-number.false

pub returns : goal.returns
returns c = looked_all c.next_board.new.self _ c.boards.invariant c.in_ok-entry.ensures.next c.in_default-2.is

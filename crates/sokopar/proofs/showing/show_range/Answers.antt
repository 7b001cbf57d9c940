-- One level more is shown, or none is left.
use Rattle.std.proofs.Common.{rules, ◌≡◌, ◌++◌, subst}
use Rattle.xsb.specs.inside.Progress.{GivesNext}
use Rattle.sokopar.proofs.Shown.{shown-beyond, shown-more, shown-within}
use Rattle.sokopar.proofs.showing.show_range.Goals as goal

pub boards-preserved : goal.boards-preserved
boards-preserved c =
    let so_far = c.boards.invariant in
    let next = subst (λ n. GivesNext c.args.bytes.now so_far.so_far.founds c.next_board.new.self n) c.in-Some.is
    (c.in_ok-board.ensures.next c.args.bytes.now so_far.so_far.founds so_far.so_far.read) in
    shown-more c.next_board.new.self c.in-Some.board c.put_in_range.new.text c.faulty_with-faulty.result so_far next (search rules) (search rules)
    c.faulty_with-faulty.ensures

pub returns-then-number-from : goal.returns-then-number-from
returns-then-number-from c =
    let so_far = c.boards.invariant in
    let all = subst (λ n. GivesNext c.args.bytes.now so_far.so_far.founds c.next_board.new.self n) c.in_default-2.is
    (c.in_ok-board.ensures.next c.args.bytes.now so_far.so_far.founds so_far.so_far.read) in
    shown-beyond c.next_board.new.self so_far all c.no_level.result c.if-number-from.true c.no_level.ensures

pub returns : goal.returns
returns c =
    let so_far = c.boards.invariant in
    let all = subst (λ n. GivesNext c.args.bytes.now so_far.so_far.founds c.next_board.new.self n) c.in_default-2.is
    (c.in_ok-board.ensures.next c.args.bytes.now so_far.so_far.founds so_far.so_far.read) in
    shown-within c.next_board.new.self so_far all c.new.result c.if-number-from.false (search rules)

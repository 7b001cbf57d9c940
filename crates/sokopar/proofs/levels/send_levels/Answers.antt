-- One level more is reported, or none is left.
use Rattle.std.proofs.Common.{rules}
use Rattle.sokopar.proofs.ByLine.{reported_all, reported_inside, reported_outside, stopped_between, stopped_first, stopped_within}
use Rattle.sokopar.proofs.levels.send_levels.Goals as goal

pub returns-in_err-send_line-clause-err : goal.returns-in_err-send_line-clause-err
returns-in_err-send_line-clause-err g c =
    stopped_first _ c.args.request _ c.in-Ok.collection _ _ _ c.from_residual.result c.in_err-send_line.field-0.0 (search rules) c.in-Ok.ensures.begins
    c.head_of.ensures c.in_err-send_line.ensures.err

pub returns-in_err-board-clause-err : goal.returns-in_err-board-clause-err
returns-in_err-board-clause-err g c = stopped_between _ _ _ _ _ _ _ _ c.from_residual-in_err-board.result (search rules) c.boards.invariant

pub returns-in_err-text-clause-err : goal.returns-in_err-text-clause-err
returns-in_err-text-clause-err g c = stopped_between _ _ _ _ _ _ _ _ c.from_residual-in_err-text.result (search rules) c.boards.invariant

pub returns-in_err-keep-clause-err : goal.returns-in_err-keep-clause-err
returns-in_err-keep-clause-err g c = stopped_between _ _ _ _ _ _ _ _ c.from_residual-in_err-keep.result (search rules) c.boards.invariant

pub returns-in_err-send_line-2-clause-err : goal.returns-in_err-send_line-2-clause-err
returns-in_err-send_line-2-clause-err g c =
    stopped_within c.next_board.new.self _ c.in-Some.board (record { text = c.in_ok-text.text; kind = c.in_ok-text.kind }) _ _
    c.from_residual-in_err-send_line-2.result c.in_err-send_line-2.field-0.0 (search rules) c.boards.invariant c.in_ok-board.ensures.next c.in-Some.is
    c.if-is_between.ensures c.in_ok-text.ensures c.as_slice.ensures c.in_err-send_line-2.ensures.err

pub boards-preserved-then-is_between : goal.boards-preserved-then-is_between
boards-preserved-then-is_between g c =
    reported_inside c.next_board.new.self _ c.in-Some.board (record { text = c.in_ok-text.text; kind = c.in_ok-text.kind }) c.keep.new.kinds.items _ _
    c.boards.invariant c.in_ok-board.ensures.next c.in-Some.is (search rules) c.if-is_between.ensures c.in_ok-text.ensures c.in_ok-keep.ensures
    c.as_slice.ensures c.in_ok-send_line-2.ensures.ok

pub boards-preserved-else-is_between : goal.boards-preserved-else-is_between
boards-preserved-else-is_between g c =
    reported_outside c.next_board.new.self _ c.in-Some.board c.boards.invariant c.in_ok-board.ensures.next c.in-Some.is (search rules)
    c.if-is_between.ensures

pub boards-preserved : goal.boards-preserved
boards-preserved g c =
    reported_outside c.next_board.new.self _ c.in-Some.board c.boards.invariant c.in_ok-board.ensures.next c.in-Some.is (search rules)
    c.if-is_between.ensures

pub returns-clause-ok : goal.returns-clause-ok
returns-clause-ok g c = reported_all c.next_board.new.self _ c.boards.invariant c.in_ok-board.ensures.next c.in_default-2.is

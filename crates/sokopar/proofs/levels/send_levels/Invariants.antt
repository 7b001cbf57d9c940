-- The lines of the levels so far are written.
use Rattle.xsb.specs.inside.Progress.{lines_left}
use Rattle.sokopar.specs.Levels.{IsLine}
use Rattle.sokopar.proofs.ByLine.{HasReported}
use Rattle.sokopar.proofs.levels.send_levels.Given as goal

abbrev pub invariant-boards : goal.invariant-boards
invariant-boards g l = HasReported (IsLine (g.J.Judge.is_right l.judge) l.request) l.request l.bytes l.collection l.number l.kinds.items
    (g.K.Sink.seen l.fn.sink) (g.K.Sink.seen l.sink)

abbrev pub decreases-boards : goal.decreases-boards
decreases-boards g l = lines_left l.collection

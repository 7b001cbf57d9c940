-- The squares before this place were looked round from.
use Rattle.std.proofs.Common.{drop}
use Rattle.grid.specs.inside.Filling.{IsFilling, work}
use Rattle.sokopar.specs.inside.Explaining.{board_in}
use Rattle.sokopar.proofs.exits.first_exit.Given as goal

abbrev pub invariant-turns : goal.invariant-turns
invariant-turns l = IsFilling (board_in l.rows) l.marks (drop l.turn l.pending.items)

abbrev pub decreases-turns : goal.decreases-turns
decreases-turns l = work l.marks (drop l.turn l.pending.items)

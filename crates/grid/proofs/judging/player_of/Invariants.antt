use Rattle.std.proofs.Common.{◌≡◌, [], take}
use Rattle.grid.specs.Board.{player_cell}
use Rattle.grid.specs.Squares.{places_from}
use Rattle.grid.proofs.judging.player_of.Given as goal

abbrev pub invariant-loop-i : goal.invariant-loop-i
invariant-loop-i l = places_from player_cell 0 (take l.i l.cells) ≡ []

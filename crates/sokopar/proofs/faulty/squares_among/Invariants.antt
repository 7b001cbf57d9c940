-- The squares so far are those of the cells so far.
use Rattle.std.proofs.Common.{◌≡◌, take}
use Rattle.grid.specs.Squares.{places_from}
use Rattle.sokopar.specs.inside.Explaining.{is_kind}
use Rattle.sokopar.proofs.faulty.squares_among.Given as goal

abbrev pub invariant-loop-place : goal.invariant-loop-place
invariant-loop-place l = l.squares.items ≡ places_from (is_kind l.kind) 0 (take l.place l.cells)

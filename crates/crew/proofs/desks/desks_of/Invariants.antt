use Rattle.std.proofs.Common.{◌≤◌, length}
use Rattle.crew.specs.inside.Desks.{AreRoomy}
use Rattle.crew.proofs.desks.desks_of.Given as goal

abbrev pub invariant-loop : goal.invariant-loop
invariant-loop l = (length l.desks.items ≤ l.counter) × AreRoomy (length l.level.cells) l.desks.items

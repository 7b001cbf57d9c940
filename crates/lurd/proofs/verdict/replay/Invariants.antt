use Rattle.std.proofs.Common.{◌≤◌}
use Rattle.grid.specs.States.{IsScene}
use Rattle.lurd.proofs.Replaying.{LeadTo}
use Rattle.lurd.proofs.verdict.replay.Given as goal

-- the letters so far lead to the state, with as many pushes as were counted
abbrev pub invariant-loop-index : goal.invariant-loop-index
invariant-loop-index l = record {
  scene : IsScene l.level l.state;
  few : l.pushes ≤ l.index;
  lead : LeadTo l.level l.letter-items l.index l.pushes l.state;
}

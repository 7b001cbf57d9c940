use Rattle.std.proofs.Common.{◌≡◌, ◌≤◌, take}
use Rattle.successors.specs.ParcelView.{FitLevel}
use Rattle.successors.specs.inside.Expanding.{AreFilled}
use Rattle.successors.proofs.Gathering.{AreSuccessorsBy}
use Rattle.successors.proofs.pushing.successors_by.Given as goal

abbrev pub invariant-loop-push : goal.invariant-loop-push
invariant-loop-push l = record {
  successors : AreSuccessorsBy l.parent.level.now l.parent.position.now l.push-index l.pushes (take l.count l.slots.successors.items);
  fits : FitLevel l.parent.level.now (take l.count l.slots.successors.items);
  bound : l.count ≤ l.push-index;
  filled : AreFilled l.count l.slots;
  kept : l.scratch ≡ l.fn.scratch;
}

use Rattle.std.proofs.Common.{◌≤◌, length, take}
use Rattle.claims.specs.declared.views.Hand.{Hand}
use Rattle.crew.specs.inside.Batches.{AreOfLayer}
use Rattle.crew.specs.inside.Ends.{IsEquipped}
use Rattle.crew.specs.inside.Events.{HasLeft}
use Rattle.crew.proofs.worker.by_batches.Given as goal

abbrev pub invariant-loop : goal.invariant-loop
invariant-loop g l =
    (goal.iterator-loop g).can_next l.iterator' × (goal.iterator-loop g).is_finite l.iterator' × (l.filled ≤ length l.parcels)
    × AreOfLayer l.fn.worker.shared.now.layer (take l.filled l.parcels) × IsEquipped l.fn.worker.shared.now l.fn.worker.number l.scratch l.drawer
    × ((hand : Hand) → HasLeft (g.G.Gate.may_answer l.fn.worker.gate.now l.fn.worker.shared.now.layer.number l.fn.worker.number) l.fn.worker.shared.now.books 1 hand l.fn.drawer.hand l.fn.nth →
    HasLeft (g.G.Gate.may_answer l.fn.worker.gate.now l.fn.worker.shared.now.layer.number l.fn.worker.number) l.fn.worker.shared.now.books l.filled hand l.drawer.hand l.nth)

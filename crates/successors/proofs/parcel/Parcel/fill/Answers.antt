use Rattle.std.proofs.Common.{sym, take}
use Rattle.successors.proofs.Picking.{under_cap}
use Rattle.successors.proofs.parcel.Parcel.fill.Goals as goal

pub returns-clause-successors : goal.returns-clause-successors
returns-clause-successors c =
    let s = c.args.ranked.now in
    under_cap c.args.problem.now c.level.result.now s.cap c.level.ensures (sym c.requires.cap) s.layer s.position
    (take c.successors_of-self-inside.result c.successors_of-self-inside.new.buffers.slots.successors.items)
    c.successors_of-self-inside.ensures.successors

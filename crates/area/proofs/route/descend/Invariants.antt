use Rattle.std.proofs.Common.{◌<◌, slice_index}
use Rattle.area.specs.declared.spread.TheConstants.{BOX_MARK}
use Rattle.area.specs.inside.Descent.{IsDescending}
use Rattle.area.proofs.route.descend.Given as goal

abbrev pub invariant-loop-to : goal.invariant-loop-to
invariant-loop-to l =
    (BOX_MARK < slice_index l.marks l.square) × IsDescending l.level BOX_MARK l.to (λ q. slice_index l.marks q) l.fn.from l.square l.fn.moves l.moves

abbrev pub decreases-loop-to : goal.decreases-loop-to
decreases-loop-to l = slice_index l.marks l.square

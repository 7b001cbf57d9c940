use Rattle.successors.proofs.Picking.{IsPicking}
use Rattle.successors.proofs.Bringing.{AreBrought}
use Rattle.successors.proofs.pruning.pick.Given as goal

abbrev pub invariant-loop-place : goal.invariant-loop-place
invariant-loop-place l = IsPicking l.bound l.most l.initial.slots l.slots l.kept l.place × AreBrought l.slots l.initial.sums l.sums l.kept l.place

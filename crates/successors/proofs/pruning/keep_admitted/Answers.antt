use Rattle.std.proofs.Common.{◌-◌, take, arith}
use Rattle.successors.proofs.Picking.{picked_successors, picked_fit}
use Rattle.successors.proofs.pruning.keep_admitted.Goals as goal

pub returns-clause-fits : goal.returns-clause-fits
returns-clause-fits c = picked_fit c.args.bound.now (c.from-most.result - c.args.layer - 1) (take c.args.count c.args.slots.now)
    (take c.pick.result c.pick.new.slots) c.pick.ensures.picked c.requires.fits

pub returns-clause-successors : goal.returns-clause-successors
returns-clause-successors c = λ n before.
    picked_successors c.args.bound.now c.args.most (c.from-most.result - c.args.layer - 1) c.args.layer n (take c.args.count c.args.slots.now)
    (take c.pick.result c.pick.new.slots) (omega (arith, c.if-layer-most.false, c.from-most.ensures)) c.pick.ensures.picked before

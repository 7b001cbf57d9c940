use Rattle.std.proofs.Common.{rules}
use Rattle.grid.specs.declared.limits.TheConstants.{MAX_BOXES}
use Rattle.corrals.proofs.Frozen.{ahead_alone, each_moved, frozen_among}
use Rattle.corrals.proofs.freezing.freezes.Goals as goal

pub any_frozen-requires-clause-inside : goal.any_frozen-requires-clause-inside
any_frozen-requires-clause-inside c q there =
    let alone = ahead_alone c.args.ground.now.board c.args.boxes.now c.args.square c.next-ahead.result MAX_BOXES
    (search rules) in
    (each_moved c.args.ground.now.board c.args.boxes.now c.args.square _ q c.put_others.new.moved
    (c.put_others.ensures alone) there).0

pub returns-clause-freezes : goal.returns-clause-freezes
returns-clause-freezes c told =
    let alone = ahead_alone c.args.ground.now.board c.args.boxes.now c.args.square c.next-ahead.result MAX_BOXES
    (search rules) in
    frozen_among _ c.args.boxes.now c.args.square c.args.dir c.put_others.new.moved
    (rw c.next-ahead.ensures at (c.put_others.ensures alone)) (c.any_frozen.ensures.frozen told)

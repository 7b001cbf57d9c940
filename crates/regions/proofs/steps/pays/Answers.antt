use Rattle.regions.proofs.Passing.{covered}
use Rattle.regions.proofs.steps.pays.Goals as goal

pub returns-then-is_covered : goal.returns-then-is_covered
returns-then-is_covered c = λ _. covered c.args.table.now c.args.set.now.bits c.args.set.now.high c.args.set.now.low c.args.row
    c.byte-before.result c.args.push.now c.requires.row c.byte-before.ensures (c.is_covered.ensures c.if-is_covered.true)

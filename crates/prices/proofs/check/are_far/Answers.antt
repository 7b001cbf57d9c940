use Rattle.std.proofs.lemmas.Bool.{and_parts}
use Rattle.prices.proofs.Checking.{are_far}
use Rattle.prices.proofs.check.are_far.Goals as goal

pub returns-clause-far : goal.returns-clause-far
returns-clause-far c all =
    let last = and_parts _ c.lessen_by_one-less.result all in
    let first = and_parts c.keep_rows-kept.result c.are_zero_at_home-none.result last.0 in
    are_far c.args.level.now c.args.table.now c.requires (c.keep_rows-kept.ensures first.0)
    (c.are_zero_at_home-none.ensures first.1) (c.lessen_by_one-less.ensures last.1)

-- Below two pushes no search is needed.
use Rattle.std.proofs.Common.{arith}
use Rattle.sokopar.proofs.compare.compare.Goals as goal

pub beside_fewest_pushes-known-requires-clause-fewest : goal.beside_fewest_pushes-known-requires-clause-fewest
beside_fewest_pushes-known-requires-clause-fewest g c =
    c.solutions_are_alike.ensures.few c.tell.ensures c.args.given.pushes c.requires.some (omega (arith, c.if-given-lt2.true))

pub returns-then-given-lt2 : goal.returns-then-given-lt2
returns-then-given-lt2 g c =
    c.judged.ensures c.args.settings c.args.level.now
    (c.solutions_are_alike.ensures.few c.tell.ensures c.args.given.pushes c.requires.some (omega (arith, c.if-given-lt2.true)))
    c.beside_fewest_pushes-known.ensures

-- The guess has more pushes than the bound, or as many and thus the fewest; or there is none.
use Rattle.std.proofs.Common.{◌<◌, length, inr, arith}
use Rattle.judging.specs.declared.judgement.MovesClaim.TheVariants.{Counted}
use Rattle.sokopar.proofs.Judging.{beside_found, beside_open, fewer_is_better, fewest_at_bound}
use Rattle.sokopar.proofs.search.known_at_limit.Goals as goal

pub returns-in_default : goal.returns-in_default
returns-in_default g c =
    beside_open c.args.settings c.args.level.now c.args.given c.given_known.result c.args.bound c.args.reached c.given_known.ensures c.requires.least
    c.requires.open c.requires.more

pub returns-then-at_least-pushes : goal.returns-then-at_least-pushes
returns-then-at_least-pushes g c =
    let set = c.args.settings in
    let letters = c.in-Some.moves in
    let pushes = c.in-Some.pushes in
    let (solved, within, fewer) = c.in-Some.ensures in
    let most : c.args.bound < pushes = omega (arith, c.if-at_least-pushes.true) in
    beside_found set c.args.level.now c.args.given c.found_known.result letters pushes c.args.bound Counted c.args.reached c.found_known.ensures
    solved within c.requires.least (fewer_is_better set c.args.given pushes (length letters) fewer) (inr (most, c.requires.open))

pub with_fewest_pushes-requires-clause-fewest : goal.with_fewest_pushes-requires-clause-fewest
with_fewest_pushes-requires-clause-fewest g c =
    fewest_at_bound c.args.level.now c.args.bound c.in-Some.pushes c.requires.least (omega (arith, c.if-at_least-pushes.false))

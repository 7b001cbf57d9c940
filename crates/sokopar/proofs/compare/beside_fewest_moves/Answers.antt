-- One of two solutions with the fewest pushes has the fewest moves, and the other has as many or more.
use Rattle.std.proofs.Common.{◌≤◌, ◌<◌, Some, length, inl, inr, refl, arith}
use Rattle.judging.specs.declared.judgement.LimitKind.TheVariants.{Positions}
use Rattle.judging.specs.declared.judgement.MovesClaim.TheVariants.{Fewest}
use Rattle.sokopar.proofs.Judging.{beside_found, beside_given, claim_fewest, no_cap}
use Rattle.sokopar.proofs.compare.beside_fewest_moves.Goals as goal

pub returns-then-len-given : goal.returns-then-len-given
returns-then-len-given c =
    let set = c.args.settings in
    let given = c.args.given in
    let few : given.moves ≤ length c.args.moves = omega (arith, c.if-len-given.true, c.len.ensures) in
    beside_given set c.args.level.now given c.given_known.result given.pushes Fewest Positions c.given_known.ensures c.requires.fewest
    (inl (refl, claim_fewest set c.args.level.now Positions given.pushes (length c.args.moves) given.moves c.requires.wanted c.requires.best.1 few))

pub returns : goal.returns
returns c =
    let set = c.args.settings in
    let given = c.args.given in
    let letters = c.args.moves in
    let fewer : length letters < given.moves = omega (arith, c.if-len-given.false, c.len.ensures) in
    beside_found set c.args.level.now (Some given) c.found_known.result letters given.pushes given.pushes Fewest Positions c.found_known.ensures c.requires.best.0
    (no_cap set.cap given.pushes c.requires.uncapped) c.requires.fewest (inr (c.requires.wanted, refl, fewer))
    (inl (refl, (c.requires.wanted, c.requires.best.1)))

-- The solution that was found has as many pushes and fewer moves, or the given one stays at hand.
use Rattle.std.proofs.Common.{◌≡◌, ◌<◌, ℕ, Some, length, inl, inr, refl, sym, subst, arith}
use Rattle.judging.specs.declared.judgement.MovesClaim.TheVariants.{Open}
use Rattle.prices.specs.Fewest.{NoneHasFewer}
use Rattle.shortest.specs.Shortest.{HasMoreStates}
use Rattle.sokopar.specs.Judging.{HasReached}
use Rattle.sokopar.proofs.Judging.{beside_found, beside_given, no_cap, solved_long}
use Rattle.sokopar.proofs.compare.beside_open_moves.Goals as goal

pub returns-in_default : goal.returns-in_default
returns-in_default g c =
    beside_given c.args.settings c.args.level.now c.args.given c.given_known.result c.args.given.pushes Open c.args.reached c.given_known.ensures c.requires.fewest
    (inl (refl, c.requires.open))

pub returns-then-pushes-given : goal.returns-then-pushes-given
returns-then-pushes-given g c =
    beside_given c.args.settings c.args.level.now c.args.given c.given_known-then-pushes-given.result c.args.given.pushes Open c.args.reached
    c.given_known-then-pushes-given.ensures c.requires.fewest (inl (refl, c.requires.open))

pub returns-then-len-given : goal.returns-then-len-given
returns-then-len-given g c =
    beside_given c.args.settings c.args.level.now c.args.given c.given_known-then-len-given.result c.args.given.pushes Open c.args.reached
    c.given_known-then-len-given.ensures c.requires.fewest (inl (refl, c.requires.open))

pub returns : goal.returns
returns g c =
    let set = c.args.settings in
    let given = c.args.given in
    let board = c.args.level.now in
    let letters = c.improved-moves.result in
    let pushes = c.in-Solved.pushes in
    let solved = solved_long board letters c.in_ok-verdict.verdict pushes c.in-Solved.moves c.in-Solved.is c.in_ok-verdict.ensures in
    let same : pushes ≡ given.pushes = omega (arith, c.if-pushes-given.false) in
    let fewer : length letters < given.moves = omega (arith, c.if-len-given.false, c.len.ensures) in
    let wanted = c.requires.open.0 in
    beside_found set board (Some given) c.found_known.result letters pushes pushes Open c.args.reached c.found_known.ensures solved
    (no_cap set.cap pushes c.requires.uncapped) (subst (λ (n : ℕ). NoneHasFewer board n) (sym same) c.requires.fewest)
    (inr (wanted, same, fewer)) (inl (refl, (wanted, subst (λ (n : ℕ). HasReached set c.args.reached (HasMoreStates board n set.limit)) (sym same) c.requires.open.1)))

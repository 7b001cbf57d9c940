-- Without the option the moves are counted; with it the search for the fewest decides, or ends at its limit.
use Rattle.std.proofs.Common.{rules, ◌≡◌, false, true, length, inl, refl}
use Rattle.std.proofs.lemmas.Result.{IfErr-at_err, IfOk-at_ok}
use Rattle.judging.specs.declared.judgement.LimitKind.TheVariants.{Positions}
use Rattle.judging.specs.declared.judgement.MovesClaim.TheVariants.{Counted, Fewest, Open}
use Rattle.lurd.specs.Verdict.{IsVerdict}
use Rattle.lurd.specs.declared.verdict.Verdict.TheVariants.{Solved}
use Rattle.shortest.proofs.lemmas.Fewest.{some_has}
use Rattle.shortest.specs.Shortest.{HasMoreStates, NoneIsBetter}
use Rattle.sokopar.specs.Judging.{HasReached}
use Rattle.sokopar.proofs.Judging.{beside_found, fewer_is_better}
use Rattle.sokopar.proofs.search.with_fewest_pushes.Goals as goal

pub returns-then-not-settings : goal.returns-then-not-settings
returns-then-not-settings g c =
    let set = c.args.settings in
    let pushes = c.args.pushes in
    let letters = c.with_fewer-moves.result in
    let not_wanted : set.moves ≡ false = search rules in
    beside_found set c.args.level.now c.args.given c.found_known.result letters pushes pushes Counted Positions c.found_known.ensures
    c.with_fewer-moves.ensures c.requires.within c.requires.fewest
    (fewer_is_better set c.args.given pushes (length letters) c.requires.fewer) (inl (refl, not_wanted))

pub search_fewest-requires-clause-some : goal.search_fewest-requires-clause-some
search_fewest-requires-clause-some g c =
    some_has c.args.level.now c.args.moves (Solved c.args.pushes (length c.args.moves)) c.args.pushes (length c.args.moves) refl c.requires.solved

pub returns-in-Ok : goal.returns-in-Ok
returns-in-Ok g c =
    let set = c.args.settings in
    let pushes = c.args.pushes in
    let letters = c.in-Ok.moves in
    let wanted : set.moves ≡ true = search rules in
    let best = IfOk-at_ok (λ moves. IsVerdict c.args.level.now moves (Solved pushes (length moves)) ×
    NoneIsBetter c.args.level.now pushes (length moves)) c.in-Ok.is c.in_ok-best.ensures.found in
    beside_found set c.args.level.now c.args.given c.found_known-in-Ok.result letters pushes pushes Fewest Positions c.found_known-in-Ok.ensures best.0
    c.requires.within c.requires.fewest (fewer_is_better set c.args.given pushes (length letters) c.requires.fewer) (inl (refl, (wanted, best.1)))

pub returns-in-Err : goal.returns-in-Err
returns-in-Err g c =
    let set = c.args.settings in
    let pushes = c.args.pushes in
    let letters = c.with_fewer-moves-in-Err.result in
    let wanted : set.moves ≡ true = search rules in
    beside_found set c.args.level.now c.args.given c.found_known-in-Err.result letters pushes pushes Open c.in-Err.reached c.found_known-in-Err.ensures
    c.with_fewer-moves-in-Err.ensures c.requires.within c.requires.fewest (fewer_is_better set c.args.given pushes (length letters) c.requires.fewer)
    (inl (refl, (wanted, IfErr-at_err (λ limit. HasReached set limit (HasMoreStates c.args.level.now pushes set.limit)) c.in-Err.is c.in_ok-best.ensures.open)))

-- A search for two pushes less decides, or knows a bound.
use Rattle.std.proofs.Common.{arith, ◌-◌, IsSome, Some}
use Rattle.prover.proofs.lemmas.Fewest.{none_has_fewer}
use Rattle.sokopar.proofs.Judging.{limit_least, stopped_least}
use Rattle.sokopar.proofs.compare.compare_outcome.Goals as goal

pub beside_fewest_pushes-known-requires-clause-fewest : goal.beside_fewest_pushes-known-requires-clause-fewest
beside_fewest_pushes-known-requires-clause-fewest g c =
    none_has_fewer c.args.level.now c.args.settings.limit c.args.given.pushes _ (IsSome c.args.settings.seconds) c.args.outcome
    c.solutions_are_alike.ensures.two c.tell.ensures c.requires.some c.requires.outcome c.in-NoneWithin.is (omega (arith, c.requires.two))

pub returns-in-NoneWithin : goal.returns-in-NoneWithin
returns-in-NoneWithin g c =
    c.judged-in-NoneWithin.ensures c.args.settings c.args.level.now
    (none_has_fewer c.args.level.now c.args.settings.limit c.args.given.pushes _ (IsSome c.args.settings.seconds) c.args.outcome
    c.solutions_are_alike.ensures.two c.tell.ensures c.requires.some c.requires.outcome c.in-NoneWithin.is (omega (arith, c.requires.two)))
    c.beside_fewest_pushes-known.ensures

pub beside_open_pushes-known-requires-clause-least : goal.beside_open_pushes-known-requires-clause-least
beside_open_pushes-known-requires-clause-least g c =
    (limit_least c.args.settings (Some (c.args.given.pushes - 2)) c.args.level.now c.args.outcome c.in-Limit.at_least
    c.requires.outcome c.in-Limit.is).0

pub beside_open_pushes-known-requires-clause-open : goal.beside_open_pushes-known-requires-clause-open
beside_open_pushes-known-requires-clause-open g c =
    (limit_least c.args.settings (Some (c.args.given.pushes - 2)) c.args.level.now c.args.outcome c.in-Limit.at_least
    c.requires.outcome c.in-Limit.is).1.0

pub beside_open_pushes-known-requires-clause-bound : goal.beside_open_pushes-known-requires-clause-bound
beside_open_pushes-known-requires-clause-bound g c =
    let few = (limit_least c.args.settings (Some (c.args.given.pushes - 2)) c.args.level.now c.args.outcome c.in-Limit.at_least
    c.requires.outcome c.in-Limit.is).1.1 in
    omega (arith, few, c.requires.two)

pub beside_open_pushes-known-requires-in-Stopped-clause-least : goal.beside_open_pushes-known-requires-in-Stopped-clause-least
beside_open_pushes-known-requires-in-Stopped-clause-least g c =
    (stopped_least c.args.settings (Some (c.args.given.pushes - 2)) c.args.level.now c.args.outcome c.in-Stopped.at_least
    c.requires.outcome c.in-Stopped.is).0

pub beside_open_pushes-known-requires-in-Stopped-clause-open : goal.beside_open_pushes-known-requires-in-Stopped-clause-open
beside_open_pushes-known-requires-in-Stopped-clause-open g c =
    (stopped_least c.args.settings (Some (c.args.given.pushes - 2)) c.args.level.now c.args.outcome c.in-Stopped.at_least
    c.requires.outcome c.in-Stopped.is).1.0

pub beside_open_pushes-known-requires-in-Stopped-clause-bound : goal.beside_open_pushes-known-requires-in-Stopped-clause-bound
beside_open_pushes-known-requires-in-Stopped-clause-bound g c =
    let few = (stopped_least c.args.settings (Some (c.args.given.pushes - 2)) c.args.level.now c.args.outcome c.in-Stopped.at_least
    c.requires.outcome c.in-Stopped.is).1.1 in
    omega (arith, few, c.requires.two)

use Rattle.std.proofs.Common.{subst}
use Rattle.grid.specs.Board.{Board}
use Rattle.doom.specs.inside.Holding.{AreHolds}
use Rattle.doom.proofs.Holding.{frozen_told, room_of}
use Rattle.doom.proofs.freeze.any_frozen.Goals as goal

pub any_locked-requires-clause-holds : goal.any_locked-requires-clause-holds
any_locked-requires-clause-holds c =
    room_of c.args.level.now c.holds.result.now (subst (λ (b : Board). AreHolds b c.holds.result.now) c.requires.dead_of_level c.holds.ensures)

pub returns-clause-frozen : goal.returns-clause-frozen
returns-clause-frozen c =
    frozen_told c.args.level.now c.holds.result.now
    (subst (λ (b : Board). AreHolds b c.holds.result.now) c.requires.dead_of_level c.holds.ensures) c.args.boxes.now c.requires.inside c.any_locked.result
    c.any_locked.ensures.locked

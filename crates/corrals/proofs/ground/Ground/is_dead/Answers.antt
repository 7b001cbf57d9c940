use Rattle.std.proofs.Common.{◌≡◌, rules}
use Rattle.grid.specs.Board.{next}
use Rattle.corrals.proofs.lemmas.Corrals.{losing_never_helps}
use Rattle.corrals.proofs.ground.Ground.is_dead.Goals as goal

pub returns : goal.returns
returns c told m b d ahead =
    let there : next c.self.inside.level.now b d ≡ c.args.square = search rules in
    rw (← c.self.view_is) (losing_never_helps _ m _ b d c.self.invariant.fits.scene
    (rw there (rw c.self.invariant.dead_of_level at (c.is_dead.ensures.lost told))))

use Rattle.std.proofs.Common.{suc, refl, sym}
use Rattle.corrals.proofs.ground.Ground.never_helps.Goals as goal

pub returns-then-is_dead : goal.returns-then-is_dead
returns-then-is_dead c told m allowed = c.if-is_dead.ensures refl (suc m) c.args.square c.args.dir (sym c.next-ahead.ensures)

pub returns : goal.returns
returns c told = rw (← c.self.view_is)
    (rw (c.self.invariant.slack.0, c.self.invariant.slack.1) at (c.never_helps.ensures told))

use Rattle.std.proofs.Common.{sym, ◌∙◌}
use Rattle.grid.proofs.lemmas.Steps.{inside_grid}
use Rattle.regions.proofs.sums.is_paid.Goals as goal

pub next-to-requires : goal.next-to-requires
next-to-requires c = inside_grid c.args.level.now c.next-square.result (sym c.is_wall.ensures ∙ c.if-is_wall.false)

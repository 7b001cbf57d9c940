use Rattle.std.proofs.Common.{sym, ◌∙◌}
use Rattle.grid.proofs.lemmas.Steps.{inside_grid}
use Rattle.regions.proofs.listing.is_entry_listed.Goals as goal

pub next-player-requires : goal.next-player-requires
next-player-requires c = inside_grid c.args.look.now.level.now c.next-square.result (sym c.is_wall.ensures ∙ c.if-is_wall.false)

use Rattle.std.proofs.Common.{sym, subst, ◌<◌}
use Rattle.grid.proofs.lemmas.Steps.{inside_grid}
use Rattle.doom.proofs.pulls.PullSearch.pull.Goals as goal

pub next-requires : goal.next-requires
next-requires c = inside_grid c.args.level.now _ cc

pub mark-requires : goal.mark-requires
mark-requires c = subst (λ n. c.next-from.result < n) (sym c.requires.size) (inside_grid c.args.level.now _ cc)

use Rattle.std.proofs.Common.{◌<◌, length, sym, subst, ◌∙◌}
use Rattle.grid.specs.Board.{Scene}
use Rattle.grid.proofs.lemmas.Steps.{inside_grid}
use Rattle.shortest.proofs.trail.step.Goals as goal

pub returns-then-not-contains : goal.returns-then-not-contains
returns-then-not-contains c =
    subst (λ (s : Scene). s.player < length c.args.level.now.cells) (sym c.set_player.ensures)
    (inside_grid c.args.level.now c.next-ahead.result (sym c.is_wall.ensures ∙ c.if-is_wall.false))

pub next-beyond-requires : goal.next-beyond-requires
next-beyond-requires c = inside_grid c.args.level.now c.next-ahead.result (sym c.is_wall.ensures ∙ c.if-is_wall.false)

pub returns-then-not-contains-2 : goal.returns-then-not-contains-2
returns-then-not-contains-2 c =
    subst (λ (s : Scene). s.player < length c.args.level.now.cells) (sym c.push.ensures)
    (inside_grid c.args.level.now c.next-ahead.result (sym c.is_wall.ensures ∙ c.if-is_wall.false))

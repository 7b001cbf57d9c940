use Rattle.std.proofs.Common.{ap, ◌∙◌}
use Rattle.grid.specs.Board.{Scene}
use Rattle.area.specs.Area.{at}
use Rattle.area.proofs.lemmas.Norms.{area_here, norm_found, norm_fits}
use Rattle.area.proofs.floods.normal.Goals as goal

pub least-requires : goal.least-requires
least-requires c = (c.args.position.now.player, (c.flood.ensures.reached c.args.position.now.player).1 (area_here c.args.level.now c.args.position.now))

pub returns-clause-norm : goal.returns-clause-norm
returns-clause-norm c =
    norm_found c.args.level.now c.args.position.now c.set_player.new.self c.least.result (c.set_player.ensures ∙
    ap (λ (s : Scene). at s c.least.result) c.copy-normal.ensures)
    ((c.flood.ensures.reached c.least.result).0 c.least.ensures.reached) (λ r w. c.least.ensures.least r ((c.flood.ensures.reached r).1 w))

pub returns-clause-fits : goal.returns-clause-fits
returns-clause-fits c =
    norm_fits c.requires.fits (norm_found c.args.level.now c.args.position.now c.set_player.new.self c.least.result (c.set_player.ensures ∙
    ap (λ (s : Scene). at s c.least.result) c.copy-normal.ensures)
    ((c.flood.ensures.reached c.least.result).0 c.least.ensures.reached) (λ r w. c.least.ensures.least r ((c.flood.ensures.reached r).1 w)))

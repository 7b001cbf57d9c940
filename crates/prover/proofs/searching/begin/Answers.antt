use Rattle.std.proofs.Common.{◌∙◌}
use Rattle.store.proofs.lemmas.Fitting.{level_fits}
use Rattle.prover.proofs.Steps.{under_way_first}
use Rattle.prover.proofs.searching.begin.Goals as goal

pub open_at-requires : goal.open_at-requires
open_at-requires c = level_fits c.args.level.now _ _ c.args.normal.now c.requires.size.0 c.requires.size.1 c.requires.fits

pub returns : goal.returns
returns c = record {
  under_way = under_way_first c.args.level.now c.args.cap c.args.frontier.now.entries c.open_at.new.self.entries c.args.normal.now c.requires.norm
      c.requires.fits c.requires.empty c.in_ok-open_at.ensures.enters;
  boxes = c.in_ok-open_at.ensures.size.0 ∙ c.requires.size.0;
  squares = c.in_ok-open_at.ensures.size.1 ∙ c.requires.size.1;
}

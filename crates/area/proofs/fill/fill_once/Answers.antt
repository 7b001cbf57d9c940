use Rattle.area.proofs.lemmas.Growing.{grown_once}
use Rattle.area.proofs.fill.fill_once.Goals as goal

pub returns : goal.returns
returns c = grown_once _ _ _ _ _ _ c.args.free c.args.cols c.run_up-right.ensures c.step_down-left.ensures c.step_down-row.ensures
    c.step_up-down.ensures c.step_down.ensures

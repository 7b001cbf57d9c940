use Rattle.lower_examples.proofs.Starts.{start_on_grid}
use Rattle.lower_examples.proofs.pages.check_found.Goals as goal

pub of-requires-clause-few : goal.of-requires-clause-few
of-requires-clause-few g c =
    start_on_grid c.args.level.now c.boxes-2.result c.squares.result c.start-first.result c.boxes-2.ensures c.squares.ensures c.requires
    c.start-first.ensures.start

use Rattle.std.proofs.Common.{◌≡◌, ◌-◌}
use Rattle.crew.specs.inside.States.{IsStateOf}
use Rattle.crew.specs.inside.Iterations.{ArePausedBy}
use Rattle.crew.proofs.search.iterate_all.Given as goal

abbrev pub invariant-loop-next : goal.invariant-loop-next
invariant-loop-next g l = record {
  paused : ArePausedBy l.settings.config l.state.search l.books.items;
  own : IsStateOf l.settings.config l.state;
  problem : l.state.search.problem ≡ l.fn.state.search.problem;
  limit : l.state.search.limit ≡ l.fn.state.search.limit;
}

abbrev pub decreases-loop-next : goal.decreases-loop-next
decreases-loop-next g l = l.settings.config.limit - l.state.search.positions

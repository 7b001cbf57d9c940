use Rattle.std.proofs.Common.{◌≡◌, ◌<◌, length, reverse, Some}
use Rattle.std.specs.Prelude.{slice_get}
use Rattle.grid.specs.Board.{Board}
use Rattle.store.specs.Visited.{Node}
use Rattle.prover.specs.inside.Working.{AreReadBack, AreTraced, pushes_at}
use Rattle.prover.proofs.retracing.pushes_to.Given as goal

abbrev pub invariant-loop-parent : goal.invariant-loop-parent
invariant-loop-parent l = record {
  within : l.here < length l.frontier.entries;
  back : (board : Board) (x y : Node) → AreTraced board l.frontier.entries → slice_get l.frontier.entries l.here ≡ Some y →
      slice_get l.frontier.entries l.place ≡ Some x → AreReadBack board y x (reverse l.pushes.items);
}

abbrev pub decreases-loop-parent : goal.decreases-loop-parent
decreases-loop-parent l = pushes_at l.frontier.entries l.here

use Rattle.std.proofs.Common.{◌≡◌, ◌+◌, ℕ, suc, length, IfSome}
use Rattle.shortest.specs.inside.Resting.{AreLeastBy, IsWay, moves_of}
use Rattle.shortest.proofs.ways.best_way.Given as goal

abbrev pub invariant-loop-index : goal.invariant-loop-index
invariant-loop-index l = record {
  size : l.tools.scratch.size ≡ length l.states.board.cells;
  ways : IfSome l.best (λ way. IsWay l.states.board l.states.entries l.rests l.from.pushes l.from.state way);
  least : (m : ℕ) → l.from.pushes + suc m ≡ l.states.most →
      AreLeastBy l.states.board m l.from.state l.pushes.items l.index (moves_of l.best);
}

use Rattle.std.proofs.Common.{◌≡◌, length}
use Rattle.corrals.specs.inside.Freezing.{AreMoved}
use Rattle.corrals.proofs.freezing.put_others.Given as goal

abbrev pub invariant-loop-place : goal.invariant-loop-place
invariant-loop-place l = record {
  long : length l.moved ≡ length l.fn.moved;
  moved : AreMoved l.ground.board l.boxes l.square l.ahead l.fn.moved → AreMoved l.ground.board l.boxes l.square l.ahead l.moved;
}

use Rattle.shortest.specs.inside.Nearby.{IsListFor}
use Rattle.shortest.proofs.near.keep_best.Given as goal

abbrev pub invariant-loop-row : goal.invariant-loop-row
invariant-loop-row l = IsListFor l.bounds.board l.kept

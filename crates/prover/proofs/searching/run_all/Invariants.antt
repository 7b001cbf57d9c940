use Rattle.std.proofs.Common.{◌≡◌}
use Rattle.prover.specs.inside.SearchEnds.{IsFloor}
use Rattle.prover.specs.inside.Working.{IsSearchOnBoard}
use Rattle.prover.proofs.searching.run_all.Given as goal

abbrev pub invariant-loop-first : goal.invariant-loop-first
invariant-loop-first g l = record {
  same : l.pruner ≡ l.fn.pruner;
  searched : IsSearchOnBoard l.pruner.board l.pruner.cap l.frontier;
  floor : IsFloor l.pruner.board l.pruner.cap l.reach;
}

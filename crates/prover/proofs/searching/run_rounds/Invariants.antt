use Rattle.std.proofs.Common.{◌+◌, length, cond, nat_lt}
use Rattle.prover.specs.inside.SearchEnds.{IsFloor}
use Rattle.prover.specs.inside.Rounds.{IsDesk}
use Rattle.prover.specs.inside.Working.{IsSearchOnBoard, turns_left}
use Rattle.prover.proofs.searching.run_rounds.Given as goal

abbrev pub invariant-rounds : goal.invariant-rounds
invariant-rounds g l = record {
  searched : IsSearchOnBoard l.pruner.board l.pruner.cap l.frontier;
  floor : IsFloor l.pruner.board l.pruner.cap l.reach;
  desk : IsDesk l.pruner l.frontier.entries l.desk;
}

abbrev pub decreases-rounds : goal.decreases-rounds
decreases-rounds g l = cond (nat_lt l.limit (length l.frontier.entries)) 0 (1 + turns_left l.limit l.frontier.entries)

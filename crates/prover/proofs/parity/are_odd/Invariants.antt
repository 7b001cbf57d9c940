use Rattle.std.proofs.Common.{◌≡◌}
use Rattle.prover.specs.inside.Turning.{odd_below}
use Rattle.prover.proofs.parity.are_odd.Given as goal

abbrev pub invariant-loop-index : goal.invariant-loop-index
invariant-loop-index l = l.odd ≡ odd_below l.level l.index

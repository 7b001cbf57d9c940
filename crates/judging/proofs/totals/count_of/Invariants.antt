-- The kinds so far are counted.
use Rattle.std.proofs.Common.{◌≡◌, take}
use Rattle.std.specs.List.{count_by}
use Rattle.judging.specs.Kinds.{is_in}
use Rattle.judging.proofs.totals.count_of.Given as goal

abbrev pub invariant-loop-kind : goal.invariant-loop-kind
invariant-loop-kind l = l.count ≡ count_by (is_in l.group) (take l.kind-index l.kinds)

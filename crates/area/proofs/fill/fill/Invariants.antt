use Rattle.std.proofs.Common.{◌-◌, ◌^◌}
use Rattle.area.specs.inside.Flooding.{PassesOn, IsGrown}
use Rattle.area.proofs.fill.fill.Given as goal

abbrev pub invariant-loop-word : goal.invariant-loop-word
invariant-loop-word l = IsGrown l.fn.word l.word (λ test. PassesOn test l.cols l.free)

abbrev pub decreases-loop-word : goal.decreases-loop-word
decreases-loop-word l = 2 ^ 64 - l.word

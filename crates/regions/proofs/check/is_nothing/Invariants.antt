use Rattle.std.proofs.Common.{◌≡◌, ℕ, ◌<◌}
use Rattle.regions.specs.inside.Tables.{byte_for}
use Rattle.regions.proofs.check.is_nothing.Given as goal

abbrev pub invariant-loop-index : goal.invariant-loop-index
invariant-loop-index l = (p : ℕ) → p < l.index → byte_for l.look.table.now l.row p ≡ 0

use Rattle.std.proofs.Common.{◌≡◌, ℕ, ◌<◌, get_or}
use Rattle.std.specs.Int.{bit_not, w64}
use Rattle.std.specs.Int.RustNames.{bit_and}
use Rattle.doom.proofs.locked.is_other_word.Given as goal

abbrev pub invariant-loop-index : goal.invariant-loop-index
invariant-loop-index l = (k : ℕ) → k < l.index → bit_and (get_or l.members k 0) (bit_not w64 (get_or l.others k 0)) ≡ 0

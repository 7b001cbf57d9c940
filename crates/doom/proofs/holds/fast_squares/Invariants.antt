use Rattle.std.proofs.Common.{◌≡◌, length}
use Rattle.grid.specs.Masks.{word_count}
use Rattle.doom.specs.inside.Holding.{IsFast}
use Rattle.doom.proofs.Holding.{IsFilledUpTo}
use Rattle.doom.proofs.holds.fast_squares.Given as goal

abbrev pub invariant-loop-index : goal.invariant-loop-index
invariant-loop-index l = (length l.set ≡ word_count (length l.level.cells)) × IsFilledUpTo (λ q. IsFast l.level q l.dir) l.index l.set

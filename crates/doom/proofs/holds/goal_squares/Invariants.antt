use Rattle.std.proofs.Common.{◌≡◌, true, length}
use Rattle.grid.specs.Board.{is_goal}
use Rattle.grid.specs.Masks.{word_count}
use Rattle.doom.proofs.Holding.{IsFilledUpTo}
use Rattle.doom.proofs.holds.goal_squares.Given as goal

abbrev pub invariant-loop-index : goal.invariant-loop-index
invariant-loop-index l = (length l.set ≡ word_count (length l.level.cells)) × IsFilledUpTo (λ q. is_goal l.level q ≡ true) l.index l.set

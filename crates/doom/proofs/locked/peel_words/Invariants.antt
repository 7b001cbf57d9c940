use Rattle.doom.proofs.Passes.{IsBefore, IsPassOver}
use Rattle.doom.proofs.locked.peel_words.Given as goal

abbrev pub invariant-loop-index : goal.invariant-loop-index
invariant-loop-index l = IsPassOver l.holds l.cols (IsBefore l.index) l.fn.members l.members l.went

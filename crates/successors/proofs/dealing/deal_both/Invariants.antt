use Rattle.std.proofs.Common.{◌≡◌, ◌+◌, ◌∷◌, replicate}
use Rattle.successors.proofs.lemmas.Dealt.{AreListed}
use Rattle.successors.proofs.dealing.deal_both.Given as goal

abbrev pub invariant-loop-place : goal.invariant-loop-place
invariant-loop-place l = AreListed 2 l.place l.rows (l.evens ∷ l.odds ∷ replicate 14 0) l.sums × (l.evens + l.odds ≡ l.place)

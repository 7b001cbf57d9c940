use Rattle.successors.proofs.lemmas.Dealt.{AreListed}
use Rattle.successors.proofs.dealing.deal_each.Given as goal

abbrev pub invariant-loop-place : goal.invariant-loop-place
invariant-loop-place l = AreListed l.shares l.place l.rows l.lens l.sums

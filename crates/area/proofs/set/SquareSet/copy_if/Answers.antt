use Rattle.std.proofs.Common.{sym, ◌∙◌}
use Rattle.std.proofs.lemmas.Bool.{true≢false}
use Rattle.area.proofs.set.SquareSet.copy_if.Goals as goal

pub returns-then-keep-clause-kept : goal.returns-then-keep-clause-kept
returns-then-keep-clause-kept c = λ q h. (c.if-keep.true, sym (c.copy_without.ensures.out q) ∙ h)

pub returns-clause-kept : goal.returns-clause-kept
returns-clause-kept c = λ q h. absurd (true≢false (sym h ∙ c.clear.ensures.none q))

use Rattle.std.proofs.Common.{◌++◌, sym, subst}
use Rattle.solo.specs.inside.Rests.{MayBeClosedEach}
use Rattle.crew.proofs.Parts.{closed_both}
use Rattle.crew.proofs.closing.+close_in_rounds.Goals as goal

pub returns : goal.returns
returns g t c =
    let cut = c.split_at_mut-next in let next = c.close_each.new.books in let rest = c.close_in_rounds.new.books in
    subst (λ books. MayBeClosedEach books (next ++ rest)) (sym cut.ensures.value)
    (closed_both cut.result.0.now next cut.result.1.now rest c.close_each.ensures c.close_in_rounds.ensures)

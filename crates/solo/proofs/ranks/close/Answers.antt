use Rattle.std.proofs.Common.{inl, inr, subst}
use Rattle.layers.specs.Books.{CloseRefused}
use Rattle.solo.proofs.Finishing.{not_all_done}
use Rattle.solo.proofs.ranks.close.Goals as goal

pub returns-in-Ok-clause-ok : goal.returns-in-Ok-clause-ok
returns-in-Ok-clause-ok c = inr (c.in-Ok.field-0, c.in-Ok.ensures.ok)

pub returns-in-Err-NotAll-clause-ok : goal.returns-in-Err-NotAll-clause-ok
returns-in-Err-NotAll-clause-ok c =
    let book = c.args.book.now in
    inl (not_all_done book (subst (CloseRefused book) c.in-Err-NotAll.field-0-is c.in-Err-NotAll.ensures.fault), c.in-Err-NotAll.ensures.err)

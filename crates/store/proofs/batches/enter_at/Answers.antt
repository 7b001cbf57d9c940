use Rattle.store.specs.FoundView.{seen_of, open_of}
use Rattle.store.proofs.Tails.{let_in_kept}
use Rattle.store.proofs.batches.enter_at.Goals as goal

pub returns-then-changes_nothing-clause-waiting : goal.returns-then-changes_nothing-clause-waiting
returns-then-changes_nothing-clause-waiting g c =
    let start = c.args.start in let es = c.args.table.now.entries in
    let_in_kept (seen_of start es) (open_of start es) c.args.offer.now.0 c.args.offer.now.1 (c.changes_nothing.ensures c.if-changes_nothing.true)

use Rattle.std.proofs.Common.{sym, ◌∙◌}
use Rattle.std.proofs.lemmas.Bool.{eqb-true}
use Rattle.std.proofs.lemmas.List.{take_rest}
use Rattle.store.specs.FoundView.{seen_of, open_of, all_let_in}
use Rattle.store.proofs.PendingOffers.{all_entered, let_in_parts, fewer_wait, fewer_used}
use Rattle.store.proofs.batches.enter_in_batches.Goals as goal

pub loop-rest-preserved : goal.loop-rest-preserved
loop-rest-preserved g c =
    let rest = c.loop-rest.rest.now in let count = c.min-count.result in
    let es = c.loop-rest.table.entries in
    let seen = seen_of c.args.start es in let ws = open_of c.args.start es in
    let left = take_rest rest count in (
      (λ i. all_let_in (c.enter_batch.ensures.seen i) (c.enter_batch.ensures.waiting i) (left i)) ∙ let_in_parts seen ws rest count ∙ c.loop-rest.invariant.0,
      fewer_wait count _ _ rest _ left c.loop-rest.invariant.1 c.enter_batch.ensures.capacity,
      fewer_used _ _ count _ _ rest _ left c.loop-rest.invariant.2 c.enter_batch.ensures.capacity,
      c.enter_batch.ensures.found,
      c.enter_batch.ensures.seen ∙ c.loop-rest.invariant.4,
    )

pub returns-clause-waiting : goal.returns-clause-waiting
returns-clause-waiting g c =
    let es = c.loop-rest.table.entries in
    all_entered (seen_of c.args.start es) (open_of c.args.start es) c.loop-rest.rest.now _ (eqb-true _ _ (sym c.is_empty.ensures ∙ c.loop-rest-test.false))
    c.loop-rest.invariant.0

use Rattle.std.proofs.Common.{◌≡◌, ◌<◌, length, get_or, set, sym, ap, subst, ◌∙◌, arith}
use Rattle.std.specs.Prelude.{slice_get}
use Rattle.std.proofs.lemmas.List.{set-get_or, take_all}
use Rattle.std.proofs.lemmas.Option.{same_Some, slice_get-get_or, slice_get_within}
use Rattle.layers.specs.BookView.{AreLawfulBooks, IsLawfulBook}
use Rattle.layers.specs.Holding.{all_held}
use Rattle.solo.proofs.Counting.{held_few, held_more, lawful_more}
use Rattle.solo.proofs.rest.count_all.Goals as goal

pub loop-index-preserved : goal.loop-index-preserved
loop-index-preserved c =
    let before = c.args.books.now in let books = c.loop-index.books in let index = c.loop-index.index in
    let d = c.index-books-index.result in let e = c.index-books-index-in-loop-index.result in
    let same : books ≡ before = c.loop-index.invariant.same in
    let lt : index < length books = omega (arith, c.loop-index-test.true, ap length same) in
    let there = slice_get-get_or books index d lt in
    let here = slice_get-get_or books index e lt in
    let is : get_or books index d ≡ get_or books index e = same_Some (get_or books index d) (get_or books index e) (sym there ∙ here) in
    let few = held_few (get_or books index e) (subst IsLawfulBook is c.tell.ensures) in
    record {
      same = ap (set books index) c.positions-all.ensures.same ∙ set-get_or books index e ∙ same;
      lawful = lawful_more before index (get_or books index d) (ap (λ bs. slice_get bs index) (sym same) ∙ there) c.tell.ensures c.loop-index.invariant.lawful;
      count = omega (
        arith,
        c.loop-index.invariant.count,
        c.positions-all.ensures.count,
        held_more before index (get_or books index e) (ap (λ bs. slice_get bs index) (sym same) ∙ here),
      );
      few = omega (arith, c.loop-index.invariant.few, c.positions-all.ensures.count, few);
    }

pub overflow_add-all : goal.overflow_add-all
overflow_add-all c =
    let books = c.loop-index.books in let index = c.loop-index.index in
    let d = c.index-books-index.result in let e = c.index-books-index-in-loop-index.result in
    let lt : index < length books = omega (arith, c.loop-index-test.true, ap length c.loop-index.invariant.same) in
    let is : get_or books index d ≡ get_or books index e = same_Some (get_or books index d) (get_or books index e) (sym (slice_get-get_or books index d lt)
    ∙ slice_get-get_or books index e lt) in let few = held_few (get_or books index e) (subst IsLawfulBook is c.tell.ensures) in
    omega (arith, c.loop-index.invariant.few, c.positions-all.ensures.count, few, lt, ap length c.loop-index.invariant.same, c.requires)

pub returns-clause-lawful : goal.returns-clause-lawful
returns-clause-lawful c =
    let before = c.args.books.now in
    subst AreLawfulBooks (sym c.loop-index.invariant.same) (λ i v at. c.loop-index.invariant.lawful i v
    (omega (arith, slice_get_within before i v at, c.loop-index-test.false)) at)

pub returns-clause-count : goal.returns-clause-count
returns-clause-count c =
    let before = c.args.books.now in let index = c.loop-index.index in
    c.loop-index.invariant.count ∙ ap all_held (take_all index before (omega (arith, c.loop-index-test.false)) ∙ sym c.loop-index.invariant.same)

use Rattle.std.proofs.Common.{rules, IsPermutation, sym, subst}
use Rattle.store.specs.FoundView.{open_of}
use Rattle.store.specs.inside.Placing.{AreTargets, HaveAllPlaces, rows_of}
use Rattle.store.proofs.Exchanging.{all_places, apart_targets, counted, put_in_order}
use Rattle.store.proofs.Tails.{risen}
use Rattle.store.proofs.closing.arrange.Goals as goal

pub returns-then-do_rise-clause-ok : goal.returns-then-do_rise-clause-ok
returns-then-do_rise-clause-ok g c = risen c.args.start c.args.table.now.entries c.requires.found c.do_rise.ensures.distinct
    (c.do_rise.ensures.rise c.if-do_rise.true)

pub targets_of-requires : goal.targets_of-requires
targets_of-requires g c =
    let ws = open_of c.args.start c.args.table.now.entries in let rows = c.sort_rows.new.rows.items in
    let same : IsPermutation (rows_of 0 ws) rows = subst (λ xs. IsPermutation xs rows) c.in_ok-rows.ensures c.sort_rows.ensures.same in
    subst HaveAllPlaces (sym c.as_slice.ensures.value) (all_places ws rows same)

pub exchange-requires : goal.exchange-requires
exchange-requires g c =
    let ws = open_of c.args.start c.args.table.now.entries in let rows = c.sort_rows.new.rows.items in
    let same : IsPermutation (rows_of 0 ws) rows = subst (λ xs. IsPermutation xs rows) c.in_ok-rows.ensures c.sort_rows.ensures.same in
    let are : AreTargets rows c.in_ok-targets.targets.items =
    subst (λ xs. AreTargets xs c.in_ok-targets.targets.items) c.as_slice.ensures.value c.in_ok-targets.ensures in (
      search rules,
      (
        c.requires.width,
        (
          counted c.args.start c.args.table.now.entries rows c.in_ok-targets.targets.items c.requires.found same are,
          apart_targets rows c.in_ok-targets.targets.items are,
        ),
      ),
    )

pub returns-clause-ok : goal.returns-clause-ok
returns-clause-ok g c =
    let ws = open_of c.args.start c.args.table.now.entries in let rows = c.sort_rows.new.rows.items in
    let same : IsPermutation (rows_of 0 ws) rows = subst (λ xs. IsPermutation xs rows) c.in_ok-rows.ensures c.sort_rows.ensures.same in
    let are : AreTargets rows c.in_ok-targets.targets.items =
    subst (λ xs. AreTargets xs c.in_ok-targets.targets.items) c.as_slice.ensures.value c.in_ok-targets.ensures in
    put_in_order c.args.start c.args.table.now.entries rows c.in_ok-targets.targets.items c.exchange.new.table.entries c.requires.found
    c.do_rise.ensures.distinct same c.sort_rows.ensures.sorted are c.exchange.ensures

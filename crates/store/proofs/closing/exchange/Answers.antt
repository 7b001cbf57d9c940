use Rattle.std.proofs.Common.{◌≡◌, ◌+◌, ◌-◌, ◌<◌, length, Some, refl, sym, ap, subst, arith}
use Rattle.std.proofs.lemmas.List.Edits.{length-swap}
use Rattle.std.proofs.lemmas.Option.{slice_get_read}
use Rattle.std.specs.Prelude.{slice_get}
use Rattle.std.specs.List.{swap}
use Rattle.store.proofs.Exchanging.{IsExchanged, one_exchanged, all_exchanged}
use Rattle.store.proofs.Strays.{strays, fewer}
use Rattle.store.proofs.closing.exchange.Goals as goal

pub overflow_add-start : goal.overflow_add-start
overflow_add-start g c = omega (arith, c.loop-index-test.true, c.len.ensures.len, c.len.ensures.small)

pub overflow_add-start-else-target-index : goal.overflow_add-start-else-target-index
overflow_add-start-else-target-index g c =
    let targets = c.loop-index.targets.items in let index = c.loop-index.index in let is = c.loop-index.invariant in
    let at : slice_get targets index ≡ Some c.index-target.result.now =
    slice_get_read targets (length targets) index c.index-target.result.now refl
    (omega (arith, c.loop-index-test.true, c.len.ensures.len, c.requires.all, is.long.1)) c.index-target.ensures in
    omega (arith, is.apart.inside index c.index-target.result.now at, is.long.1, c.requires.all, c.len.ensures.small)

pub swap_indices-requires-clause-b_in_bounds : goal.swap_indices-requires-clause-b_in_bounds
swap_indices-requires-clause-b_in_bounds g c =
    let targets = c.loop-index.targets.items in let index = c.loop-index.index in let is = c.loop-index.invariant in
    let at : slice_get targets index ≡ Some c.index-target.result.now =
    slice_get_read targets (length targets) index c.index-target.result.now refl
    (omega (arith, c.loop-index-test.true, c.len.ensures.len, c.requires.all, is.long.1)) c.index-target.ensures in
    omega (arith, is.apart.inside index c.index-target.result.now at, is.all)

pub swap-requires-clause-j_in_bounds : goal.swap-requires-clause-j_in_bounds
swap-requires-clause-j_in_bounds g c =
    let targets = c.loop-index.targets.items in let index = c.loop-index.index in let is = c.loop-index.invariant in
    let at : slice_get targets index ≡ Some c.index-target.result.now =
    slice_get_read targets (length targets) index c.index-target.result.now refl
    (omega (arith, c.loop-index-test.true, c.len.ensures.len, c.requires.all, is.long.1)) c.index-target.ensures in
    omega (arith, is.apart.inside index c.index-target.result.now at)

pub loop-index-smaller : goal.loop-index-smaller
loop-index-smaller g c =
    let targets = c.loop-index.targets.items in let index = c.loop-index.index in let is = c.loop-index.invariant in let target = c.index-target.result.now in
    let at : slice_get targets index ≡ Some target =
    slice_get_read targets (length targets) index target refl
    (omega (arith, c.loop-index-test.true, c.len.ensures.len, c.requires.all, is.long.1)) c.index-target.ensures in
    let less : strays 0 (swap targets index target) < strays 0 targets = fewer targets index target at c.if-target-index.false is.apart in
    let smaller : (length c.swap.new.self.items - index) + strays 0 c.swap.new.self.items < (length targets - index) + strays 0 targets =
    omega (arith, less, ap (strays 0) c.swap.ensures.items, ap length c.swap.ensures.items, length-swap targets index target) in
    smaller

pub loop-index-preserved : goal.loop-index-preserved
loop-index-preserved g c =
    let start = c.args.start in let before = c.args.table.now.entries in let aims = c.args.targets.items in let now = c.loop-index.table.entries in
    let targets = c.loop-index.targets.items in let index = c.loop-index.index in let is = c.loop-index.invariant in let target = c.index-target.result.now in
    let at : slice_get targets index ≡ Some target =
    slice_get_read targets (length targets) index target refl
    (omega (arith, c.loop-index-test.true, c.len.ensures.len, c.requires.all, is.long.1)) c.index-target.ensures in
    subst (λ es. IsExchanged start before aims es c.swap.new.self.items index) (sym c.swap_indices.ensures.entries)
    (subst (λ ts. IsExchanged start before aims (swap now (start + index) (start + target)) ts index) (sym c.swap.ensures.items)
    (one_exchanged start before aims now targets index target is at c.if-target-index.false))

pub returns : goal.returns
returns g c = all_exchanged c.args.start c.args.table.now.entries c.args.targets.items c.loop-index.table.entries c.loop-index.targets.items c.loop-index.index
    (omega (arith, c.requires.all)) c.loop-index.invariant
    (omega (arith, c.loop-index-test.false, c.len.ensures.len, c.requires.all, c.loop-index.invariant.long.1))

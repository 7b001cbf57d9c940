use Rattle.std.proofs.Common.{◌≡◌, ◌∷◌, [], ◌++◌, ◌+◌, List, false, take, ap, sym, subst, ◌∙◌, add-one, arith}
use Rattle.std.specs.Ordering.{is_lt}
use Rattle.grid.specs.declared.square.Push.{Push}
use Rattle.grid.specs.Board.{Scene, push_cmp}
use Rattle.store.specs.Entries.{Origin, OpenEntry, origin_cmp, Closed}
use Rattle.store.specs.Entering.{RiseByOrigin}
use Rattle.store.specs.FoundView.{NoneExceed, open_of, open_entry}
use Rattle.successors.proofs.lemmas.Lists.{take_short}
use Rattle.store.proofs.Tails.{entry_at, open_none, open_more}
use Rattle.store.proofs.RisingOrigins.{rise_none, rise_more}
use Rattle.store.proofs.closing.do_rise.Goals as goal

pub loop-index-init : goal.loop-index-init
loop-index-init g c =
    subst (λ (ws : List (OpenEntry Scene Push)). RiseByOrigin ws × NoneExceed ws c.opened-last.result) (sym (open_none c.args.start c.args.table.now.entries))
    (rise_none c.opened-last.result)

pub loop-index-preserved : goal.loop-index-preserved
loop-index-preserved g c =
    let es = c.args.table.now.entries in let index = c.loop-index.index in let start = c.args.start in
    let there = entry_at es index (omega (arith, c.loop-index-test.true, c.len-index-end.ensures.len)) in
    let e : Closed = there.0 in
    let last : Origin Push = c.loop-index.last in
    let o : c.origin_at-origin.result ≡ (open_entry e).1 = c.origin_at-origin.ensures e there.1 in
    let later : is_lt (origin_cmp push_cmp (open_entry e).1 last) ≡ false = ap (λ (p : Origin Push). is_lt (origin_cmp push_cmp p last)) (sym o) ∙
    sym c.if-is_before.ensures in
    let more = rise_more (open_of start (take index es)) last (open_entry e) c.loop-index.invariant.0 c.loop-index.invariant.1 later in
    let ws : open_of start (take index es) ++ open_entry e ∷ [] ≡ open_of start (take (index + 1) es) = sym (open_more start index es e (omega arith) there.1) ∙
    ap (λ k. open_of start (take k es)) (sym (add-one index)) in
    subst (λ (p : Origin Push). RiseByOrigin (open_of start (take (index + 1) es)) × NoneExceed (open_of start (take (index + 1) es)) p) (sym o)
    (subst (λ (xs : List (OpenEntry Scene Push)). RiseByOrigin xs × NoneExceed xs (open_entry e).1) ws more)

pub returns-clause-rise : goal.returns-clause-rise
returns-clause-rise g c =
    λ e. subst (λ xs. RiseByOrigin (open_of c.args.start xs))
    (take_short c.args.table.now.entries c.loop-index.index (omega (arith, c.loop-index-test.false, c.len-index-end.ensures.len))) c.loop-index.invariant.0

use Rattle.std.proofs.Common.{rules, ◌≡◌, ◌+◌, ◌∷◌, [], ◌++◌, length, take, refl, ap, sym, ◌∙◌, arith}
use Rattle.std.proofs.lemmas.List.{take_more}
use Rattle.std.proofs.lemmas.Option.{slice_get_read}
use Rattle.std.specs.Prelude.{slice_index_or}
use Rattle.grid.specs.declared.square.Push.{Push}
use Rattle.grid.specs.Board.{Scene}
use Rattle.store.specs.Entries.{OpenEntry}
use Rattle.store.specs.FoundView.{seen_of, open_of, let_in, all_let_in}
use Rattle.store.specs.inside.Indices.{IsIndexOf}
use Rattle.store.proofs.PendingOffers.{let_in_more}
use Rattle.store.proofs.Indices.{stays}
use Rattle.store.proofs.batches.enter_each.Goals as goal

pub enter_at-requires : goal.enter_at-requires
enter_at-requires g c =
    let os = c.args.offers.now in let i = c.loop-nth.nth in
    let o = c.index-offers-nth.result in let index = slice_index_or c.args.indices.now i 0 in
    let read = slice_get_read os (length os) i o refl c.loop-nth-test.true c.index-offers-nth.is in
    let stands : IsIndexOf c.loop-nth.table.entries index o.0 = λ some.
    stays c.args.start c.args.table.now.entries c.loop-nth.table.entries (take i os) index o.0 c.requires.found c.loop-nth.invariant.2
    c.loop-nth.invariant.3 c.loop-nth.invariant.0 (c.requires.indices.each i o read some) in search (rules, stands)

pub loop-nth-preserved : goal.loop-nth-preserved
loop-nth-preserved g c =
    let os = c.args.offers.now in let i = c.loop-nth.nth in let start = c.args.start in
    let es = c.args.table.now.entries in
    let e : OpenEntry Scene Push = c.index-offers-nth.result in
    let more : take (i + 1) os ≡ take i os ++ e ∷ [] = take_more os i e c.loop-nth-test.true ∙
    ap (λ (x : OpenEntry Scene Push). take i os ++ x ∷ []) (sym c.index-offers-nth.is) in (
      c.enter_at.ensures.waiting
          ∙ (λ n. let_in (c.loop-nth.invariant.3 n) (c.loop-nth.invariant.0 n) e)
          ∙ sym (let_in_more (seen_of start es) (open_of start es) (take i os) e) ∙ ap (λ xs. all_let_in (seen_of start es) (open_of start es) xs) (sym more),
      omega (arith, c.enter_at.ensures.capacity, c.loop-nth.invariant.1),
      c.enter_at.ensures.found,
      c.enter_at.ensures.seen ∙ c.loop-nth.invariant.3,
    )

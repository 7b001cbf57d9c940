use Rattle.std.proofs.Common.{Some, rules, ◌≡◌, ◌+◌, ◌∷◌, [], ◌++◌, take, ap, sym, ◌∙◌, arith}
use Rattle.std.proofs.lemmas.List.{append_assoc, take_more}
use Rattle.std.specs.Prelude.{slice_get}
use Rattle.std.proofs.lemmas.Option.{slice_get-get_or}
use Rattle.successors.specs.declared.parcel.Successor.{Successor}
use Rattle.store.specs.FoundView.{offer_of, offers_of}
use Rattle.store.proofs.PendingOffers.{offers_more, sum_beside}
use Rattle.store.proofs.pending.append_each.Goals as goal

pub loop-index-preserved : goal.loop-index-preserved
loop-index-preserved g c =
    let ss = c.args.successors.now in let i = c.loop-index.index in
    let s : Successor = c.index-successors-index.result in
    let before = c.args.pending.now.items in
    let offers = offers_of c.args.shares c.args.share c.args.rank in
    let more : take (i + 1) ss ≡ take i ss ++ s ∷ [] = take_more ss i s c.loop-index-test.true ∙
    ap (λ (x : Successor). take i ss ++ x ∷ []) (sym c.index-successors-index.is) in (
      c.append.ensures.items ∙ ap (λ xs. xs ++ offer_of c.args.shares c.args.share c.args.rank s) c.loop-index.invariant.0
          ∙ append_assoc before (offers (take i ss)) (offer_of c.args.shares c.args.share c.args.rank s)
          ∙ ap (λ xs. before ++ xs) (sym (offers_more c.args.shares c.args.share c.args.rank (take i ss) s) ∙ ap offers (sym more)),
      omega (arith, c.append.ensures.capacity.0, c.append.ensures.capacity.1, c.loop-index.invariant.1),
    )

pub append-requires : goal.append-requires
append-requires g c =
    let ss = c.args.successors.now in let index = c.loop-index.index in let s : Successor = c.index-successors-index.result in
    let at : slice_get ss index ≡ Some s = slice_get-get_or ss index s c.loop-index-test.true ∙
    ap (λ (x : Successor). Some x) (sym c.index-successors-index.is) in (
      search rules,
      (
        c.requires.width,
        (
          c.requires.shares,
          (
            c.requires.rank,
            (
              c.requires.few index s at,
              (sum_beside ss c.args.sums.now index s c.requires.sums at, omega (arith, c.loop-index.invariant.1, c.loop-index-test.true)),
            ),
          ),
        ),
      ),
    )

use Rattle.std.proofs.Common.{Some, get_or, refl, rules, sym, ap, ◌∙◌, arith}
use Rattle.std.proofs.lemmas.Option.{slice_get-get_or}
use Rattle.successors.specs.declared.parcel.Successor.{Successor}
use Rattle.store.proofs.DealtOffers.{offer_more}
use Rattle.store.proofs.pending.append_dealt.Goals as goal

pub loop-index-preserved : goal.loop-index-preserved
loop-index-preserved g c =
    let i = c.loop-index.index-index in let places = c.args.indices.now in
    let p = get_or places i 0 in let s = c.index-successors-index.result in
    let within = c.requires.indices i p (slice_get-get_or places i 0 c.loop-index-test.true) in (
      offer_more c.args.rank i p c.args.successors.now places s c.args.pending.now.items c.loop-index.pending.items c.append_offer.new.pending.items
          c.loop-index-test.true refl within c.index-successors-index.is c.loop-index.invariant.0 c.append_offer.ensures.items,
      omega (arith, c.append_offer.ensures.capacity.0, c.append_offer.ensures.capacity.1, c.loop-index.invariant.1),
    )

pub append_offer-requires : goal.append_offer-requires
append_offer-requires g c =
    let i = c.loop-index.index-index in let places = c.args.indices.now in
    let p = get_or places i 0 in let s : Successor = c.index-successors-index.result in let ss = c.args.successors.now in
    let within = c.requires.indices i p (slice_get-get_or places i 0 c.loop-index-test.true) in (
      search rules,
      (
        c.requires.width,
        (
          c.requires.rank,
          (
            c.requires.few p s (slice_get-get_or ss p s within ∙ ap (λ (x : Successor). Some x) (sym c.index-successors-index.is)),
            omega (arith, c.loop-index.invariant.1, c.loop-index-test.true),
          ),
        ),
      ),
    )

use Rattle.std.proofs.Common.{◌≡◌, ◌≢◌, arith}
use Rattle.std.specs.Int.RustNames.{bit_and}
use Rattle.prices.proofs.lemmas.Looks.{below_next}
use Rattle.regions.specs.inside.Listing.{bit_of}
use Rattle.regions.proofs.Bits.{apart_from_all}
use Rattle.regions.proofs.listing.is_apart.Goals as goal

pub loop-index-preserved : goal.loop-index-preserved
loop-index-preserved c =
    below_next (λ q. c.args.seat ≢ q → bit_and (bit_of c.args.bits.now c.args.seat) (bit_of c.args.bits.now q) ≡ 0)
    c.loop-index.index c.loop-index.invariant (c.are_disjoint.ensures c.if-not-are_disjoint.false)

pub returns : goal.returns
returns c = λ _. apart_from_all c.args.bits.now c.args.seat (λ q inside. c.loop-index.invariant q (omega (arith, inside)))

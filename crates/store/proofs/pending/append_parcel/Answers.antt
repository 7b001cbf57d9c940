use Rattle.std.proofs.Common.{◌≡◌, List, Some, subst, sym, rules, ap, length, arith}
use Rattle.std.specs.Prelude.{slice_get}
use Rattle.successors.specs.declared.parcel.Successor.{Successor}
use Rattle.successors.specs.inside.Sums.{AreSums}
use Rattle.successors.proofs.lemmas.Dealt.{dealt_within, dealt_few}
use Rattle.store.proofs.DealtOffers.{dealt_offers}
use Rattle.store.proofs.pending.append_parcel.Goals as goal

pub append_dealt-requires : goal.append_dealt-requires
append_dealt-requires g c =
    let p = c.args.parcel.now in let found = c.successors-successors.result.now in (
      search rules,
      (
        c.requires.width,
        (
          omega (arith, c.rank-rank.ensures, c.requires.rank),
          (
            λ i s at. c.requires.few i s (subst (λ (xs : List Successor). slice_get xs i ≡ Some s) c.successors-successors.ensures at),
            (
              dealt_within c.args.shares c.args.share found p.successors c.in-Some.places.now c.successors-successors.ensures c.in-Some.ensures,
              omega (arith, dealt_few c.args.shares c.args.share p.successors c.in-Some.places.now c.in-Some.ensures, c.requires.capacity),
            ),
          ),
        ),
      ),
    )

pub returns-in-Some : goal.returns-in-Some
returns-in-Some g c =
    let p = c.args.parcel.now in let found = c.successors-successors.result.now in
    dealt_offers c.args.shares c.args.share p.rank c.rank-rank.result found p.successors c.in-Some.places.now c.args.pending.now.items
    c.append_dealt.new.pending.items c.append_dealt.ensures c.rank-rank.ensures c.successors-successors.ensures c.in-Some.ensures

pub append_all-requires : goal.append_all-requires
append_all-requires g c = (
  search rules,
  (
    c.requires.width,
    (
      omega (arith, c.requires.share),
      (
        omega (arith, c.rank-rank.ensures, c.requires.rank),
        (
          λ i s at. c.requires.few i s (subst (λ (xs : List Successor). slice_get xs i ≡ Some s) c.successors-successors.ensures at),
          (
            subst (λ (xs : List Successor). AreSums xs c.sums.result.now) (sym c.successors-successors.ensures) c.sums.ensures,
            omega (arith, ap (length {A = Successor}) c.successors-successors.ensures, c.requires.capacity),
          ),
        ),
      ),
    ),
  ),
)

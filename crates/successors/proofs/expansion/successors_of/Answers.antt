use Rattle.std.proofs.Common.{◌≡◌, List, None, Some, refl, subst, sym, take, rules}
use Rattle.std.specs.Prelude.{slice_get}
use Rattle.grid.specs.Board.{Board}
use Rattle.grid.specs.States.{FitsLevel}
use Rattle.successors.specs.declared.parcel.Successor.{Successor}
use Rattle.successors.specs.ParcelView.{AreSuccessors, IsParcel}
use Rattle.successors.specs.inside.ParcelInside.{parcel_of}
use Rattle.successors.specs.Capping.{capped, uncapped}
use Rattle.successors.proofs.Appending.{slots_refilled}
use Rattle.successors.proofs.Gathering.{is_parcel}
use Rattle.successors.proofs.Picking.{under_cap}
use Rattle.successors.proofs.expansion.successors_of.Goals as goal

pub returns-in_default-clause-successors : goal.returns-in_default-clause-successors
returns-in_default-clause-successors c =
    let s = c.args.ranked.now in let board = c.args.level.now in
    under_cap (capped board s.cap) board None refl (search rules) s.layer s.position
    (take c.successors_by-count.result c.successors_by-count.new.slots.successors.items) (c.successors_by-count.ensures.successors s.layer)

pub returns-in_default-clause-parcel : goal.returns-in_default-clause-parcel
returns-in_default-clause-parcel c =
    let s = c.args.ranked.now in let board = c.args.level.now in
    is_parcel board s c.requires.ranked (take c.successors_by-count.result c.successors_by-count.new.slots.successors.items)
    (under_cap (capped board s.cap) board None refl (search rules) s.layer s.position
    (take c.successors_by-count.result c.successors_by-count.new.slots.successors.items) (c.successors_by-count.ensures.successors s.layer))
    c.successors_by-count.ensures.fits

pub keep_admitted-requires-clause-fits : goal.keep_admitted-requires-clause-fits
keep_admitted-requires-clause-fits c = λ i s at.
    let same : c.in-Some-bound.bound.now ≡ c.args.level.now = search rules in
    subst (λ (b : Board). FitsLevel b s.position) (sym same)
    (c.successors_by-count.ensures.fits i s (subst (λ (xs : List Successor). slice_get (take c.successors_by-count.result xs) i ≡
    Some s) c.as_mut_slice.ensures.value at))

pub returns-clause-parcel : goal.returns-clause-parcel
returns-clause-parcel c =
    let s = c.args.ranked.now in let board = c.args.level.now in let bound = c.in-Some-bound.bound.now in
    let count = c.successors_by-count.result in let items = c.successors_by-count.new.slots.successors.items in
    let back = c.keep_admitted.new.slots in let kept = c.keep_admitted.result in
    let same : bound ≡ board = search rules in
    let capped_by : s.cap ≡ Some c.in-Some.most = search rules in
    let given = subst (λ (xs : List Successor). AreSuccessors (uncapped bound) s.layer s.position (take count xs)) (sym c.as_mut_slice.ensures.value)
    (subst (λ (b : Board). AreSuccessors (uncapped b) s.layer s.position (take count items)) (sym same) (c.successors_by-count.ensures.successors s.layer)) in
    let come = under_cap (capped board s.cap) bound (Some c.in-Some.most) same capped_by s.layer s.position (take kept back)
    (c.keep_admitted.ensures.successors s.position given) in
    subst (λ (xs : List Successor). IsParcel (parcel_of (capped board s.cap) s.layer s.rank xs kept))
    (sym (slots_refilled items c.as_mut_slice.result.now back c.keep_admitted.auto.slots c.as_mut_slice.ensures.value))
    (is_parcel board s c.requires.ranked (take kept back) come
    (λ i x at. subst (λ (b : Board). FitsLevel b x.position) same (c.keep_admitted.ensures.fits i x at)))

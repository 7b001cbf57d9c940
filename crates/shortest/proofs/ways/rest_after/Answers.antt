use Rattle.std.proofs.Common.{◌≡◌, ◌∙◌, Some, refl, sym, ap, subst, arith}
use Rattle.std.proofs.lemmas.Option.{slice_get-get_or, slice_get_within}
use Rattle.grid.specs.Board.{Board}
use Rattle.grid.specs.States.{FitsLevel}
use Rattle.area.specs.Pushes.{CanPush}
use Rattle.store.specs.Visited.{IsNew}
use Rattle.successors.specs.Expansion.{after_push}
use Rattle.shortest.proofs.Onward.{no_rest, not_listed, one_at, onward_fits, other_layer}
use Rattle.shortest.proofs.ways.rest_after.Goals as goal

pub pushed-after-requires-clause-fits : goal.pushed-after-requires-clause-fits
pushed-after-requires-clause-fits c =
    subst (λ (b : Board). FitsLevel b c.args.from.now.state) (sym c.level.ensures)
    (onward_fits c.args.states.now c.args.rests.now c.args.from.now.pushes c.args.from.now.state c.tell.ensures c.requires.onward)

pub pushed-after-requires-clause-possible : goal.pushed-after-requires-clause-possible
pushed-after-requires-clause-possible c =
    subst (λ (b : Board). CanPush b c.args.from.now.state c.args.push) (sym c.level.ensures) c.requires.possible

pub find-requires : goal.find-requires
find-requires c = subst (λ (b : Board). FitsLevel b c.pushed-after.result) c.level.ensures c.pushed-after.ensures.fits

pub returns-in_default-clause-none : goal.returns-in_default-clause-none
returns-in_default-clause-none c = λ m sum.
    let v = c.args.states.now in
    let s = c.args.from.now.state in
    let p = c.args.push in
    let after = subst (λ (b : Board). c.pushed-after.result ≡ after_push b s p) c.level.ensures c.pushed-after.ensures.after in
    not_listed v c.args.rests.now c.args.from.now.pushes s c.tell.ensures c.requires.onward p m c.requires.possible
    (subst (IsNew v.entries) after c.in_default.ensures) sum

pub at-there-requires : goal.at-there-requires
at-there-requires c =
    let v = c.args.states.now in
    let (y, at_y, there) = c.in-Some.ensures in
    slice_get_within v.entries c.in-Some.place y at_y

pub returns-then-there-from-clause-none : goal.returns-then-there-from-clause-none
returns-then-there-from-clause-none c = λ m sum.
    let v = c.args.states.now in
    let s = c.args.from.now.state in
    let p = c.args.push in
    let after = subst (λ (b : Board). c.pushed-after.result ≡ after_push b s p) c.level.ensures c.pushed-after.ensures.after in
    let (y, at_y, there) = c.in-Some.ensures in
    let same = (one_at v.entries c.in-Some.place y.pushes c.at-there.result.pushes y.position c.at-there.result.state
    (y, at_y, refl, refl) c.at-there.ensures).1 in
    other_layer v c.args.rests.now c.args.from.now.pushes s c.tell.ensures c.requires.onward p m c.in-Some.place y c.requires.possible at_y (there ∙ after)
    (λ e. omega (arith, c.if-there-from.true, e, same)) sum

pub offset_bounds-rests-place : goal.offset_bounds-rests-place
offset_bounds-rests-place c =
    let v = c.args.states.now in
    let (y, at_y, there) = c.in-Some.ensures in
    let lt = slice_get_within v.entries c.in-Some.place y at_y in
    let many = c.requires.onward.known.many in
    omega (arith, lt, many)

pub bounds : goal.bounds
bounds c =
    let v = c.args.states.now in
    let (y, at_y, there) = c.in-Some.ensures in
    let lt = slice_get_within v.entries c.in-Some.place y at_y in
    let many = c.requires.onward.known.many in
    omega (arith, lt, many)

pub returns-in_default-rests-clause-none : goal.returns-in_default-rests-clause-none
returns-in_default-rests-clause-none c = λ m sum.
    let v = c.args.states.now in
    let s = c.args.from.now.state in
    let p = c.args.push in
    let after = subst (λ (b : Board). c.pushed-after.result ≡ after_push b s p) c.level.ensures c.pushed-after.ensures.after in
    let (y, at_y, there) = c.in-Some.ensures in
    let lt = slice_get_within v.entries c.in-Some.place y at_y in
    let many = c.requires.onward.known.many in
    let same = (one_at v.entries c.in-Some.place y.pushes c.at-there.result.pushes y.position c.at-there.result.state
    (y, at_y, refl, refl) c.at-there.ensures).1 in
    no_rest v c.args.rests.now c.args.from.now.pushes s c.tell.ensures c.requires.onward p m c.in-Some.place y at_y (there ∙ after)
    (omega (arith, c.if-there-from.false, same))
    (slice_get-get_or c.args.rests.now c.in-Some.place _ (omega (arith, lt, many)) ∙ ap Some c.in_default-rests.is) sum

pub returns-clause-leads : goal.returns-clause-leads
returns-clause-leads c =
    let v = c.args.states.now in
    let s = c.args.from.now.state in
    let p = c.args.push in
    let after = subst (λ (b : Board). c.pushed-after.result ≡ after_push b s p) c.level.ensures c.pushed-after.ensures.after in
    let (y, at_y, there) = c.in-Some.ensures in
    let lt = slice_get_within v.entries c.in-Some.place y at_y in
    let many = c.requires.onward.known.many in
    let same = (one_at v.entries c.in-Some.place y.pushes c.at-there.result.pushes y.position c.at-there.result.state
    (y, at_y, refl, refl) c.at-there.ensures).1 in
    record {
      entry = y;
      at = at_y;
      there = there ∙ after;
      count = omega (arith, c.if-there-from.false, same);
      rest_is = slice_get-get_or c.args.rests.now c.in-Some.place _ (omega (arith, lt, many)) ∙ ap Some c.in-Some-rests.is;
    }

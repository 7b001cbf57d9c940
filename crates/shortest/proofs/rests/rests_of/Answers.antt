use Rattle.std.proofs.Common.{◌≡◌, ◌-◌, ◌∙◌, ℕ, suc, sym, subst, arith}
use Rattle.shortest.specs.inside.Resting.{AreRests}
use Rattle.shortest.proofs.Onward.{rests_more, rests_none}
use Rattle.shortest.proofs.rests.rests_of.Goals as goal

pub loop-place-init : goal.loop-place-init
loop-place-init c =
    let v = c.args.states.now in
    let many = c.in_ok-rests.ensures in
    let count = c.len.ensures in
    let top = c.len-place.ensures in
    record {
      within = omega (arith, top);
      rests = rests_none v.board v.most c.len-place.result v.entries c.in_ok-rests.rests.items (many ∙ count) (omega (arith, top));
      size = c.requires.size;
      room = c.requires.room;
    }

pub rest_at-rest-requires-clause-rests : goal.rest_at-rest-requires-clause-rests
rest_at-rest-requires-clause-rests c =
    let v = c.args.states.now in
    let some = c.loop-place-test.true in
    let one : c.loop-place.place ≡ suc (c.loop-place.place - 1) = omega (arith, some) in
    subst (AreRests v.board v.most (suc (c.loop-place.place - 1)) v.entries) (sym c.as_slice.ensures.value)
    (subst (λ (n : ℕ). AreRests v.board v.most n v.entries c.loop-place.rests.items) one c.loop-place.invariant.rests)

pub loop-place-preserved : goal.loop-place-preserved
loop-place-preserved c =
    let v = c.args.states.now in
    let some = c.loop-place-test.true in
    let within = c.loop-place.invariant.within in
    let one : c.loop-place.place ≡ suc (c.loop-place.place - 1) = omega (arith, some) in
    record {
      within = omega (arith, within, some);
      rests = rests_more v.board v.most (c.loop-place.place - 1) v.entries c.loop-place.rests.items c.rest_at-rest.result (omega (arith, within, some))
          (subst (λ (n : ℕ). AreRests v.board v.most n v.entries c.loop-place.rests.items) one c.loop-place.invariant.rests) c.rest_at-rest.ensures.rest;
      size = c.rest_at-rest.ensures.size;
      room = c.rest_at-rest.ensures.room;
    }

pub returns-clause-rests : goal.returns-clause-rests
returns-clause-rests c =
    let v = c.args.states.now in
    let none : c.loop-place.place ≡ 0 = omega (arith, c.loop-place-test.false) in
    subst (λ (n : ℕ). AreRests v.board v.most n v.entries c.loop-place.rests.items) none c.loop-place.invariant.rests

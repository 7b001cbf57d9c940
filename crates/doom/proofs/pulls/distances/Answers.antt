use Rattle.std.proofs.Common.{◌≡◌, [], length, subst, arith}
use Rattle.std.proofs.lemmas.Grind.{common_steps}
use Rattle.std.proofs.lemmas.List.{nil_from_length}
use Rattle.doom.specs.inside.Pulling.{IsFilling}
use Rattle.doom.proofs.Pulling.{few_unknown}
use Rattle.doom.proofs.Ways.{filled}
use Rattle.doom.proofs.pulls.distances.Goals as goal

pub loop-steps-init : goal.loop-steps-init
loop-steps-init c =
    let filling = c.in_ok-found.ensures.filling in
    record {
      filling = filling;
      none = c.in_ok-found.ensures.due;
      few = λ some. let le = few_unknown c.args.level.now c.in_ok-found.found.far.items c.in_ok-found.found.marked.items filling in omega (arith, le);
    }

pub returns : goal.returns
returns c =
    let far = c.loop-steps.found.far.items in
    let marked = c.loop-steps.found.marked.items in
    let few : length marked ≡ 0 = grind (arith, common_steps, c.is_empty.ensures, c.loop-steps-test.false) in
    let none : marked ≡ [] = nil_from_length marked few in
    filled c.args.level.now c.loop-steps.steps far (subst (λ ys. IsFilling c.args.level.now c.loop-steps.steps far [] ys) none c.loop-steps.invariant.filling)

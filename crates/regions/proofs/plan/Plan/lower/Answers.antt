use Rattle.std.proofs.Common.{◌≡◌, ◌≤◌, ℕ, List, subst, arith}
use Rattle.doom.specs.Lost.{IsLost}
use Rattle.prices.specs.Prices.{total_need}
use Rattle.regions.specs.Regions.{HasEndless, excess_of}
use Rattle.regions.specs.inside.Needs.{need_in}
use Rattle.regions.specs.inside.Views.{JobView, parts_of}
use Rattle.regions.proofs.Bounds.{any_lost, bound_by, if_none}
use Rattle.regions.proofs.plan.Plan.lower.Goals as goal

pub returns-in_err-excess-clause-lost : goal.returns-in_err-excess-clause-lost
returns-in_err-excess-clause-lost c =
    let board = c.args.distances.now.level in
    let s = c.args.position.now in
    let some_is = subst (λ (ts : List JobView). HasEndless (parts_of ts) s) c.as_slice.ensures.value c.in_err-excess.ensures.endless in
    if_none c.from_residual.result (IsLost board s)
    (any_lost c.args.distances.now c.args.self.now.tolls.items c.args.self.now.jobs.items s c.tell.ensures.far c.tell.ensures.away
    c.requires.taken.0 c.requires.fits some_is)

pub returns-clause-bound : goal.returns-clause-bound
returns-clause-bound c = λ m lt. (
    let v = c.args.distances.now in
    let s = c.args.position.now in
    let need = subst (λ (ns : List ℕ). c.total_need-needs.result ≡ total_need (need_in v ns) s) c.as_slice-2.ensures.value c.total_need-needs.ensures in
    let said = subst (λ (ts : List JobView). c.in_ok-excess.excess ≤ excess_of (parts_of ts) s) c.as_slice.ensures.value c.in_ok-excess.ensures.sum in
    bound_by v c.args.self.now s c.total_need-needs.result c.in_ok-excess.excess c.saturating_add.result m c.tell.ensures.far c.tell.ensures.away
    c.tell.ensures.goals c.requires.taken c.requires.fits need said (let e = c.saturating_add.ensures in omega (arith, e))
    (let e = c.saturating_sub.ensures in omega (arith, e, lt))
    )

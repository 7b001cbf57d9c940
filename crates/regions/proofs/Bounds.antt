-- What sound regions say is a bound.
use Rattle.std.proofs.Common.{◌≡◌, ◌+◌, ◌-◌, ◌<◌, ◌≤◌, ℕ, List, [], ◌∷◌, Option, None, Some, inl, inr, get_or, length, refl, subst, arith}
use Rattle.std.specs.Prelude.{IfNone}
use Rattle.grid.specs.Board.{Scene}
use Rattle.grid.specs.States.{FitsLevel}
use Rattle.doom.specs.Lost.{IsLost}
use Rattle.prices.specs.Prices.{AreFar, goals_of, total_need}
use Rattle.prices.specs.Solving.{NoneWithin}
use Rattle.prices.specs.inside.Checks.{StayAway}
use Rattle.prices.specs.inside.Sums.{greatest}
use Rattle.prices.specs.inside.Tables.{far_in, row_in, row_start}
use Rattle.prices.specs.inside.Views.{DistancesView}
use Rattle.prices.proofs.lemmas.Prices.{sum_le, tolls_are_free}
use Rattle.regions.specs.declared.plan.Plan.{Plan}
use Rattle.regions.specs.Regions.{HasEndless, endless, excess_of}
use Rattle.regions.specs.inside.Needs.{AreNeeds, least_to, need_in, need_under, toll_in}
use Rattle.regions.specs.inside.Sound.{AreSound, IsTaken}
use Rattle.regions.specs.inside.Tables.{said}
use Rattle.regions.specs.inside.Views.{JobView, part_of, parts_of}
use Rattle.regions.proofs.Tolls.{need_is}
use Rattle.regions.proofs.lemmas.Excess.{endless_is_lost, excess_is_bound, parts_add_up}

-- listed needs are no more than those under the tolls
need_below : (v : DistancesView) (tolls needs : List ℕ) → v.table.goals.items ≡ goals_of v.level → AreNeeds v tolls needs → (b p : ℕ)
    → need_in v needs b p ≤ need_under v tolls b p
need_below v tolls needs goals are b p =
    let row = row_in v.table b p in
    let le = are (row_start v.table.spots.items v.table.sides.items b p) in
    let least = least_to (λ i. get_or row i 0 + get_or tolls i 0) greatest (length (goals_of v.level)) in
    let is = need_is v tolls row b p (length (goals_of v.level)) least goals refl refl refl in
    subst (λ (n : ℕ). need_in v needs b p ≤ n) is le

needs_below : (v : DistancesView) (tolls needs : List ℕ) (s : Scene) → v.table.goals.items ≡ goals_of v.level → AreNeeds v tolls needs
    → total_need (need_in v needs) s ≤ total_need (need_under v tolls) s
needs_below v tolls needs s goals are =
    sum_le (λ b. need_in v needs b s.player) (λ b. need_under v tolls b s.player) s.boxes (λ b there. need_below v tolls needs goals are b s.player)

-- needs and excess above the price
pub bound_by : (v : DistancesView) (plan : Plan) (s : Scene) (total excess sum m : ℕ) → AreFar v.level (far_in v.table)
    → StayAway v.level (far_in v.table) → v.table.goals.items ≡ goals_of v.level → IsTaken v (Some plan) → FitsLevel v.level s
    → total ≡ total_need (need_in v plan.needs.items) s → excess ≤ excess_of (parts_of plan.jobs.items) s → sum ≤ total + excess
    → m < sum - plan.price → NoneWithin v.level m s
bound_by v plan s total excess sum m far away goals (sound, are, paid) fits need said added lt =
    let tolls = plan.tolls.items in
    let jobs = plan.jobs.items in
    let below = needs_below v tolls plan.needs.items s goals are in
    excess_is_bound v.level (far_in v.table) (toll_in v tolls) (need_under v tolls) (excess_of (parts_of jobs)) far away
    (tolls_are_free v.level (far_in v.table) (toll_in v tolls) greatest far)
    (parts_add_up v.level (far_in v.table) (need_under v tolls) (parts_of jobs) sound.parts sound.paid) s m fits
    (omega (arith, need, below, said, paid, added, lt))

-- without the first region the others are sound
sound_rest : (v : DistancesView) (tolls : List ℕ) (t : JobView) (ts : List JobView) → AreSound v tolls (t ∷ ts) → AreSound v tolls ts
sound_rest v tolls t ts sound = record {
  parts = sound.parts.1;
  paid = λ p d here there come. (let pay = sound.paid p d here there come in let le = pay.1 in (pay.0.1, omega (arith, le)));
}

-- and where the first one is endless, the position is lost
first_lost : (v : DistancesView) (tolls : List ℕ) (t : JobView) (ts : List JobView) (s : Scene)
    → AreFar v.level (far_in v.table) → StayAway v.level (far_in v.table) → AreSound v tolls (t ∷ ts) → FitsLevel v.level s
    → endless ≤ said t.table s → IsLost v.level s
first_lost v tolls t ts s far away sound fits le =
    endless_is_lost v.level (far_in v.table) (need_under v tolls) (part_of t) far away sound.parts.0
    (λ p d here there come. (let pay = sound.paid p d here there come in let cost = pay.1 in ((pay.0.0, tt), omega (arith, cost))))
    s fits le

-- so it is where any of them is
pub any_lost : (v : DistancesView) (tolls : List ℕ) (ts : List JobView) (s : Scene) → AreFar v.level (far_in v.table)
    → StayAway v.level (far_in v.table) → AreSound v tolls ts → FitsLevel v.level s → HasEndless (parts_of ts) s → IsLost v.level s
any_lost v tolls [] s far away sound fits none = elim none [ ]
any_lost v tolls (t ∷ ts) s far away sound fits (inl le) = first_lost v tolls t ts s far away sound fits le
any_lost v tolls (t ∷ ts) s far away sound fits (inr later) = any_lost v tolls ts s far away (sound_rest v tolls t ts sound) fits later

-- what holds in any case holds if there is no value
pub if_none : {A : Type 0} (o : Option A) (P : Type 0) → P → IfNone o P
if_none None P p = p
if_none (Some x) P p = tt

-- Sets of regions whose tables are true.
use Rattle.std.specs.Prelude.{◌≡◌, ℕ, Option, Some, None, List}
use Rattle.prices.specs.inside.Tables.{far_in}
use Rattle.prices.specs.inside.Views.{DistancesView}
use Rattle.regions.specs.declared.plan.Plan.{Plan}
use Rattle.regions.specs.Regions.{ArePaid, AreRegions}
use Rattle.regions.specs.inside.Needs.{AreNeeds, need_under, price_of}
use Rattle.regions.specs.inside.Views.{JobView, parts_of}

-- the tables are those of the level, and count no more for a push than it wastes under the tolls
pub record AreSound (v : DistancesView) (tolls : List ℕ) (jobs : List JobView) : Type 0 where
  pub parts : AreRegions v.level (parts_of jobs)
  pub paid : ArePaid v.level (far_in v.table) (need_under v tolls) (parts_of jobs)

-- the plan, if there is one, is sound under its tolls, and its needs and its price are those of its tolls
abbrev pub IsTaken : DistancesView → Option Plan → Type 0
IsTaken v None = Unit {0}
IsTaken v (Some plan) = AreSound v plan.tolls.items plan.jobs.items × AreNeeds v plan.tolls.items plan.needs.items ×
    (plan.price ≡ price_of v plan.tolls.items)

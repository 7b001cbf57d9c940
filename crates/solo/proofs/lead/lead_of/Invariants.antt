use Rattle.std.proofs.Common.{◌-◌, ◌<◌, ◌≤◌, List, length, map, reverse}
use Rattle.successors.specs.Problems.{Problem}
use Rattle.layers.specs.LayerView.{LayerView}
use Rattle.solo.specs.Leads.{last_places}
use Rattle.solo.specs.inside.LeadsBack.{IsReadBack}
use Rattle.solo.specs.inside.Searched.{AreTrailed}
use Rattle.solo.proofs.lead.lead_of.Given as goal

abbrev pub invariant-loop-number : goal.invariant-loop-number
invariant-loop-number g l =
    (l.number ≤ length l.trail) × ((problem : Problem) (layers : List LayerView) → AreTrailed problem layers (map g.P.HasParents.origins l.trail) →
    l.fn.asked < length (last_places layers) → IsReadBack layers problem l.fn.asked (l.number - 1) l.rank (reverse l.pushes.items))

abbrev pub decreases-loop-number : goal.decreases-loop-number
decreases-loop-number g l = l.number

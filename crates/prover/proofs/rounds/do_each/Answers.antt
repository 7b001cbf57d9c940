-- What a lane holds after its thread is what the picks of that lane have found.
use Rattle.std.proofs.Common.{◌<◌, ◌∙◌, length, sym, subst, arith}
use Rattle.std.proofs.lemmas.Option.{get_or_from_slice_get, slice_get_within}
use Rattle.prover.specs.inside.Rounds.{IsLane}
use Rattle.prover.proofs.Dealing.{each_at}
use Rattle.prover.proofs.rounds.do_each.Goals as goal

pub for_each_spread-requires-after_bounds : goal.for_each_spread-requires-after_bounds
for_each_spread-requires-after_bounds g c κs within = λ i p lt is. (
  c.requires.size,
  subst (IsLane c.args.pruner.now c.args.frontier.now.entries) (sym is)
      (each_at (IsLane c.args.pruner.now c.args.frontier.now.entries) c.args.lanes.now i lt c.requires.lanes p.now),
)

pub returns-clause-lanes : goal.returns-clause-lanes
returns-clause-lanes g c = λ i lane at.
    let new = c.for_each_spread.new.s in
    let inside = slice_get_within new i lane at in
    let same_length = c.for_each_spread.auto.s in
    let lt : i < length c.args.lanes.now = omega (arith, inside, same_length) in
    let changes = (c.for_each_spread.ensures i lane lt).1 in
    subst (IsLane c.args.pruner.now c.args.frontier.now.entries) (changes.left ∙ get_or_from_slice_get new i lane lane at) changes.call

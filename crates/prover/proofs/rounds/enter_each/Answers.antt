use Rattle.std.proofs.Common.{rules, refl, ◌≡◌, ◌<◌, ◌∙◌, ◌/◌, ◌%◌, List, Some, length, subst, sym, arith}
use Rattle.std.proofs.lemmas.Option.{slice_get_read}
use Rattle.std.specs.Prelude.{slice_get}
use Rattle.prover.specs.declared.lane.Pick.{Pick}
use Rattle.prover.specs.declared.lane.Lane.{Lane}
use Rattle.prover.proofs.Dealing.{lanes_on}
use Rattle.prover.proofs.Entering.{goes_then}
use Rattle.prover.proofs.rounds.enter_each.Goals as goal

pub enter_pick-requires-clause-pick : goal.enter_pick-requires-clause-pick
enter_pick-requires-clause-pick c =
    let i = c.loop-index.index in
    let lanes = c.args.lanes.now in
    let lane = c.index-lanes-index.result in
    let picks = c.as_slice-picks.result.now in
    let pick = c.index-picks-index.result in
    let many = c.requires.all in
    let few : i / 16 < length picks = search rules in
    (c.loop-index.invariant.lanes (i % 16) lane (slice_get_read lanes (length lanes) (i % 16) lane refl (omega (arith, many)) c.index-lanes-index.is)).picks (i / 16) pick
    (subst (λ (l : Lane). slice_get l.picks.items (i / 16) ≡ Some pick) (sym c.index-lanes-index.is)
    (subst (λ (xs : List Pick). slice_get xs (i / 16) ≡ Some pick) c.as_slice-picks.ensures.value
    (slice_get_read picks (length picks) (i / 16) pick refl few c.index-picks-index.is)))

pub loop-index-preserved : goal.loop-index-preserved
loop-index-preserved c =
    let was = c.loop-index.invariant in
    let now = c.in_ok-enter_pick.ensures in
    let old = c.loop-index.frontier.entries in
    let new = c.enter_pick.new.frontier.entries in
    record {
      searched = now.searched;
      lanes = lanes_on c.args.pruner.now old new c.args.lanes.now now.goes_on.still was.lanes;
      goes_on = goes_then c.args.frontier.now.entries old new was.goes_on now.goes_on;
      problem = c.enter_pick.ensures.problem ∙ was.problem;
      same = c.enter_pick.ensures.problem ∙ was.same;
    }

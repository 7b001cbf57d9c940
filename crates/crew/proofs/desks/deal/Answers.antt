use Rattle.std.proofs.Common.{◌≡◌, ◌<◌, length, get_or, Some, ap, ◌∙◌, arith}
use Rattle.std.specs.Prelude.{slice_get}
use Rattle.std.proofs.lemmas.List.{length-set}
use Rattle.std.proofs.lemmas.Option.{slice_get-get_or}
use Rattle.claims.specs.Hands.{DrawerView}
use Rattle.crew.proofs.Dealing.{drawers_set, roomy_set}
use Rattle.crew.proofs.desks.deal.Goals as goal

pub loop-place-preserved : goal.loop-place-preserved
loop-place-preserved c =
    let desks = c.loop-place.desks in let place = c.loop-place.place in let d = c.index-desks-place.result in
    let lt : place < length desks = omega (arith, c.loop-place-test.true, c.loop-place.invariant.same) in
    let here : slice_get desks place ≡ Some (get_or desks place d) = slice_get-get_or desks place d lt in
    record {
      same = length-set desks place c.give.new.desk ∙ c.loop-place.invariant.same;
      rest = c.split-kept.ensures.0 ∙ c.loop-place.invariant.rest;
      drawers = drawers_set c.args.ledger.now place desks c.give.new.desk (c.give.ensures.drawer ∙
          ap (λ (x : DrawerView). Some x) c.split-kept.ensures.1) c.loop-place.invariant.drawers;
      room = λ size roomy. roomy_set size desks place (get_or desks place d) c.give.new.desk here c.give.ensures.kept (c.loop-place.invariant.room size roomy);
    }

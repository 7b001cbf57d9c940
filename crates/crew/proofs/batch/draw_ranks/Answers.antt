use Rattle.std.proofs.Common.{◌≡◌, ◌+◌, rules, arith}
use Rattle.crew.proofs.Batches.{drawn_long, drawn_more}
use Rattle.crew.proofs.Events.{draws_until, goes_once}
use Rattle.crew.specs.declared.end.End.TheVariants.{Drained}
use Rattle.crew.proofs.batch.draw_ranks.Goals as goal

pub returns-in-Err : goal.returns-in-Err
returns-in-Err g c =
    let may = g.G.Gate.may_answer c.args.worker.now.gate.now c.args.worker.now.shared.now.layer.number c.args.worker.now.number in
    let first = c.args.drawer.now.hand in let mid = c.loop-place.drawer.hand in let later = c.draw.new.drawer.hand in
    let layer = c.args.worker.now.shared.now.layer in let place = c.loop-place.place in let is = c.in-Err.ensures in
    let undrained : ¬ (c.in-Err.other ≡ Drained) = search rules in record {
      drawn = tt;
      all = tt;
      goes_on = tt;
      ends = is.ends;
      gate =
          draws_until may first mid later place c.args.nth.now c.loop-place.nth c.draw.new.nth c.in-Err.other undrained
          (drawn_long layer first mid place c.loop-place.ranks c.loop-place.invariant.drawn) c.loop-place.invariant.on is.gate;
      place = is.place;
    }

pub loop-place-preserved : goal.loop-place-preserved
loop-place-preserved g c =
    let may = g.G.Gate.may_answer c.args.worker.now.gate.now c.args.worker.now.shared.now.layer.number c.args.worker.now.number in
    let first = c.args.drawer.now.hand in let mid = c.loop-place.drawer.hand in let later = c.draw.new.drawer.hand in
    let place = c.loop-place.place in let is = c.in-Ok.ensures in record {
      drawn = drawn_more c.args.worker.now.shared.now.layer first mid later place c.in-Ok.rank c.loop-place.ranks c.loop-place.invariant.drawn
          (omega (arith, c.loop-place-test.true, c.loop-place.auto.ranks)) is.within is.drawn;
      on = goes_once may c.args.nth.now place (place + 1) c.loop-place.nth c.draw.new.nth (omega arith) c.loop-place.invariant.on is.goes_on;
      at = is.place;
    }

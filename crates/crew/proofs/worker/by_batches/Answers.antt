use Rattle.std.proofs.Common.{◌*◌, length, take, ap, subst, arith}
use Rattle.std.proofs.lemmas.List.{length-take-le}
use Rattle.crew.proofs.Batches.{batch_long}
use Rattle.crew.proofs.Events.{asks_drained, asks_drawing, asks_handing, has_drawn, has_handed}
use Rattle.crew.specs.inside.Events.{HasLeft}
use Rattle.crew.proofs.worker.by_batches.Goals as goal

pub loop-init : goal.loop-init
loop-init g c = (tt, tt, omega (arith, c.requires.some), c.requires.first, c.requires.ready, λ hand left. left)

pub returns-then-filled-eq0-clause-ends : goal.returns-then-filled-eq0-clause-ends
returns-then-filled-eq0-clause-ends g c = record { may = tt; left = c.in-Ok.ensures.none c.if-filled-eq0.true; answered = tt }

pub returns-in-Err-clause-ends : goal.returns-in-Err-clause-ends
returns-in-Err-clause-ends g c = c.in-Err.ensures.ends c.loop.drawer.hand

pub returns-in-Err-clause-gate : goal.returns-in-Err-clause-gate
returns-in-Err-clause-gate g c = λ hand left.
    let may = g.G.Gate.may_answer c.args.worker.now.gate.now c.args.worker.now.shared.now.layer.number c.args.worker.now.number in
    let books = c.args.worker.now.shared.now.books in let filled = c.loop.filled in let batch = take filled c.loop.parcels in
    asks_handing may books filled (books * length batch) c.loop.nth c.hand_batch.new.nth hand c.loop.drawer.hand c.in-Err.end
    (ap (λ n. books * n) (length-take-le filled c.loop.parcels c.loop.invariant.2)) (c.loop.invariant.5 hand left) c.in-Err.ensures.gate

pub returns-in-Err-draw_batch-clause-gate : goal.returns-in-Err-draw_batch-clause-gate
returns-in-Err-draw_batch-clause-gate g c = λ hand left.
    let may = g.G.Gate.may_answer c.args.worker.now.gate.now c.args.worker.now.shared.now.layer.number c.args.worker.now.number in
    let books = c.args.worker.now.shared.now.books in let filled = c.loop.filled in let batch = take filled c.loop.parcels in
    let handed = has_handed may books filled (books * length batch) c.loop.nth c.hand_batch.new.nth hand c.loop.drawer.hand
    (ap (λ n. books * n) (length-take-le filled c.loop.parcels c.loop.invariant.2)) (c.loop.invariant.5 hand left) c.in_default.ensures.goes_on in
    asks_drawing may books c.hand_batch.new.nth c.draw_batch.new.nth hand c.loop.drawer.hand c.draw_batch.new.drawer.hand c.in-Err-draw_batch.end handed
    c.in-Err-draw_batch.ensures.gate

pub returns-then-filled-eq0-clause-gate : goal.returns-then-filled-eq0-clause-gate
returns-then-filled-eq0-clause-gate g c = λ hand left.
    let may = g.G.Gate.may_answer c.args.worker.now.gate.now c.args.worker.now.shared.now.layer.number c.args.worker.now.number in
    let books = c.args.worker.now.shared.now.books in let filled = c.loop.filled in let batch = take filled c.loop.parcels in let is = c.in-Ok.ensures in
    let later = c.draw_batch.new.drawer.hand in let count = c.in-Ok.count in
    let handed = has_handed may books filled (books * length batch) c.loop.nth c.hand_batch.new.nth hand c.loop.drawer.hand
    (ap (λ n. books * n) (length-take-le filled c.loop.parcels c.loop.invariant.2)) (c.loop.invariant.5 hand left) c.in_default.ensures.goes_on in
    let drawn = has_drawn may books count c.hand_batch.new.nth c.draw_batch.new.nth hand c.loop.drawer.hand later
    (batch_long c.args.worker.now.shared.now.layer c.loop.drawer.hand later count c.draw_batch.new.parcels is.fits is.batch) handed is.goes_on in
    asks_drained may books c.draw_batch.new.nth hand later (subst (λ n. HasLeft may books n hand later c.draw_batch.new.nth) c.if-filled-eq0.true drawn)

pub loop-preserved : goal.loop-preserved
loop-preserved g c =
    let may = g.G.Gate.may_answer c.args.worker.now.gate.now c.args.worker.now.shared.now.layer.number c.args.worker.now.number in
    let books = c.args.worker.now.shared.now.books in let filled = c.loop.filled in let batch = take filled c.loop.parcels in let is = c.in-Ok.ensures in
    let later = c.draw_batch.new.drawer.hand in let count = c.in-Ok.count in (
      tt,
      tt,
      is.fits,
      is.batch.of,
      is.ready,
      λ hand left. (let handed = has_handed may books filled (books * length batch) c.loop.nth c.hand_batch.new.nth hand c.loop.drawer.hand
          (ap (λ n. books * n) (length-take-le filled c.loop.parcels c.loop.invariant.2)) (c.loop.invariant.5 hand left) c.in_default.ensures.goes_on in
          has_drawn may books count c.hand_batch.new.nth c.draw_batch.new.nth hand c.loop.drawer.hand later
          (batch_long c.args.worker.now.shared.now.layer c.loop.drawer.hand later count c.draw_batch.new.parcels is.fits is.batch) handed is.goes_on),
    )

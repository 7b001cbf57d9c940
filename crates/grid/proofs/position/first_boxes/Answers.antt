use Rattle.std.proofs.Common.{length, lit<, sym, ap, ◌∙◌, arith}
use Rattle.grid.specs.Board.{box_cell}
use Rattle.grid.specs.Lawful.{box_count}
use Rattle.grid.proofs.lemmas.Places.{places_more_yes, places_more_no, places_room}
use Rattle.grid.proofs.position.first_boxes.Goals as goal
use Rattle.grid.proofs.position.first_boxes.Goals.{then-has_box, else-has_box}

pub push-requires : goal.push-requires
push-requires c =
    let cells = c.cells-cells.result.now in
    let room = places_room box_cell cells c.loop-i.i _ c.loop-i-test.true (sym c.has_box.ensures ∙ c.if-has_box.true) in
    let held = ap length c.loop-i.invariant in
    let all = ap (λ xs. box_count (record { cols = c.args.level.now.cols; cells = xs })) c.cells-cells.ensures.value in
    (lit< tt, omega (arith, room, held, all, c.requires))

pub loop-i-preserved : goal.loop-i-preserved
loop-i-preserved c =
    let cells = c.cells-cells.result.now in
    elim c.if-has_box.branch [
      | then-has_box w ↦ let e = places_more_yes box_cell cells c.loop-i.i _ c.loop-i-test.true (sym c.has_box.ensures ∙ w.if-has_box.true) in
          let i = c.loop-i.invariant in cc (w.push.ensures.items)
      | else-has_box w ↦ let e = places_more_no box_cell cells c.loop-i.i _ c.loop-i-test.true (sym c.has_box.ensures ∙ w.if-has_box.false) in
          let i = c.loop-i.invariant in cc
    ]

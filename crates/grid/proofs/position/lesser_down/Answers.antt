use Rattle.std.proofs.Common.{◌+◌, ◌∙◌, arith}
use Rattle.std.proofs.lemmas.List.{get_or_read, length-set}
use Rattle.grid.proofs.Settle.{moved_up}
use Rattle.grid.proofs.position.lesser_down.Goals as goal

pub loop-hole-preserved : goal.loop-hole-preserved
loop-hole-preserved c =
    let xs = c.loop-hole.squares in
    let h = c.loop-hole.hole in
    let y = c.index-squares-hole-in-loop-hole.result in
    let inside = c.loop-hole-test.true in
    let read = get_or_read xs (h + 1) y inside c.index-squares-hole-in-loop-hole.is 0 in
    record {
      inside = omega (arith, length-set xs h y, inside);
      others = moved_up xs h y inside read ∙ c.loop-hole.invariant.others;
    }

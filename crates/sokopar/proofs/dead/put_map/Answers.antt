-- One row more is written, and it is the next of those that were left.
use Rattle.std.proofs.Common.{rules, ◌≡◌, ◌∙◌, ◌++◌, min, length, take, drop}
use Rattle.sokopar.specs.DeadMap.{marked_row}
use Rattle.sokopar.proofs.Maps.{map_goes_on}
use Rattle.sokopar.proofs.dead.put_map.Goals as goal

pub loop-preserved : goal.loop-preserved
loop-preserved c =
    let rest = c.loop.rest.now in
    let row : c.split_at.result.0.now ≡ take (min c.args.cols (length rest)) rest = search rules in
    let later : c.split_at.result.1.now ≡ drop (min c.args.cols (length rest)) rest = search rules in
    let written : c.put_row.new.text ≡ c.loop.text ++ marked_row c.split_at.result.0.now = search rules in
    map_goes_on c.args.rows c.loop.counter c.args.cols rest _ _ c.loop.text _ c.loop-test.true row later written ∙ c.loop.invariant

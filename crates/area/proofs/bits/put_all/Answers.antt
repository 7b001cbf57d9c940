use Rattle.std.proofs.Common.{rules, arith}
use Rattle.std.proofs.lemmas.List.{get_or_read}
use Rattle.grid.proofs.lemmas.Squares.{contains-get_or}
use Rattle.area.proofs.lemmas.WordSets.{none_set}
use Rattle.area.proofs.bits.put_all.Goals as goal

pub loop-square-init : goal.loop-square-init
loop-square-init c = λ q. none_set c.fill.new.self _ q (c.fill.ensures.after (search rules))

pub put-requires : goal.put-requires
put-requires c =
    let at = get_or_read c.args.squares.now c.loop-square.square-index c.square-item.result c.loop-square-test.true c.square-item.is 0 in
    let m = contains-get_or c.args.squares.now c.loop-square.square-index 0 c.loop-square-test.true in
    omega (arith, at, c.requires _ m)

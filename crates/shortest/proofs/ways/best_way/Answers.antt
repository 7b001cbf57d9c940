use Rattle.std.proofs.Common.{◌∙◌, length, sym, ap, subst, arith}
use Rattle.grid.specs.Board.{Board}
use Rattle.grid.specs.States.{FitsLevel}
use Rattle.area.specs.Pushes.{ArePushes}
use Rattle.area.specs.WalkLengths.{AreWalkLengths}
use Rattle.shortest.specs.inside.Resting.{IsWay, moves_of}
use Rattle.prices.proofs.lemmas.Lists.{read_element}
use Rattle.shortest.proofs.Onward.{best_is, least_more, onward_fits, ways_more}
use Rattle.shortest.proofs.ways.best_way.Goals as goal

pub possible_pushes-requires-clause-fits : goal.possible_pushes-requires-clause-fits
possible_pushes-requires-clause-fits c =
    subst (λ (b : Board). FitsLevel b c.args.from.now.state) (sym c.level.ensures)
    (onward_fits c.args.states.now c.args.rests.now c.args.from.now.pushes c.args.from.now.state c.tell.ensures
    c.requires.onward)

pub possible_pushes-requires-clause-room : goal.possible_pushes-requires-clause-room
possible_pushes-requires-clause-room c = c.requires.size ∙ sym (ap (λ (b : Board). length b.cells) c.level.ensures)

pub measure-requires-clause-fits : goal.measure-requires-clause-fits
measure-requires-clause-fits c =
    subst (λ (b : Board). FitsLevel b c.args.from.now.state) (sym c.level-2.ensures)
    (onward_fits c.args.states.now c.args.rests.now c.args.from.now.pushes c.args.from.now.state c.tell.ensures
    c.requires.onward)

pub way_by-way-requires-clause-measured : goal.way_by-way-requires-clause-measured
way_by-way-requires-clause-measured c =
    subst (λ (b : Board). AreWalkLengths b c.args.from.now.state c.measure.new.self) c.level-2.ensures c.measure.ensures.lengths

pub returns-clause-rest : goal.returns-clause-rest
returns-clause-rest c = λ m sum.
    let v = c.args.states.now in
    let s = c.args.from.now.state in
    let k = c.args.from.now.pushes in
    let all = subst (λ (b : Board). ArePushes b s c.possible_pushes.new.pushes.items) c.level.ensures c.possible_pushes.ensures.pushes in
    best_is v c.args.rests.now k s c.tell.ensures c.requires.onward m c.possible_pushes.new.pushes.items c.loop-index.index
    c.loop-index.best sum all (omega (arith, c.len-index-end.ensures.value, c.loop-index-test.false))
    c.loop-index.invariant.ways (c.loop-index.invariant.least m sum)

pub way_by-way-requires-clause-possible : goal.way_by-way-requires-clause-possible
way_by-way-requires-clause-possible c =
    let s = c.args.from.now.state in
    let items = c.possible_pushes.new.pushes.items in
    let all = subst (λ (b : Board). ArePushes b s items) c.level.ensures c.possible_pushes.ensures.pushes in
    let same = ap length c.deref.ensures.0 in
    let long = c.len-index-end.ensures.value in
    all.each c.loop-index.index c.index-deref-index.result
    (read_element c.deref.result.now items c.loop-index.index c.index-deref-index.result c.deref.ensures.0
    (omega (arith, same, long, c.loop-index-test.true)) c.index-deref-index.is)

pub loop-index-preserved : goal.loop-index-preserved
loop-index-preserved c =
    let v = c.args.states.now in
    let s = c.args.from.now.state in
    let k = c.args.from.now.pushes in
    let was = c.loop-index.invariant in
    let items = c.possible_pushes.new.pushes.items in
    let p = c.index-deref-index.result in
    let same = ap length c.deref.ensures.0 in
    let long = c.len-index-end.ensures.value in
    let here = read_element c.deref.result.now items c.loop-index.index p c.deref.ensures.0
    (omega (arith, same, long, c.loop-index-test.true)) c.index-deref-index.is in
    record {
      size = was.size;
      ways = ways_more (λ way. IsWay v.board v.entries c.args.rests.now k s way) c.loop-index.best c.way_by-way.result
          c.lesser-best.result c.lesser-best.ensures.one was.ways c.way_by-way.ensures.way;
      least = λ m sum. least_more v.board m s items c.loop-index.index p
          (moves_of c.loop-index.best) (moves_of c.way_by-way.result) (moves_of c.lesser-best.result) here
          c.lesser-best.ensures.first c.lesser-best.ensures.second (was.least m sum) (c.way_by-way.ensures.least m sum);
    }

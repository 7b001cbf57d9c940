use Rattle.std.proofs.Common.{◌≡◌, ◌+◌, ◌<◌, length, rules, sym, subst, arith}
use Rattle.grid.specs.Board.{Board}
use Rattle.shortest.proofs.Onward.{box_inside, least_none, least_some, onward_fits, rest_small, rest_there, walked_behind}
use Rattle.shortest.proofs.ways.way_by.Goals as goal

pub returns-in_default-clause-least : goal.returns-in_default-clause-least
returns-in_default-clause-least c = λ m sum.
    let v = c.args.states.now in
    let s = c.args.from.now.state in
    least_none v.board m s c.args.push (onward_fits v c.args.rests.now c.args.from.now.pushes s c.tell.ensures c.requires.onward).scene
    (c.in_default.ensures.none m sum)

pub next-behind-requires : goal.next-behind-requires
next-behind-requires c =
    let v = c.args.states.now in
    let s = c.args.from.now.state in
    subst (λ (b : Board). c.args.push.square < length b.cells) (sym c.level-level.ensures)
    (box_inside v.board s c.args.push (onward_fits v c.args.rests.now c.args.from.now.pushes s c.tell.ensures c.requires.onward).scene c.requires.possible)

pub overflow_add-result-2 : goal.overflow_add-result-2
overflow_add-result-2 c =
    let v = c.args.states.now in
    let s = c.args.from.now.state in
    let small = rest_small v c.args.rests.now c.args.from.now.pushes s c.tell.ensures c.requires.onward
    c.args.push c.in-Some.place c.in-Some.rest c.in-Some.ensures.leads in
    let walk = c.from.ensures in
    let short : c.length_to-walk.result < 4294967296 = search rules in
    omega (arith, small, walk, short)

pub returns-clause-least : goal.returns-clause-least
returns-clause-least c = λ m sum.
    let v = c.args.states.now in
    let s = c.args.from.now.state in
    let p = c.args.push in
    let scene = (onward_fits v c.args.rests.now c.args.from.now.pushes s c.tell.ensures c.requires.onward).scene in
    let length = walked_behind v.board c.level-level.result.now s p c.args.walks.now c.opposite.result c.next-behind.result
    c.length_to-walk.result c.requires.measured c.requires.possible c.level-level.ensures c.opposite.ensures c.next-behind.ensures
    c.length_to-walk.ensures in
    let walk = c.from.ensures in
    least_some v.board m s p c.length_to-walk.result c.in-Some.rest _ scene length
    (rest_there v c.args.rests.now c.args.from.now.pushes s c.tell.ensures c.requires.onward p c.in-Some.place c.in-Some.rest m sum c.in-Some.ensures.leads)
    (let e : c.from.result + 1 + c.in-Some.rest ≡ c.length_to-walk.result + 1 + c.in-Some.rest = omega (arith, walk) in e)

pub returns-clause-way : goal.returns-clause-way
returns-clause-way c =
    let v = c.args.states.now in
    let s = c.args.from.now.state in
    let p = c.args.push in
    let length = walked_behind v.board c.level-level.result.now s p c.args.walks.now c.opposite.result c.next-behind.result
    c.length_to-walk.result c.requires.measured c.requires.possible c.level-level.ensures c.opposite.ensures c.next-behind.ensures
    c.length_to-walk.ensures in
    let walk = c.from.ensures in
    record {
      walk = c.length_to-walk.result;
      rest = c.in-Some.rest;
      possible = c.requires.possible;
      leads = c.in-Some.ensures.leads;
      walked = length;
      short = search rules;
      moves = omega (arith, walk);
    }

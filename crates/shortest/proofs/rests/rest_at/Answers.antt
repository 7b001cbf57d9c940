use Rattle.std.proofs.Common.{◌∙◌, suc, Option, Some, None, sym, subst, arith}
use Rattle.std.proofs.lemmas.Bool.{false≢true}
use Rattle.grid.specs.Board.{Board, IsSolved}
use Rattle.shortest.specs.declared.ways.Way.{Way}
use Rattle.shortest.specs.inside.Resting.{IsRestOf, moves_of}
use Rattle.shortest.proofs.Onward.{rest_last, rest_onward, rest_same, rest_solved, rest_unsolved}
use Rattle.shortest.proofs.rests.rest_at.Goals as goal

pub returns-in-Some-clause-rest : goal.returns-in-Some-clause-rest
returns-in-Some-clause-rest c = λ k m s here sum.
    let v = c.args.states.now in
    let from = c.at-from.result in
    let top = c.most.ensures in
    rest_same v.board v.entries v.most c.args.place from.pushes k from.state s (Some c.in-Some.way.moves) c.at-from.ensures here
    (rest_onward v.board v.most from.pushes from.state (Some c.in-Some.way.moves) (omega (arith, top, c.if-from-most.true))
    (λ n t. subst (λ (o : Option Way). IsRestOf v.board (suc n) from.state (moves_of o)) c.in-Some.is (c.best_way-best.ensures.rest n t))) m sum

pub returns-in-None-clause-rest : goal.returns-in-None-clause-rest
returns-in-None-clause-rest c = λ k m s here sum.
    let v = c.args.states.now in
    let from = c.at-from.result in
    let top = c.most.ensures in
    rest_same v.board v.entries v.most c.args.place from.pushes k from.state s None c.at-from.ensures here
    (rest_onward v.board v.most from.pushes from.state None (omega (arith, top, c.if-from-most.true))
    (λ n t. subst (λ (o : Option Way). IsRestOf v.board (suc n) from.state (moves_of o)) c.in-None.is (c.best_way-best.ensures.rest n t))) m sum

pub returns-then-are_on_goals-clause-rest : goal.returns-then-are_on_goals-clause-rest
returns-then-are_on_goals-clause-rest c = λ k m s here sum.
    let v = c.args.states.now in
    let from = c.at-from.result in
    let top = c.most.ensures in
    let solved = subst (λ (b : Board). IsSolved b from.state) c.level.ensures
    ((c.are_on_goals.ensures from.state c.boxes.ensures.squares).0 c.if-are_on_goals.true) in
    rest_same v.board v.entries v.most c.args.place from.pushes k from.state s (Some 0) c.at-from.ensures here
    (rest_last v.board v.most from.pushes from.state (Some 0) (omega (arith, top, c.if-from-most.false)) (rest_solved v.board from.state solved)) m sum

pub returns-clause-rest : goal.returns-clause-rest
returns-clause-rest c = λ k m s here sum.
    let v = c.args.states.now in
    let from = c.at-from.result in
    let top = c.most.ensures in
    rest_same v.board v.entries v.most c.args.place from.pushes k from.state s None c.at-from.ensures here
    (rest_last v.board v.most from.pushes from.state None (omega (arith, top, c.if-from-most.false))
    (rest_unsolved v.board from.state (λ solved. false≢true (sym c.if-are_on_goals.false ∙
    (c.are_on_goals.ensures from.state c.boxes.ensures.squares).1 (subst (λ (b : Board). IsSolved b from.state) (sym c.level.ensures) solved))))) m sum

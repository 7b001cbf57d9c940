use Rattle.std.proofs.Common.{◌≡◌, ◌∙◌, [], Some, get_or, sym, subst, arith}
use Rattle.std.proofs.lemmas.Bool.{false≢true}
use Rattle.std.proofs.lemmas.Option.{slice_get-get_or}
use Rattle.std.specs.Prelude.{slice_get}
use Rattle.grid.specs.Board.{Board, Scene, IsSolved}
use Rattle.solo.proofs.Solved.{unsolved_more, unsolved_all}
use Rattle.solo.proofs.goals.first_solved.Goals as goal

pub boxes_at-requires : goal.boxes_at-requires
boxes_at-requires c = omega (arith, c.len-rank-end.ensures, c.loop-rank-test.true)

pub returns-then-are_on_goals : goal.returns-then-are_on_goals
returns-then-are_on_goals c =
    let places = c.args.layer.now.places in let rank = c.loop-rank.rank in
    let none : Scene = record { boxes = []; player = 0 } in
    let n : Scene = get_or places rank none in
    let at : slice_get places rank ≡ Some n = slice_get-get_or places rank none (omega (arith, c.len-rank-end.ensures, c.loop-rank-test.true)) in
    record {
      place = n;
      there = at;
      solved = subst (λ (b : Board). IsSolved b n) c.level.ensures ((c.are_on_goals.ensures n (c.boxes_at.ensures n at)).0 c.if-are_on_goals.true);
      first = c.loop-rank.invariant;
    }

pub loop-rank-preserved : goal.loop-rank-preserved
loop-rank-preserved c = unsolved_more c.args.layer.now.level.board c.args.layer.now.places c.loop-rank.rank c.loop-rank.invariant (λ n at solved.
    let here : IsSolved c.level.result.now n = subst (λ (b : Board). IsSolved b n) (sym c.level.ensures) solved in
    false≢true (sym c.if-are_on_goals.false ∙ (c.are_on_goals.ensures n (c.boxes_at.ensures n at)).1 here))

pub returns : goal.returns
returns c = unsolved_all c.args.layer.now.level.board c.args.layer.now.places c.loop-rank.rank c.loop-rank.invariant (let e = c.len-rank-end.ensures in
    let f = c.loop-rank-test.false in omega arith)

use Rattle.std.proofs.Common.{List, sym, subst}
use Rattle.grid.specs.declared.square.Push.{Push}
use Rattle.grid.specs.Board.{Board}
use Rattle.successors.specs.LeastPlays.{ArePlayed, WritesLeastPlay}
use Rattle.shortest.specs.inside.Resting.{AreRests}
use Rattle.shortest.proofs.Ends.{best_solution, played_by}
use Rattle.shortest.proofs.reading.moves_with.Goals as goal

pub play_pushes-requires-clause-played : goal.play_pushes-requires-clause-played
play_pushes-requires-clause-played c =
    let board = c.args.states.now.board in
    let (total, first, count, finishes) = c.in_ok-pushes.ensures.pushes in
    subst (λ (b : Board). ArePlayed b c.as_slice-2.result.now) (sym c.level.ensures)
    (subst (ArePlayed board) (sym c.as_slice-2.ensures.value) (played_by board c.in_ok-pushes.pushes.items total finishes))

pub returns : goal.returns
returns c =
    let v = c.args.states.now in
    let rests = c.as_slice.result.now in
    let ps = c.in_ok-pushes.pushes.items in
    let moves = c.in_ok-moves.moves in
    let known : AreRests v.board v.most 0 v.entries rests =
    subst (AreRests v.board v.most 0 v.entries) (sym c.as_slice.ensures.value) c.in_ok-rests.ensures.rests in
    let (total, first, count, finishes) = c.in_ok-pushes.ensures.pushes in
    let (t, writes) = c.in_ok-moves.ensures.least in
    best_solution v rests total ps t moves c.tell.ensures known first count finishes
    (subst (λ (b : Board). WritesLeastPlay b ps t moves) c.level.ensures
    (subst (λ (qs : List Push). WritesLeastPlay c.level.result.now qs t moves) c.as_slice-2.ensures.value writes))

use Rattle.std.proofs.Common.{List, sym, subst}
use Rattle.grid.specs.declared.square.Push.{Push}
use Rattle.successors.specs.LeastPlays.{ArePlayed, WritesLeastPlay}
use Rattle.prices.proofs.lemmas.Lists.{in_range}
use Rattle.prover.proofs.ReadingBack.{solution_by}
use Rattle.prover.proofs.retracing.solution_at.Goals as goal

pub play_pushes-played-requires-clause-played : goal.play_pushes-played-requires-clause-played
play_pushes-played-requires-clause-played c =
    let board = c.args.level.now in
    let (x, at) = in_range c.args.frontier.now.entries c.args.place c.requires.place in
    let (leading, few) = c.in_ok-leading.ensures board x c.requires.traced at in
    subst (ArePlayed board) (sym c.as_slice.ensures.value) (leading.0, leading.1, leading.2)

pub returns : goal.returns
returns c = λ cap limit least.
    let board = c.args.level.now in
    let all = c.args.frontier.now.entries in
    let ps = c.in_ok-leading.leading.items in
    let moves = c.in_ok-moves.moves in
    let (x, at) = in_range all c.args.place c.requires.place in
    let (leading, few) = c.in_ok-leading.ensures board x c.requires.traced at in
    let (t, writes) = c.in_ok-moves.ensures.least in
    solution_by board cap limit all c.args.place x ps t moves c.pushes-pushes.result (c.pushes-pushes.ensures x at) at leading few
    (subst (λ (qs : List Push). WritesLeastPlay board qs t moves) c.as_slice.ensures.value writes) least

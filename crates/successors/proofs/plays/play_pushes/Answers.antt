use Rattle.std.proofs.Common.{[], List, length, refl, sym, subst, ◌∙◌}
use Rattle.std.proofs.lemmas.Option.{slice_get_read}
use Rattle.grid.specs.declared.moves.Letter.{Letter}
use Rattle.grid.specs.Board.{Scene}
use Rattle.successors.specs.LeastPlays.{WritesLeastPlay}
use Rattle.successors.proofs.LeastPlays.{none_written, possible_at, more_at}
use Rattle.successors.proofs.plays.play_pushes.Goals as goal

pub loop-push-init : goal.loop-push-init
loop-push-init c = (
  subst (λ (xs : List Letter). WritesLeastPlay c.args.level.now [] c.in_ok-state.state xs) (sym c.new-moves.ensures)
      (subst (λ (s : Scene). WritesLeastPlay c.args.level.now [] s []) (sym c.in_ok-state.ensures.start) (none_written c.args.level.now)),
  c.in_ok-state.ensures.scene,
  refl,
)

pub make_push-requires-clause-possible : goal.make_push-requires-clause-possible
make_push-requires-clause-possible c =
    let here = slice_get_read c.args.pushes.now (length c.args.pushes.now) c.loop-push.push-index c.push-item.result refl c.loop-push-test.true
    c.push-item.is in
    possible_at c.args.level.now c.args.pushes.now c.loop-push.push-index c.push-item.result here c.requires.played c.loop-push.state c.loop-push.moves
    c.loop-push.invariant.0 c.loop-push.invariant.1

pub loop-push-preserved : goal.loop-push-preserved
loop-push-preserved c =
    let here = slice_get_read c.args.pushes.now (length c.args.pushes.now) c.loop-push.push-index c.push-item.result refl
    c.loop-push-test.true c.push-item.is in
    let more = more_at c.args.level.now c.args.pushes.now c.loop-push.push-index c.push-item.result here c.requires.played c.loop-push.state
    c.make_push.new.state c.loop-push.moves c.make_push.new.moves c.loop-push.invariant.0 c.loop-push.invariant.1 c.in_ok-make_push.ensures.state
    c.in_ok-make_push.ensures.written in (more.0, more.1, c.make_push.ensures.size ∙ c.loop-push.invariant.2)

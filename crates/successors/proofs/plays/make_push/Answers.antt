use Rattle.std.proofs.Common.{◌≡◌, ℕ, sym, ap, subst, ◌∙◌}
use Rattle.std.proofs.lemmas.Result.{on_ok_weaker}
use Rattle.grid.specs.declared.dir.Dir.{Dir}
use Rattle.grid.specs.Board.{IsFree, next}
use Rattle.area.specs.Area.{at}
use Rattle.successors.specs.Expansion.{after_push}
use Rattle.successors.proofs.LeastPlays.{behind, box_inside, behind_free, pushed_on}
use Rattle.successors.proofs.plays.make_push.Goals as goal

pub next-behind-requires : goal.next-behind-requires
next-behind-requires c = box_inside c.args.level.now c.args.state.now c.requires.scene c.args.push c.requires.possible

pub set_player-requires-clause-free : goal.set_player-requires-clause-free
set_player-requires-clause-free c =
    let place : c.next-behind.result ≡ behind c.args.level.now c.args.push = c.next-behind.ensures
    ∙ ap (λ (d : Dir). next c.args.level.now c.args.push.square d) c.opposite.ensures in
    subst (λ (q : ℕ). IsFree c.args.level.now c.args.state.now.boxes q) (sym place)
    (behind_free c.args.level.now c.args.state.now c.requires.scene c.args.push c.requires.possible)

pub returns-clause-state : goal.returns-clause-state
returns-clause-state c =
    let place : c.next-behind.result ≡ behind c.args.level.now c.args.push = c.next-behind.ensures ∙ ap
    (λ (d : Dir). next c.args.level.now c.args.push.square d) c.opposite.ensures in
    let after : c.step.new.self ≡ after_push c.args.level.now c.args.state.now c.args.push =
    pushed_on c.args.level.now c.args.state.now c.requires.scene c.args.push c.requires.possible c.set_player.new.self c.step.new.self c.step.result
    (c.set_player.ensures.state ∙ ap (λ (q : ℕ). at c.args.state.now q) place) c.step.ensures.steps in
    on_ok_weaker c.push.result (λ grown. after) c.push.ensures.ok

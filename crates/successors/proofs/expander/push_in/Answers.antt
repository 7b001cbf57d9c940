use Rattle.std.proofs.Common.{◌↔◌, IsTrue, length, sym, ap, subst, ◌∙◌}
use Rattle.std.proofs.lemmas.Bool.{false≢true}
use Rattle.grid.specs.Board.{Board}
use Rattle.grid.specs.States.{FitsLevel}
use Rattle.area.specs.After.{IsAreaOf}
use Rattle.area.specs.Area.{IsNorm}
use Rattle.doom.specs.Deadlocks.{Undoomed}
use Rattle.doom.specs.inside.Dangers.{AreDangers}
use Rattle.successors.specs.Expansion.{after_push}
use Rattle.successors.proofs.lemmas.Successors.{come_by, successor_is}
use Rattle.successors.proofs.expander.push_in.Goals as goal

pub make_after-made-requires-clause-ready : goal.make_after-made-requires-clause-ready
make_after-made-requires-clause-ready c =
    let n = c.args.position.now in
    let reach = c.args.scratch.now in
    let same = sym c.level.ensures in
    record {
      fits = subst (λ (b : Board). FitsLevel b n) same c.requires.fits;
      dead_of_level = c.dead.ensures ∙ same;
      room = c.requires.room ∙ ap (λ (b : Board). length b.cells) same;
      flooded = subst (λ (b : Board). IsAreaOf b n reach.reached) same c.requires.flooded;
      boxes = c.requires.boxes;
      undoomed = λ yes. absurd (false≢true yes);
      dangers = subst (λ (b : Board). AreDangers b reach.boxes c.args.dangers.now.words.items) same c.requires.dangers;
    }

pub returns-then-not-made-clause-successor : goal.returns-then-not-made-clause-successor
returns-then-not-made-clause-successor c = λ undoomed m come.
    let board = c.args.problem.now.board in
    let n = c.args.position.now in
    let p = c.args.push in
    let told = subst (λ (b : Board). Undoomed b n → IsTrue c.make_after-made.result ↔ Undoomed b (after_push b n p)) c.level.ensures
    c.make_after-made.ensures.undoomed in
    false≢true (sym c.if-not-made.true ∙ (told undoomed).1 (come_by board n c.requires.fits.scene p m come).safe)

pub returns-clause-successor : goal.returns-clause-successor
returns-clause-successor c = λ undoomed.
    let board = c.args.problem.now.board in
    let n = c.args.position.now in
    let p = c.args.push in
    let after = c.make_after-made.new.moved in
    let told = subst (λ (b : Board). Undoomed b n → IsTrue c.make_after-made.result ↔ Undoomed b (after_push b n p)) c.level.ensures
    c.make_after-made.ensures.undoomed in
    let made = subst (λ (b : Board). IsNorm b (after_push b n p) after × FitsLevel b after) c.level.ensures
    (c.make_after-made.ensures.made c.if-not-made.false) in
    successor_is board n c.requires.fits.scene p undoomed c.requires.possible ((told undoomed).0 c.if-not-made.false) after made.0

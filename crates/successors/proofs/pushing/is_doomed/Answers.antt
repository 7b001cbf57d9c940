use Rattle.std.proofs.Common.{◌≡◌, ◌↔◌, ℕ, true, IsTrue, refl, sym, ap, subst}
use Rattle.std.proofs.lemmas.Bool.{false≢true}
use Rattle.grid.specs.declared.square.Push.{Push}
use Rattle.grid.specs.Board.{Board, Scene, next}
use Rattle.grid.specs.States.{FitsLevel}
use Rattle.grid.specs.Squares.{Squares, contains, insert, remove}
use Rattle.grid.proofs.lemmas.Squares.{contains-insert_here}
use Rattle.grid.proofs.lemmas.Steps.{inside_grid}
use Rattle.area.specs.Pushes.{CanPush}
use Rattle.doom.specs.Deadlocks.{Doomed, IsDead}
use Rattle.doom.specs.Loose.{IsLoose}
use Rattle.doom.proofs.lemmas.Loose.{loose_dooms_nothing}
use Rattle.doom.proofs.lemmas.Soundness.{doomed_are_lost}
use Rattle.successors.specs.Expansion.{after_push}
use Rattle.successors.proofs.lemmas.Successors.{after_fits, after_scene}
use Rattle.successors.proofs.pushing.is_doomed.Goals as goal

pub returns-then-spare-clause-same : goal.returns-then-spare-clause-same
returns-then-spare-clause-same c = λ undoomed.
    let board : Board = c.args.parent.now.level.now in
    let n : Scene = c.args.parent.now.position.now in
    let ahead : c.args.ahead ≡ next board c.args.push.square c.args.push.dir = c.requires.ahead in
    let loose = subst (λ (q : ℕ). IsLoose board (insert (remove c.args.scratch.now.boxes c.args.push.square) q) q) ahead
    (c.if-spare.ensures board c.args.scratch.now.boxes c.args.push.square c.requires.ready.dangers refl ahead
    (inside_grid board c.args.push.square (c.requires.ready.fits.scene.boxes c.args.push.square c.requires.possible.there))
    (subst (λ (q : ℕ). ¬ (IsDead board q)) (sym ahead) c.requires.live)) in
    let safe = loose_dooms_nothing board n.boxes c.args.push.square (next board c.args.push.square c.args.push.dir) undoomed
    (subst (λ (boxes : Squares). IsLoose board (insert (remove boxes c.args.push.square) (next board c.args.push.square c.args.push.dir))
    (next board c.args.push.square c.args.push.dir)) c.requires.ready.boxes loose) in
    (λ no. absurd (false≢true no), λ bad. absurd (safe bad))

-- the position after the push fits the level
fits_after : (board : Board) (n moved : Scene) (p : Push) → FitsLevel board n → CanPush board n p → moved ≡ after_push board n p → FitsLevel board moved
fits_after board n moved p fits can same = subst (FitsLevel board) (sym same) (after_fits board n fits.scene p fits can)

pub dooms-requires-clause-fits : goal.dooms-requires-clause-fits
dooms-requires-clause-fits c =
    fits_after c.args.parent.now.level.now c.args.parent.now.position.now c.args.moved.now c.args.push c.requires.ready.fits c.requires.possible c.requires.moved

pub dooms-requires-clause-inside : goal.dooms-requires-clause-inside
dooms-requires-clause-inside c =
    inside_grid c.args.parent.now.level.now c.args.push.square (c.requires.ready.fits.scene.boxes c.args.push.square c.requires.possible.there)

pub returns-then-parent-clause-same : goal.returns-then-parent-clause-same
returns-then-parent-clause-same c = λ undoomed.
    subst (λ (s : Scene). IsTrue c.dooms.result ↔ Doomed c.args.parent.now.level.now s.boxes) c.requires.moved c.dooms.ensures.doomed

pub returns-then-parent-clause-lost : goal.returns-then-parent-clause-lost
returns-then-parent-clause-lost c = λ bad.
    let board : Board = c.args.parent.now.level.now in
    let n : Scene = c.args.parent.now.position.now in
    doomed_are_lost board c.args.moved.now.boxes (c.dooms.ensures.doomed.0 bad) (after_push board n c.args.push)
    (after_scene board n c.requires.ready.fits.scene c.args.push c.requires.possible) (sym (ap (λ (s : Scene). s.boxes) c.requires.moved))

pub doomed_after-requires-clause-fits : goal.doomed_after-requires-clause-fits
doomed_after-requires-clause-fits c =
    fits_after c.args.parent.now.level.now c.args.parent.now.position.now c.args.moved.now c.args.push c.requires.ready.fits c.requires.possible c.requires.moved

pub doomed_after-requires-clause-inside : goal.doomed_after-requires-clause-inside
doomed_after-requires-clause-inside c =
    inside_grid c.args.parent.now.level.now c.args.push.square (c.requires.ready.fits.scene.boxes c.args.push.square c.requires.possible.there)

pub doomed_after-requires-clause-moved : goal.doomed_after-requires-clause-moved
doomed_after-requires-clause-moved c =
    let ahead : ℕ = next c.args.parent.now.level.now c.args.push.square c.args.push.dir in
    subst (λ (s : Scene). contains s.boxes ahead ≡ true) (sym c.requires.moved)
    (contains-insert_here (remove c.args.parent.now.position.now.boxes c.args.push.square) ahead)

pub returns-clause-same : goal.returns-clause-same
returns-clause-same c = λ undoomed.
    let board : Board = c.args.parent.now.level.now in
    let n : Scene = c.args.parent.now.position.now in
    let told = c.doomed_after.ensures.same (n.boxes, ap (λ (s : Scene). s.boxes) c.requires.moved, undoomed) in
    subst (λ (s : Scene). IsTrue c.doomed_after.result ↔ Doomed board s.boxes) c.requires.moved told

pub returns-clause-lost : goal.returns-clause-lost
returns-clause-lost c = λ bad.
    let board : Board = c.args.parent.now.level.now in
    let n : Scene = c.args.parent.now.position.now in
    c.doomed_after.ensures.lost bad (after_push board n c.args.push)
    (after_scene board n c.requires.ready.fits.scene c.args.push c.requires.possible) (sym (ap (λ (s : Scene). s.boxes) c.requires.moved))

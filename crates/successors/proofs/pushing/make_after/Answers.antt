use Rattle.std.proofs.Common.{◌≡◌, ℕ, inl, refl, sym, subst, ◌∙◌}
use Rattle.std.proofs.lemmas.Bool.{false≢true}
use Rattle.grid.specs.Squares.{contains, remove}
use Rattle.grid.specs.Board.{Board, Scene, next}
use Rattle.grid.specs.States.{FitsLevel}
use Rattle.grid.proofs.lemmas.Squares.{contains-insert_here}
use Rattle.grid.proofs.lemmas.Steps.{inside_grid}
use Rattle.area.specs.Area.{IsNorm}
use Rattle.area.specs.Reach.{Reach}
use Rattle.area.specs.After.{IsAreaOf}
use Rattle.doom.specs.Deadlocks.{IsDead}
use Rattle.doom.specs.Lost.{LosesBox}
use Rattle.successors.specs.Expansion.{after_push}
use Rattle.successors.proofs.lemmas.Successors.{after_fits, after_scene}
use Rattle.successors.proofs.pushing.make_after.Goals as goal

pub next-ahead-requires : goal.next-ahead-requires
next-ahead-requires c =
    inside_grid c.args.parent.now.level.now c.args.push.square (c.requires.ready.fits.scene.boxes c.args.push.square c.requires.possible.there)

pub returns-then-is_dead-clause-undoomed : goal.returns-then-is_dead-clause-undoomed
returns-then-is_dead-clause-undoomed c = λ undoomed.
    let board : Board = c.args.parent.now.level.now in
    let ahead : ℕ = next board c.args.push.square c.args.push.dir in
    let dead : IsDead board ahead =
    subst (λ (q : ℕ). IsDead board q) c.next-ahead.ensures
    (subst (λ b. IsDead b c.next-ahead.result) c.requires.ready.dead_of_level (c.is_dead.ensures.dead.0 c.if-is_dead.true)) in (
      λ no. absurd (false≢true no),
      λ safe. absurd (safe (inl (ahead, contains-insert_here (remove c.args.parent.now.position.now.boxes c.args.push.square) ahead, dead))),
    )

pub returns-then-is_dead-clause-lost : goal.returns-then-is_dead-clause-lost
returns-then-is_dead-clause-lost c = λ no.
    let board : Board = c.args.parent.now.level.now in
    let n : Scene = c.args.parent.now.position.now in
    let ahead : ℕ = next board c.args.push.square c.args.push.dir in
    let loses : LosesBox board ahead =
    subst (λ (q : ℕ). LosesBox board q) c.next-ahead.ensures
    (subst (λ b. LosesBox b c.next-ahead.result) c.requires.ready.dead_of_level (c.is_dead.ensures.lost c.if-is_dead.true)) in
    loses (after_push board n c.args.push) (after_scene board n c.requires.ready.fits.scene c.args.push c.requires.possible)
    (contains-insert_here (remove n.boxes c.args.push.square) ahead)

pub push_at-requires-clause-free : goal.push_at-requires-clause-free
push_at-requires-clause-free c =
    let e : contains c.copy_from.new.self.boxes c.next-ahead.result ≡
    contains c.args.parent.now.position.now.boxes (next c.args.parent.now.level.now c.args.push.square c.args.push.dir) = cc in
    e ∙ c.requires.possible.ahead.1

pub is_doomed-doomed-requires-clause-live : goal.is_doomed-doomed-requires-clause-live
is_doomed-doomed-requires-clause-live c = λ dead.
    let board : Board = c.args.parent.now.level.now in
    false≢true (sym c.if-is_dead.false ∙ c.is_dead.ensures.dead.1 (subst (λ b. IsDead b c.next-ahead.result) (sym c.requires.ready.dead_of_level)
    (subst (λ (q : ℕ). IsDead board q) (sym c.next-ahead.ensures) dead)))

pub is_doomed-doomed-requires-clause-moved : goal.is_doomed-doomed-requires-clause-moved
is_doomed-doomed-requires-clause-moved c = cc

pub returns-then-doomed-clause-undoomed : goal.returns-then-doomed-clause-undoomed
returns-then-doomed-clause-undoomed c = λ undoomed.
    (λ no. absurd (false≢true no), λ safe. absurd (safe ((c.is_doomed-doomed.ensures.same undoomed).0 c.if-doomed.true)))

pub returns-then-doomed-clause-lost : goal.returns-then-doomed-clause-lost
returns-then-doomed-clause-lost c = λ no. c.is_doomed-doomed.ensures.lost c.if-doomed.true

pub normalise_after-requires-clause-fits : goal.normalise_after-requires-clause-fits
normalise_after-requires-clause-fits c =
    let moved : c.push_at.new.self ≡ after_push c.args.parent.now.level.now c.args.parent.now.position.now c.args.push = cc in
    subst (FitsLevel c.args.parent.now.level.now) (sym moved)
    (after_fits c.args.parent.now.level.now c.args.parent.now.position.now c.requires.ready.fits.scene c.args.push c.requires.ready.fits c.requires.possible)

pub normalise_after-requires-clause-pushed : goal.normalise_after-requires-clause-pushed
normalise_after-requires-clause-pushed c =
    let moved : c.push_at.new.self ≡ after_push c.args.parent.now.level.now c.args.parent.now.position.now c.args.push = cc in
    record {
      there = c.requires.possible.there;
      behind = c.requires.possible.behind;
      ahead = c.requires.possible.ahead;
      after = moved;
    }

pub normalise_after-requires-clause-flooded : goal.normalise_after-requires-clause-flooded
normalise_after-requires-clause-flooded c =
    subst (λ (s : Reach). IsAreaOf c.args.parent.now.level.now c.args.parent.now.position.now s.reached) (sym c.is_doomed-doomed.ensures.kept) c.requires.ready.flooded

pub returns-clause-made : goal.returns-clause-made
returns-clause-made c = λ done.
    let moved : c.push_at.new.self ≡ after_push c.args.parent.now.level.now c.args.parent.now.position.now c.args.push = cc in
    (subst (λ (s : Scene). IsNorm c.args.parent.now.level.now s c.normalise_after.new.after) moved c.normalise_after.ensures.norm, c.normalise_after.ensures.fits)

pub returns-clause-undoomed : goal.returns-clause-undoomed
returns-clause-undoomed c = λ undoomed.
    (λ done bad. false≢true (sym c.if-doomed.false ∙ (c.is_doomed-doomed.ensures.same undoomed).1 bad), λ safe. refl)

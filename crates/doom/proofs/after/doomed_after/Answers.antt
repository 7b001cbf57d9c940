use Rattle.std.proofs.Common.{rules, Bool, ◌≡◌, ◌↔◌, ◌⊎◌, ℕ, true, IsTrue, sym, ap, subst, ◌∙◌}
use Rattle.grid.specs.Board.{next}
use Rattle.grid.specs.Squares.{Squares, contains}
use Rattle.doom.specs.Deadlocks.{IsFrozen}
use Rattle.doom.specs.Pushed.{AreOthersFrozen, DoomedFrom}
use Rattle.doom.proofs.Parting.{doomed_as_from, doomed_if_from}
use Rattle.doom.proofs.lemmas.Soundness.{doomed_are_lost}
use Rattle.doom.proofs.after.doomed_after.Goals as goal

pub is_doomed_from-requires-clause-clear : goal.is_doomed_from-requires-clause-clear
is_doomed_from-requires-clause-clear c = λ q there. c.requires.fits.scene.boxes q (ap (λ boxes. contains boxes q) (sym c.boxes.ensures.squares) ∙ there)

pub is_doomed_from-requires-clause-there : goal.is_doomed_from-requires-clause-there
is_doomed_from-requires-clause-there c =
    subst (λ (q : ℕ). contains c.boxes.result.now q ≡ true) (sym c.next.ensures)
    (subst (λ (boxes : Squares). contains boxes (next c.args.level.now c.args.push.square c.args.push.dir) ≡ true)
    (sym c.boxes.ensures.squares) c.requires.moved)

pub returns : goal.returns
returns c =
    let board = c.args.level.now in
    let told : Bool = c.is_doomed_from.result in
    let Tells : Squares → ℕ → Type 0 = λ boxes q. (IsTrue told ↔ DoomedFrom board boxes q) × ((members : Squares) →
    IsFrozen board boxes members → IsTrue told ⊎ AreOthersFrozen board boxes q) in
    let (tells, others) = subst (Tells c.args.position.now.boxes) c.next.ensures
    (subst (λ (boxes : Squares). Tells boxes c.next.result) c.boxes.ensures.squares
    (c.is_doomed_from.ensures.from, c.is_doomed_from.ensures.others)) in
    record {
      from = tells;
      same = λ (before, moved, safe). doomed_as_from board before c.args.position.now.boxes c.args.push.square _ told
          moved c.requires.moved safe tells others;
      lost = λ h. doomed_are_lost board c.args.position.now.boxes
          (doomed_if_from board c.args.position.now.boxes _ c.requires.moved (tells.0 h));
      kept = search rules;
    }

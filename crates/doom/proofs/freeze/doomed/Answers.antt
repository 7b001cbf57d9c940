use Rattle.std.proofs.Common.{rules, ◌↔◌, IsTrue, inl, inr, sym, ap, subst, ◌∙◌}
use Rattle.std.proofs.lemmas.Bool.{false≢true}
use Rattle.grid.specs.Squares.{Squares, contains}
use Rattle.grid.proofs.lemmas.Steps.{inside_grid}
use Rattle.doom.specs.Deadlocks.{IsDead, IsFrozen, Doomed}
use Rattle.doom.proofs.lemmas.Soundness.{doomed_are_lost}
use Rattle.doom.proofs.freeze.doomed.Goals as goal

pub any_frozen-requires-clause-inside : goal.any_frozen-requires-clause-inside
any_frozen-requires-clause-inside c = λ q there.
    let there' = ap (λ boxes. contains boxes q) (sym c.boxes-boxes.ensures.squares) ∙ there in
    inside_grid c.args.level.now q (c.requires.fits.scene.boxes q there')

pub returns-then-any_dead-clause-lost : goal.returns-then-any_dead-clause-lost
returns-then-any_dead-clause-lost c found =
    let (q, there, dead) = c.any_dead.ensures.0 found in
    doomed_are_lost c.args.level.now c.args.position.now.boxes (inl (
      q,
      ap (λ boxes. contains boxes q) (sym c.boxes-boxes.ensures.squares) ∙
          there,
      subst (λ board. IsDead board q) c.requires.dead_of_level dead,
    ))

pub returns-else-any_dead : goal.returns-else-any_dead
returns-else-any_dead c =
    let tells = subst (λ (given : Squares). IsTrue c.any_frozen.result ↔
    ((members : Squares) × IsFrozen c.args.level.now given members)) c.boxes-boxes.ensures.squares
    c.any_frozen.ensures.frozen in
    let decided : IsTrue c.any_frozen.result ↔ Doomed c.args.level.now c.args.position.now.boxes = (
      λ found. inr (tells.0 found),
      λ lost. elim lost [
        | inl (q, there, dead) ↦ absurd (false≢true (c.if-any_dead.ensures.1 (
          q,
          ap (λ given. contains given q) c.boxes-boxes.ensures.squares ∙ there,
          subst (λ given. IsDead given q) (sym c.requires.dead_of_level) dead,
        )))
        | inr frozen ↦ tells.1 frozen
      ],
    ) in
    record {
      doomed = decided;
      lost = λ found. doomed_are_lost c.args.level.now c.args.position.now.boxes (decided.0 found);
      kept = search rules;
    }

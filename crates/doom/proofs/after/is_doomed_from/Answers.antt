use Rattle.std.proofs.Common.{◌∙◌, sym, subst, inl, inr}
use Rattle.std.proofs.lemmas.Bool.{false≢true}
use Rattle.grid.specs.Board.{Board}
use Rattle.doom.specs.Deadlocks.{IsDead}
use Rattle.doom.proofs.after.is_doomed_from.Goals as goal

pub returns-then-is_dead-clause-from : goal.returns-then-is_dead-clause-from
returns-then-is_dead-clause-from c = (
  λ told. inl (subst (λ (b : Board). IsDead b c.args.square) c.requires.dead_of_level (c.is_dead.ensures.dead.0 told)),
  λ _. c.if-is_dead.true,
)

pub returns-then-is_dead-clause-others : goal.returns-then-is_dead-clause-others
returns-then-is_dead-clause-others c = λ members frozen. inl c.if-is_dead.true

pub returns-else-is_dead-clause-from : goal.returns-else-is_dead-clause-from
returns-else-is_dead-clause-from c = (
  λ told. inr (c.is_group_frozen.ensures.group.0 told),
  λ doomed. elim doomed [
    | inl dead ↦ absurd (false≢true (sym c.if-is_dead.false ∙
        c.is_dead.ensures.dead.1 (subst (λ (b : Board). IsDead b c.args.square) (sym c.requires.dead_of_level) dead)))
    | inr group ↦ c.is_group_frozen.ensures.group.1 group
  ],
)

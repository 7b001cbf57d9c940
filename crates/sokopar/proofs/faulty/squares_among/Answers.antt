-- The next cell has its square too, if it is of the kind.
use Rattle.std.proofs.Common.{rules, ◌≡◌, ℕ, List, [], ◌∷◌, ◌++◌, sym, ap, ◌∙◌}
use Rattle.grid.proofs.lemmas.Places.{places_more_yes, places_more_no}
use Rattle.grid.specs.declared.cell.Cell.TheVariants.{Wall}
use Rattle.sokopar.specs.inside.Explaining.{is_kind}
use Rattle.sokopar.proofs.faulty.squares_among.Goals as goal
use Rattle.sokopar.proofs.faulty.squares_among.Goals.{then-is_kind+in_ok-push, else-is_kind}

pub loop-place-preserved : goal.loop-place-preserved
loop-place-preserved c =
    let i = c.loop-place.place in
    let cells = c.args.cells.now in
    elim c.if-is_kind.branch [
      | then-is_kind+in_ok-push w ↦
          let grown : c.if-is_kind.squares.items ≡ c.loop-place.squares.items ++ i ∷ [] = search rules in
          grown ∙ ap (λ (xs : List ℕ). xs ++ i ∷ []) c.loop-place.invariant
          ∙ sym (places_more_yes (is_kind c.args.kind) cells i Wall c.loop-place-test.true (sym c.is_kind.ensures ∙ w.if-is_kind.true))
      | else-is_kind w ↦
          let same : c.if-is_kind.squares.items ≡ c.loop-place.squares.items = search rules in
          same ∙ c.loop-place.invariant
          ∙ sym (places_more_no (is_kind c.args.kind) cells i Wall c.loop-place-test.true (sym c.is_kind.ensures ∙ w.if-is_kind.false))
    ]

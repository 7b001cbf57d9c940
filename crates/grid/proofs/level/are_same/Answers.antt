use Rattle.std.proofs.Common.{arith, get_or, ap}
use Rattle.std.proofs.lemmas.List.{ext_get_or}
use Rattle.grid.specs.declared.cell.Cell.TheVariants.{Wall}
use Rattle.grid.proofs.level.are_same.Goals as goal

pub returns : goal.returns
returns c =
    let known = c.loop-place.invariant in
    let reached = c.loop-place-test.false in
    let at_end = c.loop-place.auto.place-end in (
      λ same. ext_get_or Wall c.args.cells.now c.args.others.now known.0 (λ i inside. known.1.0 same i (omega (arith, inside, reached, at_end))),
      λ e. known.1.1 (λ i inside. ap (λ xs. get_or xs i Wall) e),
    )

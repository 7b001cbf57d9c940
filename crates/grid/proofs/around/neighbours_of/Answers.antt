use Rattle.std.proofs.Common.{◌≡◌, arith}
use Rattle.std.proofs.lemmas.Bool.Decides.{nat_tests}
use Rattle.grid.specs.declared.dir.Dir.TheVariants.{D, L, R, U}
use Rattle.grid.specs.Board.{Board, next}
use Rattle.grid.proofs.Columns.{next_row, next_column}
use Rattle.grid.proofs.around.neighbours_of.Goals as goal
use Rattle.grid.proofs.around.neighbours_of.Goals.{then-square-cols, else-square-cols, then-column-eq0, else-column-eq0, then-column-cols, else-column-cols}
use Rattle.grid.proofs.around.neighbours_of.Goals.{then-square-cols-2, else-square-cols-2}

pub returns : goal.returns
unfolding next
returns c =
    let board : Board = record { cols = c.args.cols; cells = c.args.cells.now } in
    let q = c.args.square in
    let d : c.if-square-cols.d ≡ next board q D = elim c.if-square-cols.branch [
      | then-square-cols w ↦ grind (arith, nat_tests)
      | else-square-cols w ↦
          grind (arith, nat_tests)
    ] in
    let l : c.if-column-eq0.l ≡ next board q L = elim c.if-column-eq0.branch [
      | then-column-eq0 w ↦ grind (arith, nat_tests)
      | else-column-eq0 w ↦
          grind (arith, nat_tests)
    ] in
    let r : c.if-column-cols.r ≡ next board q R = elim c.if-column-cols.branch [
      | then-column-cols w ↦ (let e = next_row q c.args.cols c.args.column c.requires.column w.if-column-cols.true in grind (arith, nat_tests))
      | else-column-cols w ↦ (let e = next_column q c.args.cols c.args.column c.requires.columns c.requires.column w.if-column-cols.false in
          grind (arith, nat_tests))
    ] in
    let u : c.if-square-cols-2.u ≡ next board q U = elim c.if-square-cols-2.branch [
      | then-square-cols-2 w ↦ grind (arith, nat_tests)
      | else-square-cols-2 w ↦
          grind (arith, nat_tests)
    ] in
    cc

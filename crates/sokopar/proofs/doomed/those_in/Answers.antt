-- The next square is one more of them, if it is in the plight.
use Rattle.std.proofs.Common.{rules, ◌≡◌, ◌+◌, [], ◌∷◌, ◌++◌, take, sym, subst}
use Rattle.std.proofs.lemmas.List.{get_or_read}
use Rattle.grid.specs.Squares.{Squares}
use Rattle.sokopar.specs.Explaining.{AreIn, IsIn, empty}
use Rattle.sokopar.proofs.Plights.{in_more, in_same}
use Rattle.sokopar.proofs.doomed.those_in.Goals as goal
use Rattle.sokopar.proofs.doomed.those_in.Goals.{then-is_in+in_ok-push, else-is_in}

pub loop-square-init : goal.loop-square-init
loop-square-init c = subst (λ (found : Squares). AreIn c.args.level.now c.args.plight [] found) (sym c.new-found.ensures.items) empty

pub loop-square-preserved : goal.loop-square-preserved
loop-square-preserved c =
    let i = c.loop-square.square-index in
    let board = c.args.level.now in
    let squares = c.args.squares.now in
    let found = c.loop-square.found.items in
    let q = c.square-item.result in
    let is = sym (get_or_read squares i q c.loop-square-test.true c.square-item.is 0) in
    elim c.if-is_in.branch [
      | then-is_in+in_ok-push w ↦
          let one : IsIn board c.args.plight q = search rules in
          let grown : c.if-is_in.found.items ≡ found ++ q ∷ [] = search rules in
          subst (λ (all : Squares). AreIn board c.args.plight (take (i + 1) squares) all) (sym grown)
          (in_more board c.args.plight squares found i q c.loop-square-test.true is c.loop-square.invariant one)
      | else-is_in w ↦
          let none : ¬ (IsIn board c.args.plight q) = search rules in
          let same : c.if-is_in.found.items ≡ found = search rules in
          subst (λ (all : Squares). AreIn board c.args.plight (take (i + 1) squares) all) (sym same)
          (in_same board c.args.plight squares found i q c.loop-square-test.true is c.loop-square.invariant none)
    ]

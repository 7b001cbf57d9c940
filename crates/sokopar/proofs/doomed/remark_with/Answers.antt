-- Squares in a plight are told of, if there are any.
use Rattle.std.proofs.Common.{ℕ, Option, MatchOption, Vec, Global, subst}
use Rattle.sokopar.specs.declared.remark.Plight.{Plight}
use Rattle.sokopar.specs.inside.Explaining.{AreSafe, IsLostBy}
use Rattle.sokopar.proofs.Plights.{by_squares}
use Rattle.sokopar.proofs.doomed.remark_with.Goals as goal

pub returns-in-Some : goal.returns-in-Some
returns-in-Some c =
    let board = c.args.level.now in
    by_squares board c.tell.ensures c.tell_start.ensures c.doomed_are_lost.ensures c.in-Some.plight c.in-Some.squares.items
    (subst (λ (found : Option (Plight × Vec ℕ Global)). MatchOption found (AreSafe board) (λ lost. IsLostBy board lost.0 lost.1.items)) c.in-Some.is
    c.in_ok-plight.ensures)

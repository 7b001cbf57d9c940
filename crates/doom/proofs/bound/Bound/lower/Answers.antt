use Rattle.std.proofs.Common.{ℕ, Option, Some, None, MatchOption, IfSome, IfNone, subst}
use Rattle.grid.specs.Board.{Board}
use Rattle.grid.specs.Squares.{Squares}
use Rattle.doom.specs.Bounds.{IsLower}
use Rattle.doom.specs.Sums.{LessenByOne, NeedAtLeast, HaveDead}
use Rattle.doom.specs.Lost.{AreLost}
use Rattle.doom.proofs.lemmas.Bounds.{lower_needed, lower_lessened, dead_are_lost}
use Rattle.doom.proofs.bound.Bound.lower.Goals as goal

abbrev Told : Board → Squares → Option ℕ → Type 0
Told board boxes o =
    IfSome o (λ low. NeedAtLeast board boxes low) × IfSome o (λ low. LessenByOne board boxes low) ×
    IfNone o (AreLost board boxes)

told : (board : Board) (boxes : Squares) (o : Option ℕ)
    → MatchOption o (HaveDead board boxes) (λ low. IsLower board boxes low) → Told board boxes o
told board boxes None dead = (tt, tt, dead_are_lost board boxes dead)
told board boxes (Some n) lower = (lower_needed board boxes n lower, lower_lessened board boxes n lower, tt)

pub returns : goal.returns
returns c =
    let all : Told c.args.self.now c.args.position.now.boxes c.sum.result =
    subst (λ boxes. Told c.args.self.now boxes c.sum.result) c.boxes.ensures.squares
    (told c.args.self.now c.boxes.result.now c.sum.result c.sum.ensures) in
    record {
      lower = subst (λ boxes. MatchOption c.sum.result (HaveDead c.args.self.now boxes) (λ low.
          IsLower c.args.self.now boxes low)) c.boxes.ensures.squares c.sum.ensures;
      needed = all.0;
      pushed = all.1;
      lost = all.2;
    }

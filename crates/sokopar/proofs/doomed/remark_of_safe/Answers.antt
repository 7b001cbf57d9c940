-- Frozen boxes are told of, if there are any.
use Rattle.std.proofs.Common.{ℕ, Option, MatchOption, Vec, Global, subst}
use Rattle.doom.specs.Deadlocks.{IsFrozen}
use Rattle.grid.specs.Squares.{Squares}
use Rattle.sokopar.specs.declared.remark.Plight.TheVariants.{OnDead}
use Rattle.sokopar.specs.inside.Explaining.{AreFrozen}
use Rattle.sokopar.proofs.Plights.{inside, with_frozen, with_none}
use Rattle.sokopar.proofs.doomed.remark_of_safe.Goals as goal

pub frozen_part-requires-clause-inside : goal.frozen_part-requires-clause-inside
frozen_part-requires-clause-inside c = inside c.args.level.now c.tell_start.ensures c.doomed_are_lost.ensures c.args.boxes.now c.requires.start

pub returns-in-Some : goal.returns-in-Some
returns-in-Some c =
    with_frozen c.args.level.now c.tell_start.ensures c.doomed_are_lost.ensures c.args.boxes.now c.requires.start c.in-Some.few.items
    (subst (λ (found : Option (Vec ℕ Global)). MatchOption found (¬ ((x : Squares) × IsFrozen c.args.level.now c.args.boxes.now x))
    (λ few. AreFrozen c.args.level.now c.args.boxes.now few.items)) c.in-Some.is c.in_ok-few.ensures) (c.requires.safe OnDead)

pub remark_of_free-requires-clause-undoomed : goal.remark_of_free-requires-clause-undoomed
remark_of_free-requires-clause-undoomed c =
    let free = subst (λ (found : Option (Vec ℕ Global)). MatchOption found (¬ ((x : Squares) × IsFrozen c.args.level.now c.args.boxes.now x))
    (λ few. AreFrozen c.args.level.now c.args.boxes.now few.items)) c.in-None.is c.in_ok-few.ensures in
    with_none c.args.level.now c.tell_start.ensures c.doomed_are_lost.ensures c.args.boxes.now c.requires.start (c.requires.safe OnDead) free

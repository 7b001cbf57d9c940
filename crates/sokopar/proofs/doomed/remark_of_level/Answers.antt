-- The level is solved or not.
use Rattle.std.proofs.Common.{sym, ◌∙◌}
use Rattle.std.proofs.lemmas.Bool.{false≢true}
use Rattle.grid.specs.Board.{start}
use Rattle.sokopar.proofs.Plights.{start_has}
use Rattle.sokopar.proofs.doomed.remark_of_level.Goals as goal

pub returns-then-are_on_goals : goal.returns-then-are_on_goals
returns-then-are_on_goals c =
    (c.are_on_goals.ensures (start c.args.level.now) (c.requires.boxes ∙ sym (start_has c.args.level.now))).0 c.if-are_on_goals.true

pub remark_with-requires-clause-unsolved : goal.remark_with-requires-clause-unsolved
remark_with-requires-clause-unsolved c = λ solved. false≢true (sym c.if-are_on_goals.false ∙
    (c.are_on_goals.ensures (start c.args.level.now) (c.requires.boxes ∙ sym (start_has c.args.level.now))).1 solved)

use Rattle.std.proofs.Common.{◌+◌, List, refl, sym, ap, subst, ◌∙◌}
use Rattle.std.proofs.lemmas.Bool.{true≢false}
use Rattle.grid.specs.declared.square.Push.{Push}
use Rattle.grid.specs.Board.{dir_number, is_wall, next}
use Rattle.grid.specs.Squares.{contains}
use Rattle.area.specs.inside.PushLists.{AreAllowedBefore}
use Rattle.area.proofs.PushLists.{before_more, before_same}
use Rattle.area.proofs.possible.push_if.Goals as goal

pub returns-then-not-reaches-clause-pushes : goal.returns-then-not-reaches-clause-pushes
returns-then-not-reaches-clause-pushes c = λ before.
    before_same c.args.level.now c.args.scratch.now c.args.square c.args.pushes.now.items (dir_number c.args.dir) c.args.dir refl before
    (λ can. true≢false (sym can.behind ∙ (ap (λ d. contains c.args.scratch.now.reached (next c.args.level.now c.args.square d)) (sym c.opposite.ensures) ∙
    (ap (contains c.args.scratch.now.reached) (sym c.next.ensures) ∙ (sym c.reaches.ensures ∙ c.if-not-reaches.true)))))

pub returns-then-is_wall-clause-pushes : goal.returns-then-is_wall-clause-pushes
returns-then-is_wall-clause-pushes c = λ before.
    before_same c.args.level.now c.args.scratch.now c.args.square c.args.pushes.now.items (dir_number c.args.dir) c.args.dir refl before
    (λ can. true≢false (sym c.if-is_wall.true ∙ (c.is_wall.ensures ∙ (ap (is_wall c.args.level.now) c.next-ahead.ensures ∙ can.ahead.0))))

pub returns-then-has_box-clause-pushes : goal.returns-then-has_box-clause-pushes
returns-then-has_box-clause-pushes c = λ before.
    before_same c.args.level.now c.args.scratch.now c.args.square c.args.pushes.now.items (dir_number c.args.dir) c.args.dir refl before
    (λ can. true≢false (sym c.if-has_box.true ∙ (c.has_box.ensures ∙ (ap (contains c.args.scratch.now.boxes) c.next-ahead.ensures ∙ can.ahead.1))))

pub returns-clause-pushes : goal.returns-clause-pushes
returns-clause-pushes c = λ before.
    subst (λ (ps : List Push). AreAllowedBefore c.args.level.now c.args.scratch.now c.args.square (dir_number c.args.dir + 1) ps) (sym c.push.ensures.items)
    (before_more c.args.level.now c.args.scratch.now c.args.square c.args.pushes.now.items (dir_number c.args.dir) c.args.dir refl before
    (record {
      there = c.requires.there;
      behind = ap (λ d. contains c.args.scratch.now.reached (next c.args.level.now c.args.square d)) (sym c.opposite.ensures) ∙
          (ap (contains c.args.scratch.now.reached) (sym c.next.ensures) ∙ (sym c.reaches.ensures ∙ c.if-not-reaches.false));
      ahead = (
        ap (is_wall c.args.level.now) (sym c.next-ahead.ensures) ∙ (sym c.is_wall.ensures ∙ c.if-is_wall.false),
        ap (contains c.args.scratch.now.boxes) (sym c.next-ahead.ensures) ∙ (sym c.has_box.ensures ∙ c.if-has_box.false),
      );
    }))

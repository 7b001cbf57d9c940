use Rattle.std.proofs.Common.{ℕ, ◌+◌, ◌<◌, ◌≤◌, get_or, set, sym, subst, ◌∙◌, arith}
use Rattle.std.proofs.lemmas.Bool.{true≢false}
use Rattle.grid.proofs.lemmas.Steps.{inside_grid}
use Rattle.area.specs.declared.spread.TheConstants.{BOX_MARK}
use Rattle.area.specs.inside.Spread.{IsLook, passes, takes}
use Rattle.area.proofs.spread.look.Goals as goal

pub bounds-marks-square-inside : goal.bounds-marks-square-inside
bounds-marks-square-inside c =
    omega (arith, inside_grid c.args.level.now c.args.square (sym c.is_wall.ensures ∙ c.if-is_wall.false), c.requires.room)

pub bounds-marks-square-inside-2 : goal.bounds-marks-square-inside-2
bounds-marks-square-inside-2 c =
    omega (arith, inside_grid c.args.level.now c.args.square (sym c.is_wall.ensures ∙ c.if-is_wall.false), c.requires.room)

pub returns-then-is_wall : goal.returns-then-is_wall
returns-then-is_wall c = passes (λ clear. absurd (true≢false (sym c.if-is_wall.true ∙ (c.is_wall.ensures ∙ clear))))

pub returns-then-marks-square-ge-BOX_MARK : goal.returns-then-marks-square-ge-BOX_MARK
returns-then-marks-square-ge-BOX_MARK c = passes (λ clear. subst (λ (x : ℕ). BOX_MARK ≤ get_or c.args.marks.now x 0) c.square.view_is c.if-marks-square-ge-BOX_MARK.true)

pub returns : goal.returns
returns c =
    subst (λ (x : ℕ). IsLook c.args.level.now BOX_MARK c.args.square c.args.mark c.args.tail c.args.marks.now c.args.queue.now (c.args.tail + 1)
    (set c.args.marks.now x c.args.mark) (set c.args.queue.now c.args.tail c.args.square)) (sym c.square.view_is)
    (takes (sym c.is_wall.ensures ∙ c.if-is_wall.false)
    (subst (λ (x : ℕ). get_or c.args.marks.now x 0 < BOX_MARK) c.square.view_is c.if-marks-square-ge-BOX_MARK.false))

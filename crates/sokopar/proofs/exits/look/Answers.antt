-- A wall or a marked square passes; any other is marked and pending.
use Rattle.std.proofs.Common.{rules, ◌≡◌, ℕ, true, List, [], ◌∷◌, ◌++◌, set, sym, subst, ◌∙◌, arith}
use Rattle.std.proofs.lemmas.Bool.{true≢false}
use Rattle.grid.specs.inside.Filling.{IsLook}
use Rattle.grid.specs.inside.Filling.IsLook.{passes, takes}
use Rattle.sokopar.specs.inside.Explaining.{board_in}
use Rattle.sokopar.proofs.exits.look.Goals as goal

pub returns-then-is_wall : goal.returns-then-is_wall
returns-then-is_wall c = passes (
  λ past. omega (arith, past, c.requires.inside),
  λ clear. absurd (true≢false (sym c.if-is_wall.true ∙ (c.is_wall.ensures ∙ clear))),
)

pub returns-then-marks-place : goal.returns-then-marks-place
returns-then-marks-place c = passes (λ past. omega (arith, past, c.requires.inside), λ clear. c.if-marks-place.true)

pub returns : goal.returns
returns c =
    let marks = c.args.marks.now in
    let pending = c.args.pending.now.items in
    let grown : c.push.new.self.items ≡ pending ++ c.args.place ∷ [] = search rules in
    subst (λ (later : List ℕ). IsLook (board_in c.args.rows.now) c.args.place marks pending (set marks c.args.place true) later) (sym grown)
    (takes (sym c.is_wall.ensures ∙ c.if-is_wall.false) c.if-marks-place.false)

-- The fault is that the player gets out.
use Rattle.std.proofs.Common.{ℕ, [], ◌∷◌, cond, Option, is_some, sym, ap, subst, ◌∙◌}
use Rattle.grid.specs.declared.fault.LevelFault.TheVariants.{Open}
use Rattle.sokopar.specs.declared.remark.Remark.TheVariants.{Exit}
use Rattle.sokopar.specs.inside.Explaining.{IsWayOut, board_in}
use Rattle.sokopar.proofs.Behind.{adds_none, adds_one}
use Rattle.sokopar.proofs.further.put_open.Goals as goal

pub returns-then-is_open : goal.returns-then-is_open
returns-then-is_open c =
    rw (sym c.is_open.ensures ∙ c.if-is_open.true) (adds_none (board_in c.args.rows.now) c.args.rows.now.places.items c.args.text.now)

pub returns-in_default : goal.returns-in_default
returns-in_default c = rw (sym c.is_open.ensures ∙ c.if-is_open.false)
    (rw c.in_default.is (adds_none (board_in c.args.rows.now) c.args.rows.now.places.items c.args.text.now))

pub returns : goal.returns
returns c =
    let board = board_in c.args.rows.now in
    rw (sym c.is_open.ensures ∙ c.if-is_open.false)
    (adds_one c.put_also.result board c.args.rows.now.places.items Open (Exit c.in-Some.square) (cond (is_some c.args.exit.now) (Open ∷ []) [])
    c.args.text.now c.put_also.new.text (ap (λ (e : Option ℕ). cond (is_some e) (Open ∷ []) []) c.in-Some.is)
    (subst (λ (e : Option ℕ). IsWayOut board e) c.in-Some.is c.requires.exit).1 c.put_also.ensures)

-- The fault is that of the numbers of boxes and goals.
use Rattle.std.proofs.Common.{sym, ◌∙◌}
use Rattle.grid.specs.Lawful.{box_count, goal_count}
use Rattle.sokopar.specs.declared.remark.Remark.TheVariants.{Unequal}
use Rattle.sokopar.specs.inside.Explaining.{board_in, unequal_faults}
use Rattle.sokopar.proofs.Behind.{adds_none, adds_one, as_counted}
use Rattle.sokopar.proofs.Remarks.{fault_unequal}
use Rattle.sokopar.proofs.further.put_unequal.Goals as goal

pub returns-then-not-is_of_players : goal.returns-then-not-is_of_players
returns-then-not-is_of_players c = rw (sym c.is_of_players.ensures ∙ c.if-not-is_of_players.true)
    (adds_none (board_in c.args.rows.now) c.args.rows.now.places.items c.args.text.now)

pub returns-in_default : goal.returns-in_default
returns-in_default c =
    let board = board_in c.args.rows.now in
    rw (sym c.is_of_players.ensures ∙ c.if-not-is_of_players.false)
    (rw (as_counted board c.in_ok-boxes.boxes c.in_ok-goals.goals c.len.result c.len-2.result _ c.len.ensures c.len-2.ensures
    c.in_ok-boxes.ensures c.in_ok-goals.ensures c.in_default.ensures) (adds_none board c.args.rows.now.places.items c.args.text.now))

pub returns : goal.returns
returns c =
    let board = board_in c.args.rows.now in
    rw (sym c.is_of_players.ensures ∙ c.if-not-is_of_players.false)
    (adds_one c.put_also.result board c.args.rows.now.places.items c.in-Some.fault (Unequal c.in_ok-boxes.boxes c.in_ok-goals.goals)
    (unequal_faults (box_count board) (goal_count board)) c.args.text.now c.put_also.new.text
    (as_counted board c.in_ok-boxes.boxes c.in_ok-goals.goals c.len.result c.len-2.result _ c.len.ensures c.len-2.ensures
    c.in_ok-boxes.ensures c.in_ok-goals.ensures c.in-Some.ensures.0)
    (fault_unequal c.in-Some.fault board c.in_ok-boxes.boxes c.in_ok-goals.goals c.in-Some.ensures.1 c.in_ok-boxes.ensures c.in_ok-goals.ensures)
    c.put_also.ensures)

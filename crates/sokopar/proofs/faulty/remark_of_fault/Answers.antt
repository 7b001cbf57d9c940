-- The remark is that of the fault.
use Rattle.std.proofs.Common.{ℕ, Option, sym, subst, ◌∙◌}
use Rattle.grid.specs.declared.fault.LevelFault.{LevelFault}
use Rattle.sokopar.specs.Explaining.{IsRemarkOnFault}
use Rattle.sokopar.specs.declared.remark.Remark.TheVariants.{Exit}
use Rattle.sokopar.specs.inside.Explaining.{IsWayOut, board_in}
use Rattle.sokopar.proofs.Remarks.{closed_counted, fault_players, fault_unequal, open_fault, open_way}
use Rattle.sokopar.proofs.faulty.remark_of_fault.Goals as goal

pub returns-then-is_unequal : goal.returns-then-is_unequal
returns-then-is_unequal c = fault_unequal c.args.fault (board_in c.args.rows.now) c.in_ok-boxes.boxes c.in_ok-goals.goals
    (sym c.is_unequal.ensures ∙ c.if-is_unequal.true) c.in_ok-boxes.ensures c.in_ok-goals.ensures

pub unreachable-requires : goal.unreachable-requires
unreachable-requires c =
    let board = board_in c.args.rows.now in
    (subst (λ (exit : Option ℕ). IsWayOut board exit) c.in_default.is c.requires.exit)
    (open_way board c.args.fault c.requires.bounds.tall c.requires.bounds.wide c.requires.fault (sym c.is_open.ensures ∙ c.if-is_open.true))

pub returns-then-is_open : goal.returns-then-is_open
returns-then-is_open c =
    let board = board_in c.args.rows.now in
    subst (λ (f : LevelFault). IsRemarkOnFault f board (Exit c.in-Some.square))
    (sym (open_fault c.args.fault (sym c.is_open.ensures ∙ c.if-is_open.true)))
    (subst (λ (exit : Option ℕ). IsWayOut board exit) c.in-Some.is c.requires.exit).1

pub returns : goal.returns
returns c = fault_players c.args.fault (board_in c.args.rows.now) c.in_ok-players.players
    (closed_counted (board_in c.args.rows.now) c.args.fault c.requires.bounds.tall c.requires.bounds.wide c.requires.fault
    (sym c.is_open.ensures ∙ c.if-is_open.false)) (sym c.is_unequal.ensures ∙ c.if-is_unequal.false) c.in_ok-players.ensures

-- The second half of judging cells: the numbers of players, boxes and goals.
use Rattle.std.specs.Prelude.{cond, ◌==◌, nat_lt, Option, None, Some}
use Rattle.grid.specs.declared.fault.LevelFault.{LevelFault}
use Rattle.grid.specs.declared.fault.LevelFault.TheVariants.{NoPlayer, TwoPlayers, NoBox, Counts}
use Rattle.grid.specs.Board.{Board}
use Rattle.grid.specs.Lawful.{box_count, goal_count, player_count}

-- what is wrong with the number of players, boxes and goals
abbrev pub count_fault : Board → Option LevelFault
count_fault board =
    cond (player_count board == 0) (Some NoPlayer)
    (cond (nat_lt 1 (player_count board)) (Some TwoPlayers)
    (cond (box_count board == 0) (Some NoBox)
    (cond (box_count board == goal_count board) None (Some (Counts (box_count board) (goal_count board))))))

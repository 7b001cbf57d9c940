-- Each branch is a case of the definition.
use Rattle.std.proofs.Common.{rules}
use Rattle.sokopar.specs.DeadMap.{wall, goal, dead, other}
use Rattle.sokopar.proofs.dead.mark_of.Goals as the

pub returns-then-is_wall : the.returns-then-is_wall
returns-then-is_wall c = wall (search rules)

pub returns-then-is_goal : the.returns-then-is_goal
returns-then-is_goal c = goal (search rules) (search rules)

pub returns-then-is_dead : the.returns-then-is_dead
returns-then-is_dead c = dead (search rules) (search rules) (search rules) (search rules)

pub returns-else-in_room : the.returns-else-in_room
returns-else-in_room c = other (search rules) (search rules) (search rules)

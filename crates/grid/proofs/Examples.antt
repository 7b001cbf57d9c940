-- Small examples of the definitions, by computation.
use Rattle.std.proofs.Common.{◌≡◌, true, false, [], ◌∷◌, Some, None, refl}
use Rattle.grid.specs.declared.cell.Cell.TheVariants.{Wall, Floor, Goal, Box, Player, PlayerOnGoal}
use Rattle.grid.specs.declared.dir.Dir.TheVariants.{D, L, R, U}
use Rattle.grid.specs.declared.fault.LevelFault.TheVariants.{NoPlayer, TwoPlayers, NoBox, Counts}
use Rattle.grid.specs.Board.{Board, Pushes, is_wall, is_goal, next, start}
use Rattle.grid.specs.Lawful.{cell_fault}
use Rattle.grid.specs.Squares.{insert, remove}
use Rattle.grid.specs.Rising.{is_rising}
use Rattle.grid.specs.Marks.{marked}

-- one push solves this level:
--   #####
--   #@$.#
--   #####
abbrev one_push : Board
one_push = record {
  cols = 5;
  cells = Wall ∷ Wall ∷ Wall ∷ Wall ∷ Wall ∷ Wall ∷ Player ∷ Box ∷ Goal ∷ Wall ∷ Wall ∷ Wall ∷ Wall ∷ Wall ∷ Wall ∷ [];
}

-- ---- sets

put_in : insert (2 ∷ 5 ∷ 9 ∷ []) 7 ≡ 2 ∷ 5 ∷ 7 ∷ 9 ∷ []
put_in = refl

put_in_twice : insert (2 ∷ 5 ∷ []) 5 ≡ 2 ∷ 5 ∷ []
put_in_twice = refl

taken_out : remove (2 ∷ 5 ∷ 9 ∷ []) 5 ≡ 2 ∷ 9 ∷ []
taken_out = refl

no_set : is_rising (2 ∷ 2 ∷ []) ≡ false
no_set = refl

marks : marked (false ∷ true ∷ false ∷ true ∷ []) ≡ 1 ∷ 3 ∷ []
marks = refl

-- ---- the grid

right_of_player : next one_push 6 R ≡ 7
unfolding next
right_of_player = refl

-- a row's end is an edge, and no way to the next row
right_of_edge : next one_push 9 R ≡ 15
unfolding next
right_of_edge = refl

left_of_edge : next one_push 5 L ≡ 15
unfolding next
left_of_edge = refl

above_the_grid : next one_push 3 U ≡ 15
unfolding next
above_the_grid = refl

below_the_grid : next one_push 11 D ≡ 15
unfolding next
below_the_grid = refl

outside : is_wall one_push 15 ≡ true
unfolding is_wall
outside = refl

goal_there : is_goal one_push 8 ≡ true
unfolding is_goal
goal_there = refl

-- ---- the game

starts : start one_push ≡ record { boxes = 7 ∷ []; player = 6 }
unfolding start
starts = refl

pushed : Pushes one_push (record { boxes = 7 ∷ []; player = 6 }) R (record { boxes = 8 ∷ []; player = 7 })
unfolding next is_wall
pushed = (refl, (refl, refl), refl)

-- ---- faults, of which the first counts

lawful : cell_fault one_push ≡ None
lawful = refl

-- without a player and without a box the player is missed first
nobody : cell_fault (record { cols = 3; cells = Wall ∷ Floor ∷ Wall ∷ [] }) ≡ Some NoPlayer
nobody = refl

two : cell_fault (record { cols = 2; cells = Player ∷ PlayerOnGoal ∷ [] }) ≡ Some TwoPlayers
two = refl

no_box : cell_fault (record { cols = 2; cells = Player ∷ Goal ∷ [] }) ≡ Some NoBox
no_box = refl

unlike : cell_fault (record { cols = 4; cells = Player ∷ Goal ∷ Box ∷ Box ∷ [] }) ≡ Some (Counts 2 1)
unlike = refl

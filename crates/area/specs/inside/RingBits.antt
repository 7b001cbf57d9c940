-- The squares round one as bits of three rows, and which of them are joined by steps round it.
use Rattle.std.specs.Prelude.{◌≡◌, ℕ, ◌+◌, ◌<◌, Bool, ◌&&◌, ◌||◌, not, List}
use Rattle.grid.specs.declared.dir.Dir.{Dir}
use Rattle.grid.specs.declared.dir.Dir.TheVariants.{D, L, R, U}
use Rattle.grid.specs.Board.{Board, next, opposite}
use Rattle.grid.specs.Masks.{has_bit}
use Rattle.grid.specs.Squares.{Squares, contains}
use Rattle.area.specs.declared.ring.Flank.{Flank}
use Rattle.area.specs.declared.ring.Ring.{Ring}
use Rattle.area.specs.declared.ring.Turned.{Turned}
use Rattle.area.specs.inside.Detours.{across, IsAcross}
use Rattle.area.specs.Words.{word_bit}

-- the row of the square next to the middle in a direction
abbrev pub row_to : Ring → Dir → ℕ
row_to ring D = ring.below
row_to ring L = ring.beside
row_to ring R = ring.beside
row_to ring U = ring.above

-- the index of that square in its row
abbrev pub column_to : Dir → ℕ
column_to D = 1
column_to L = 0
column_to R = 2
column_to U = 1

-- the set has the square next to the middle in a direction
abbrev pub side_bit : Ring → Dir → Bool
side_bit ring d = word_bit (row_to ring d) (column_to d)

-- the set has the square next to the middle in two directions at right angles to each other
abbrev pub corner_bit : Ring → Dir → Dir → Bool
corner_bit ring D e = word_bit ring.below (column_to e)
corner_bit ring L e = word_bit (row_to ring e) 0
corner_bit ring R e = word_bit (row_to ring e) 2
corner_bit ring U e = word_bit ring.above (column_to e)

-- the flank says which of three squares are in the set
pub record IsFlank (corner beside front : Bool) (flank : Flank) : Type 0 where
  pub at_corner : flank.corner ≡ corner
  pub at_side : flank.beside ≡ beside
  pub at_front : flank.front ≡ front

-- the flank is that of the ring on the side e of a push in the direction d
abbrev pub IsFlankOf : Ring → Dir → Dir → Flank → Type 0
IsFlankOf ring d e flank = IsFlank (corner_bit ring (opposite d) e) (side_bit ring e) (corner_bit ring e d) flank

-- the ring's flanks, the square beyond the middle and the middle, as a push in the direction d meets them
pub record IsTurned (ring : Ring) (d : Dir) (view : Turned) : Type 0 where
  pub to_one : IsFlankOf ring d (opposite (across d)) view.one
  pub to_other : IsFlankOf ring d (across d) view.other
  pub to_beyond : view.beyond ≡ side_bit ring d
  pub to_middle : view.middle ≡ word_bit ring.beside 1

-- by way of a flank three steps lead from the square that a box comes from past the middle
abbrev pub goes_past : Flank → Bool
goes_past flank = (flank.corner && flank.beside) && flank.front

-- if the square of a flank beside the middle is in the set, a step from the corner leads to it
abbrev pub keeps_side : Flank → Bool
keeps_side flank = flank.corner || not flank.beside

-- one way round the middle joins all squares next to it
abbrev pub goes_round : Turned → Bool
goes_round view = ((goes_past view.one && view.other.front) || (goes_past view.other && view.one.front)) && view.beyond

-- each square next to the middle is joined by a way of its own
abbrev pub keeps_each : Turned → Bool
keeps_each view =
    (keeps_side view.one && keeps_side view.other) && ((not view.beyond || goes_past view.one) || goes_past view.other)

-- if the middle is in the set, the squares of the set next to it stay joined with the square that the box came from
abbrev pub joins : Turned → Bool
joins view = (goes_round view || keeps_each view) || not view.middle

-- the rows have the bits of the numbers round q, with `cols` numbers in a row
pub record IsRing (cols : ℕ) (words : List ℕ) (q : ℕ) (ring : Ring) : Type 0 where
  pub above : (i j : ℕ) → j < 3 → i + cols + 1 ≡ q + j → word_bit ring.above j ≡ has_bit words i
  pub beside : (i j : ℕ) → j < 3 → i + 1 ≡ q + j → word_bit ring.beside j ≡ has_bit words i
  pub below : (i j : ℕ) → j < 3 → i + 1 ≡ q + cols + j → word_bit ring.below j ≡ has_bit words i

-- the rows say which of the squares round q are in the set
pub record IsAround (board : Board) (set : Squares) (q : ℕ) (ring : Ring) : Type 0 where
  pub middle : word_bit ring.beside 1 ≡ contains set q
  pub sides : (d : Dir) → side_bit ring d ≡ contains set (next board q d)
  pub corners : (d e : Dir) → IsAcross d e → corner_bit ring d e ≡ contains set (next board (next board q d) e)

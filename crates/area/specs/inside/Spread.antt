-- How a search spreads over the squares: each square that it comes upon is marked with the steps that lead there.
use Rattle.std.specs.Prelude.{◌≡◌, ◌≢◌, ℕ, suc, ◌+◌, ◌^◌, ◌<◌, ◌≤◌, true, false, ◌⊎◌, ◌↔◌, List, length, slice_index}
use Rattle.std.specs.Prelude.{slice_set, nat_lt, sum_by, cond}
use Rattle.grid.specs.declared.dir.Dir.{Dir}
use Rattle.grid.specs.Board.{Board, is_wall, next, dir_number}
use Rattle.grid.specs.Squares.{Squares, contains}

-- A mark of `base` says that a box is on the square, a lesser mark that the search has not reached it, and the mark
-- `base + 1 + n` that it is n steps from the square where the search began.

-- before a search: the boxes have the mark `base`, and every other square has a lesser one
abbrev pub AreBlocked : ℕ → Squares → List ℕ → Type 0
AreBlocked base boxes marks =
    (q : ℕ) → (contains boxes q ≡ true → slice_index marks q ≡ base) ×
    (contains boxes q ≡ false → slice_index marks q < base)

-- the square next to q in a direction, where it is neither a wall nor a box's, is reached, with one step more at most
abbrev pub ReachesNext : Board → ℕ → (ℕ → ℕ) → ℕ → Dir → Type 0
ReachesNext board base mark q d =
    is_wall board (next board q d) ≡ false → mark (next board q d) ≢ base → (base < mark (next board q d)) ×
    (mark (next board q d) ≤ suc (mark q))

-- a square was reached from a square beside it that is reached with one step less
abbrev pub HasCome : Board → ℕ → (ℕ → ℕ) → ℕ → Type 0
HasCome board base mark q =
    (m : ℕ) × (d : Dir) × (base < mark m) × (next board m d ≡ q) × (mark q ≡ suc (mark m))

-- after a search that began at a square: its mark says 0 steps, each other reached square was reached from one beside
-- it, and each free square beside a reached one is reached
pub record IsSpread (board : Board) (base from : ℕ) (mark : ℕ → ℕ) : Type 0 where
  pub start : mark from ≡ suc base
  pub free : (q : ℕ) → base < mark q → is_wall board q ≡ false
  pub came : (q : ℕ) → base < mark q → (q ≡ from) ⊎ HasCome board base mark q
  pub closed : (q : ℕ) → base < mark q → (d : Dir) → ReachesNext board base mark q d

-- after a search round boxes: they have the mark `base` and nothing else has, and all that walks reach is marked
pub record IsSearched (board : Board) (boxes : Squares) (base from : ℕ) (marks : List ℕ) : Type 0 where
  pub spread : IsSpread board base from (λ q. slice_index marks q)
  pub blocked : (q : ℕ) → (contains boxes q ≡ true → slice_index marks q ≡ base) ×
      (contains boxes q ≡ false → slice_index marks q ≢ base)

-- which squares have a box's mark stays
abbrev pub KeepsBlocked : ℕ → List ℕ → List ℕ → Type 0
KeepsBlocked base old new = (q : ℕ) → (slice_index old q ≡ base) ↔ (slice_index new q ≡ base)

-- the memory before a search from a square: no mark is above `base`, and the square is no wall and has a lesser mark
pub record IsBegun (board : Board) (base from : ℕ) (marks queue : List ℕ) : Type 0 where
  pub room : length marks ≡ length board.cells
  pub places : length queue ≡ length board.cells
  pub small : base + length board.cells + 1 < 2 ^ 16
  pub fresh : (q : ℕ) → slice_index marks q ≤ base
  pub clear : is_wall board from ≡ false
  pub vacant : slice_index marks from < base

-- During a search the reached squares are in a queue, in the order in which they were reached. The search has looked
-- round from those before `head`, and from the one at `head` in the directions with numbers below `seen`.
pub record IsSpreading (board : Board) (base from : ℕ) (mark place : ℕ → ℕ) (head seen tail : ℕ) : Type 0 where
  pub start : mark from ≡ suc base
  pub free : (q : ℕ) → base < mark q → is_wall board q ≡ false
  pub came : (q : ℕ) → base < mark q → (q ≡ from) ⊎ HasCome board base mark q
  pub listed : (q : ℕ) → base < mark q → (i : ℕ) × (i < tail) × (place i ≡ q)
  pub queued : (i : ℕ) → i < tail → base < mark (place i)
  pub bound : (i : ℕ) → i < tail → mark (place i) ≤ suc base + i
  pub sorted : (i j : ℕ) → i ≤ j → j < tail → mark (place i) ≤ mark (place j)
  pub close : (i j : ℕ) → head ≤ i → i < tail → j < tail → mark (place j) ≤ suc (mark (place i))
  pub done : (i : ℕ) → i < head → i < tail → (d : Dir) → ReachesNext board base mark (place i) d
  pub now : (d : Dir) → dir_number d < seen → ReachesNext board base mark (place head) d
  pub order : head ≤ tail

-- a look at the square n, in marks and queue as they stand: a wall, a box or a square that has been reached passes,
-- and any other takes the mark and the place at the queue's end
pub data IsLook (board : Board) (base n mark tail : ℕ) (marks queue : List ℕ) : ℕ → List ℕ → List ℕ → Type 0 where
  passes : (is_wall board n ≡ false → base ≤ slice_index marks n) →
      IsLook board base n mark tail marks queue tail marks queue
  takes : is_wall board n ≡ false → slice_index marks n < base →
      IsLook board base n mark tail marks queue (tail + 1) (slice_set marks n mark) (slice_set queue tail n)

-- how many squares the search has not reached
abbrev pub untouched : ℕ → List ℕ → ℕ
untouched base marks = sum_by (λ m. cond (nat_lt m base) 1 0) marks

-- the memory during a search, with room in the queue for each square that is not reached
pub record IsUnderWay (board : Board) (base from : ℕ) (old marks queue : List ℕ) (head seen tail : ℕ) : Type 0 where
  pub room : length marks ≡ length board.cells
  pub places : length queue ≡ length board.cells
  pub spreading : IsSpreading board base from (λ q. slice_index marks q) (λ i. slice_index queue i) head seen tail
  pub count : tail + untouched base marks ≤ length marks
  pub blocked : KeepsBlocked base old marks

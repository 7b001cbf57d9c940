-- What a table is looked at for, one set of boxes and one step of the player at a time.
use Rattle.std.specs.Prelude.{◌≡◌, ◌≢◌, ℕ, suc, ◌+◌, ◌-◌, ◌≤◌, ◌<◌, Bool, true, false, cond, List, length}
use Rattle.grid.specs.declared.dir.Dir.{Dir}
use Rattle.grid.specs.Squares.{Squares, contains}
use Rattle.grid.specs.Board.{Board, is_goal, is_wall, next, opposite}
use Rattle.prices.specs.Prices.{CanStand, sum_over}
use Rattle.regions.specs.declared.table.RegionTable.{RegionTable}
use Rattle.regions.specs.Regions.{AreFinite, CanCome, IsLeft, Region, endless, waste_of}
use Rattle.regions.specs.inside.Tables.{entry_at, byte_for, high_of, is_seat, low_of, place_of, row_of}

-- neither a wall nor a box of the set
abbrev pub IsVacant : Board → (ℕ → Bool) → ℕ → Type 0
IsVacant board box q = (is_wall board q ≡ false) × (box q ≡ false)

-- a step of the player between two squares does not lessen what the row says; nor does the step back, where the second
-- square has place 0
pub record Keeps (t : RegionTable) (row z y : ℕ) : Type 0 where
  pub there : byte_for t row z ≤ byte_for t row y
  pub back : place_of t y ≡ 0 → byte_for t row y ≤ byte_for t row z

-- no step between vacant squares from z lessens what the row says
abbrev pub WalksKeep : Board → RegionTable → (ℕ → Bool) → ℕ → ℕ → Type 0
WalksKeep board t box row z = IsVacant board box z → (d : Dir) → let y = next board z d in
    IsVacant board box y → Keeps t row z y

-- the player on p pushes a box from b to r: what is left pays for it, unless the box can come to no goal afterwards
abbrev pub Pays : RegionTable → (ℕ → Dir → ℕ) → ℕ → ℕ → ℕ → ℕ → ℕ → Dir → Type 0
Pays t waste high low p b r d = waste b d < endless → IsLeft (entry_at t high low p) (waste b d)
    (entry_at t ((high - high_of t b) + high_of t r) ((low - low_of t b) + low_of t r) b)

-- what is left pays for the push of a box on b
abbrev pub PushPays : Board → RegionTable → (ℕ → Dir → ℕ) → (ℕ → Bool) → ℕ → ℕ → ℕ → Dir → Type 0
PushPays board t waste box high low b d = let p = next board b (opposite d) in let r = next board b d in
    is_wall board b ≡ false → IsVacant board box p → IsVacant board box r → Pays t waste high low p b r d

-- what is left pays for the push to r of a box that is not seen before it
abbrev pub EntryPays : Board → RegionTable → (ℕ → Dir → ℕ) → (ℕ → Bool) → ℕ → ℕ → ℕ → Dir → Type 0
EntryPays board t waste box high low r d = let b = next board r (opposite d) in let p = next board b (opposite d) in
    is_wall board r ≡ false → is_wall board b ≡ false → is_seat t b ≡ false → IsVacant board box p →
    Pays t waste high low p b r d

-- what is left pays for the push of a box on q, or, if one box more may be seen, for a push to q
pub record SeatPays (board : Board) (t : RegionTable) (waste : ℕ → Dir → ℕ) (box : ℕ → Bool) (high low left q : ℕ)
    (d : Dir) : Type 0 where
  pub push : box q ≡ true → PushPays board t waste box high low q d
  pub enter : box q ≡ false → 1 ≤ left → EntryPays board t waste box high low q d

-- the entries of a set of boxes pass, by the sums of its keys, where there may be `left` boxes more
pub record SetPasses (board : Board) (t : RegionTable) (waste : ℕ → Dir → ℕ) (seats : Squares) (box : ℕ → Bool)
    (high low left : ℕ) : Type 0 where
  pub home : ((q : ℕ) → contains seats q ≡ true → box q ≡ is_goal board q)
      → (p : ℕ) → p < length board.cells → entry_at t high low p ≡ 0
  pub walk : (z : ℕ) → contains t.squares.items z ≡ true → WalksKeep board t box (row_of t high low) z
  pub seat : (q : ℕ) → contains seats q ≡ true → (d : Dir) → SeatPays board t waste box high low left q d

-- the sum of numbers over those of the squares that have a box
abbrev pub sum_where : (ℕ → Bool) → (ℕ → ℕ) → Squares → ℕ
sum_where box f xs = sum_over (λ q. cond (box q) (f q) 0) xs

abbrev pub one : ℕ → ℕ
one q = 1

-- each set of boxes passes that is as marked, except on the rest of the seats, where it has at most `left` boxes
abbrev pub SetsPass : Board → RegionTable → (ℕ → Dir → ℕ) → Squares → Squares → (ℕ → Bool) → ℕ → ℕ → ℕ → Type 0
SetsPass board t waste seats rest marks high low left =
    (box : ℕ → Bool) → ((q : ℕ) → contains rest q ≡ false → marks q ≡ box q) → sum_where box one rest ≤ left
    → SetPasses board t waste seats box (high + sum_where box (high_of t) rest) (low + sum_where box (low_of t) rest)
    (left - sum_where box one rest)

-- a square is among the seats if a box on it is seen, and among the table's squares if its place is not 0
pub record IsListedAt (t : RegionTable) (seats : Squares) (q : ℕ) : Type 0 where
  pub seat : is_seat t q ≡ true → contains seats q ≡ true
  pub square : place_of t q ≢ 0 → contains t.squares.items q ≡ true

-- each square of the level is listed where it has to be
abbrev pub HasSteps : Board → RegionTable → Squares → Type 0
HasSteps board t seats = (q : ℕ) → q < length board.cells → IsListedAt t seats q

-- the regions count for a push from the player's square no more than it wastes
abbrev pub IsPaid : Board → (ℕ → ℕ → ℕ → ℕ) → (ℕ → ℕ → ℕ) → List Region → ℕ → Dir → Type 0
IsPaid board far need ps p d = let q = next board p d in let r = next board q d in
    CanStand board q p → CanStand board r q → CanCome board far r q →
    AreFinite ps q d × (need q p + waste_of ps q d ≤ suc (need r q))

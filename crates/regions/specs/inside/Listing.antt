-- The single steps within a region, listed once for all sets of boxes.
use Rattle.std.specs.Prelude.{◌≡◌, ◌≢◌, ℕ, ◌+◌, ◌-◌, ◌<◌, ◌⊎◌, ◌==◌, Bool, true, false, not, List, Some, slice_get}
use Rattle.std.specs.Prelude.{slice_index_or}
use Rattle.std.specs.Int.RustNames.{bit_and, bit_or}
use Rattle.grid.specs.declared.dir.Dir.{Dir}
use Rattle.grid.specs.Squares.{contains}
use Rattle.grid.specs.Board.{is_wall, next, opposite}
use Rattle.regions.specs.declared.listing.Look.{Look}
use Rattle.regions.specs.declared.listing.PushStep.{PushStep}
use Rattle.regions.specs.declared.listing.WalkStep.{WalkStep}
use Rattle.regions.specs.declared.listing.Steps.{Steps}
use Rattle.regions.specs.declared.table.RegionTable.{RegionTable}
use Rattle.regions.specs.Regions.{IsLeft, endless}
use Rattle.regions.specs.inside.Tables.{byte_in, is_seat, key_of, place_of, row_of, waste_in}

-- the bit of a square; 0 if no box is seen there
abbrev pub bit_of : List ℕ → ℕ → ℕ
bit_of bits q = slice_index_or bits q 0

-- the squares with boxes, by the bits of a set
abbrev pub box_in : List ℕ → ℕ → ℕ → Bool
box_in bits set q = not (bit_and set (bit_of bits q) == 0)

-- no other square has a bit of this one
abbrev pub HasOwnBit : List ℕ → ℕ → Type 0
HasOwnBit bits x = (q : ℕ) → x ≢ q → bit_and (bit_of bits x) (bit_of bits q) ≡ 0

-- the player's step from z to y
abbrev pub walk_in : Look → ℕ → ℕ → WalkStep
walk_in look z y = let t = look.table.now in record {
  from = place_of t z;
  to = place_of t y;
  seats = bit_or (bit_of look.bits.now z) (bit_of look.bits.now y);
}

-- the player on p pushes a box from b to r
abbrev pub push_in : Look → ℕ → ℕ → ℕ → Dir → PushStep
push_in look p b r d = let t = look.table.now in record {
  player = place_of t p;
  place = place_of t b;
  waste = waste_in look.wastes.now b d;
  free = bit_or (bit_of look.bits.now p) (bit_of look.bits.now r);
  seat = bit_of look.bits.now b;
  left = key_of t b;
  entered = key_of t r;
}

-- a step is in a list
abbrev pub Has : {A : Type 0} → List A → A → Type 0
Has steps step = (i : ℕ) × (slice_get steps i ≡ Some step)

-- the player's step between two squares, or the step back, is listed
abbrev pub WalkListed : Look → List WalkStep → ℕ → ℕ → Type 0
WalkListed look walks z y = Has walks (walk_in look z y) ⊎ Has walks (walk_in look y z)

-- the step from z in a direction, or the step back, is listed if no wall is there
abbrev pub WalksListed : Look → List WalkStep → ℕ → Dir → Type 0
WalksListed look walks z d = let y = next look.level.now z d in
    is_wall look.level.now z ≡ false → is_wall look.level.now y ≡ false → WalkListed look walks z y

-- the push of a box on b is listed, unless a wall is in the way or the box can come to no goal afterwards
abbrev pub PushListed : Look → List PushStep → ℕ → Dir → Type 0
PushListed look pushes b d = let board = look.level.now in
    let p = next board b (opposite d) in let r = next board b d in
    is_wall board p ≡ false → is_wall board r ≡ false → waste_in look.wastes.now b d < endless →
    Has pushes (push_in look p b r d)

-- the push to r of a box that is not seen before it is listed, unless a wall is in the way or the box can come to no
-- goal afterwards
abbrev pub EntryListed : Look → List PushStep → ℕ → Dir → Type 0
EntryListed look entries r d = let board = look.level.now in
    let b = next board r (opposite d) in let p = next board b (opposite d) in
    is_wall board b ≡ false → is_seat look.table.now b ≡ false → is_wall board p ≡ false →
    waste_in look.wastes.now b d < endless → Has entries (push_in look p b r d)

-- the pushes from a seat and to it are listed
pub record SeatListed (look : Look) (steps : Steps) (q : ℕ) (d : Dir) : Type 0 where
  pub push : PushListed look steps.pushes.items q d
  pub enter : EntryListed look steps.entries.items q d

-- all steps are listed
pub record AreListed (look : Look) (steps : Steps) : Type 0 where
  pub walk : (z : ℕ) → contains look.table.now.squares.items z ≡ true → (d : Dir) →
      WalksListed look steps.walks.items z d
  pub seat : (q : ℕ) → contains look.seats.now.boxes q ≡ true → (d : Dir) → SeatListed look steps q d

-- the player's step changes nothing, unless a box is in the way
abbrev pub WalkKeeps : RegionTable → ℕ → ℕ → WalkStep → Type 0
WalkKeeps t set row w = bit_and set w.seats ≡ 0 → byte_in t row w.from ≡ byte_in t row w.to

-- what is left after a push pays for what was before it, unless a box is in the way
abbrev pub PaysFor : RegionTable → ℕ → ℕ → ℕ → PushStep → Type 0
PaysFor t set high low p = bit_and set p.free ≡ 0 → IsLeft (byte_in t (row_of t high low) p.player) p.waste
    (byte_in t (row_of t ((high - p.left.high) + p.entered.high) ((low - p.left.low) + p.entered.low)) p.place)

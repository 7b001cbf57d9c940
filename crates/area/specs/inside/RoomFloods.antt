-- How a flood goes over one set of free squares, by their numbers alone.
use Rattle.std.specs.Prelude.{◌≡◌, ◌≢◌, ℕ, ◌+◌, ◌*◌, ◌<◌, Bool, true, false, ◌≤◌, ◌⊎◌, ◌↔◌, List, length, slice_index}
use Rattle.grid.specs.declared.masks.TheConstants.{WORD_BITS}
use Rattle.grid.specs.Board.{Board}
use Rattle.grid.specs.Lawful.{InRoom}
use Rattle.grid.specs.Masks.{has_bit}
use Rattle.area.specs.inside.Flooding.{AllPass, room_left}

-- the squares of the player's room that are not barred
abbrev pub AreFree : Board → List ℕ → List ℕ → Type 0
AreFree board barred free = (q : ℕ) → (has_bit free q ≡ true) ↔ (InRoom board q × (has_bit barred q ≡ false))

-- the numbers differ by 1 or by the number of columns
abbrev pub IsBeside : ℕ → ℕ → ℕ → Type 0
IsBeside cols p q = ((p + 1 ≡ q) ⊎ (p ≡ q + 1)) ⊎ ((p + cols ≡ q) ⊎ (p ≡ q + cols))

-- if the test holds of a number, it holds of each free number beside it
abbrev pub PassesOver : ℕ → List ℕ → (ℕ → Bool) → Type 0
PassesOver cols free test = (p q : ℕ) → IsBeside cols p q → has_bit free q ≡ true → test p ≡ true → test q ≡ true

-- the set keeps its numbers, and gains only those that steps over free numbers lead to
pub record IsWidened (cols : ℕ) (free old new : List ℕ) : Type 0 where
  pub size : length new ≡ length old
  pub kept : (q : ℕ) → has_bit old q ≡ true → has_bit new q ≡ true
  pub sound : (test : ℕ → Bool) → PassesOver cols free test → AllPass test old → AllPass test new

-- a flood of the player's room round the barred squares widens a set until no free square is beside it
pub record IsFlooded (board : Board) (barred old new : List ℕ) : Type 0 where
  pub free : List ℕ
  pub are_free : AreFree board barred free
  pub widened : IsWidened board.cols free old new
  pub whole : PassesOver board.cols free (has_bit new)

-- from the word at an index on, neither of two sets has a number
abbrev pub AreUnused : ℕ → List ℕ → List ℕ → Type 0
AreUnused index free words = (k : ℕ) → index ≤ k → (slice_index free k ≡ 0) × (slice_index words k ≡ 0)

-- the set has each free number of the word at an index that is beside one of its own
abbrev pub IsFull : ℕ → List ℕ → ℕ → List ℕ → Type 0
IsFull cols free index words =
    (p j : ℕ) → j < WORD_BITS → IsBeside cols p (WORD_BITS * index + j) → has_bit free (WORD_BITS * index + j) ≡ true
    → has_bit words p ≡ true → has_bit words (WORD_BITS * index + j) ≡ true

-- a visit to the word at an index changes no other word; if the set did not grow, it has each free number of the word
-- that is beside it
pub record IsVisit (cols : ℕ) (free : List ℕ) (index : ℕ) (old new : List ℕ) (grew : Bool) : Type 0 where
  pub widened : IsWidened cols free old new
  pub others : (k : ℕ) → k ≢ index → slice_index new k ≡ slice_index old k
  pub less : grew ≡ true → room_left new < room_left old
  pub same : grew ≡ false → new ≡ old
  pub full : grew ≡ false → IsFull cols free index old

-- during visits to all words in turn: if none grew, those before an index are full
pub record IsPassing (cols : ℕ) (free : List ℕ) (index : ℕ) (old now : List ℕ) (grew : Bool) : Type 0 where
  pub widened : IsWidened cols free old now
  pub less : grew ≡ true → room_left now < room_left old
  pub same : grew ≡ false → now ≡ old
  pub full : grew ≡ false → (k : ℕ) → k < index → IsFull cols free k old

-- visits to all words: if none grew, no free number outside the set is beside it
pub record IsRound (cols : ℕ) (free old new : List ℕ) (grew : Bool) : Type 0 where
  pub widened : IsWidened cols free old new
  pub less : grew ≡ true → room_left new < room_left old
  pub whole : grew ≡ false → PassesOver cols free (has_bit new)

-- during visits that go back after a word that grew: the words before an index are full
pub record IsWidening (cols : ℕ) (free : List ℕ) (index : ℕ) (old now : List ℕ) : Type 0 where
  pub widened : IsWidened cols free old now
  pub full : (k : ℕ) → k < index → IsFull cols free k now

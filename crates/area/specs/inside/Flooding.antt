-- How a flood goes by words of bits: what steps within one of them may add.
use Rattle.std.specs.Prelude.{◌≡◌, ℕ, ◌+◌, ◌-◌, ◌^◌, ◌≤◌, Bool, true, false, List, sum_by}
use Rattle.grid.specs.declared.masks.TheConstants.{WORD_BITS}
use Rattle.grid.specs.Board.{Board, Scene, is_wall}
use Rattle.grid.specs.States.{IsScene}
use Rattle.grid.specs.Masks.{has_bit}
use Rattle.grid.specs.Squares.{contains}
use Rattle.area.specs.Area.{Area}
use Rattle.area.specs.Words.{word_bit}

-- each square of the set passes the test
abbrev pub AllPass : (ℕ → Bool) → List ℕ → Type 0
AllPass test words = (q : ℕ) → has_bit words q ≡ true → test q ≡ true

-- how much the words could still grow
abbrev pub room_left : List ℕ → ℕ
room_left words = sum_by (λ w. 2 ^ WORD_BITS - w) words

-- where the mask has a 1, the test passes on from the bit `by` below
abbrev pub PassesUp : (ℕ → Bool) → ℕ → ℕ → Type 0
PassesUp test by mask = (i j : ℕ) → i + by ≡ j → word_bit mask j ≡ true → test i ≡ true → test j ≡ true

-- where the mask has a 1, the test passes on from the bit `by` above
abbrev pub PassesDown : (ℕ → Bool) → ℕ → ℕ → Type 0
PassesDown test by mask = (i j : ℕ) → j + by ≡ i → word_bit mask j ≡ true → test i ≡ true → test j ≡ true

-- the test passes on along each of the four directions, where the mask has a 1
pub record PassesOn (test : ℕ → Bool) (by mask : ℕ) : Type 0 where
  pub on_down : PassesUp test by mask
  pub on_left : PassesDown test 1 mask
  pub on_right : PassesUp test 1 mask
  pub on_up : PassesDown test by mask

-- a word that has grown: no 1 is lost, and what is true of each old 1 and passes on is true of each new 1
pub record IsGrown (old new : ℕ) (Passes : (ℕ → Bool) → Type 0) : Type 0 where
  pub kept : (j : ℕ) → word_bit old j ≡ true → word_bit new j ≡ true
  pub most : old ≤ new
  pub sound : (test : ℕ → Bool) → Passes test → ((j : ℕ) → word_bit old j ≡ true → test j ≡ true) → (j : ℕ) →
      word_bit new j ≡ true → test j ≡ true

-- before a flood of a state from its player's square: the barred squares that are no walls are its boxes, and those
-- reached so far are of its area
pub record FloodsFrom (board : Board) (s : Scene) (from : ℕ) (barred reached : List ℕ) : Type 0 where
  pub scene : IsScene board s
  pub player : s.player ≡ from
  pub boxes : (q : ℕ) → is_wall board q ≡ false → has_bit barred q ≡ contains s.boxes q
  pub within : (q : ℕ) → has_bit reached q ≡ true → Area board s q

-- Boxes that hold one another along two axes, by the numbers of their squares.
use Rattle.std.specs.Prelude.{◌≡◌, ◌<◌, ◌≤◌, ◌+◌, ◌/◌, ◌↔◌, ◌⊎◌, ℕ, Bool, IsTrue, true, false, List, length, sum_by}
use Rattle.grid.specs.declared.masks.TheConstants.{WORD_BITS}
use Rattle.grid.specs.Squares.{Squares, contains}
use Rattle.grid.specs.Board.{Board}
use Rattle.grid.specs.Masks.{has_bit}
use Rattle.doom.specs.declared.holds.Holds.{Holds}
use Rattle.area.specs.Groups.{HangsWith}
use Rattle.area.specs.Words.{squares_of}

-- each set has at least `words` words
pub record HaveRoom (holds : Holds) (words : ℕ) : Type 0 where
  pub across : words ≤ length holds.across
  pub along : words ≤ length holds.along
  pub goals : words ≤ length holds.goals

-- a box on the square is held on an axis: whatever the other boxes are, or by a member whose number is greater or less by `by`
abbrev pub IsHeldBy : List ℕ → ℕ → Squares → ℕ → Type 0
IsHeldBy fast by members q = (has_bit fast q ≡ true) ⊎
    ((contains members (q + by) ≡ true) ⊎ ((p : ℕ) × (p + by ≡ q) × (contains members p ≡ true)))

-- a box on the square is held on both axes
abbrev pub IsHeldTwice : Holds → ℕ → Squares → ℕ → Type 0
IsHeldTwice holds cols members q = IsHeldBy holds.across 1 members q × IsHeldBy holds.along cols members q

-- each member is held on both axes
abbrev pub AreHeld : Holds → ℕ → Squares → Type 0
AreHeld holds cols members = (q : ℕ) → contains members q ≡ true → IsHeldTwice holds cols members q

-- each square of the one set is in the other
abbrev pub AreWithin : Squares → Squares → Type 0
AreWithin few more = (q : ℕ) → contains few q ≡ true → contains more q ≡ true

-- the squares are of the grid
abbrev pub StandInside : Board → Squares → Type 0
StandInside board members = (q : ℕ) → contains members q ≡ true → q < length board.cells

-- some of the boxes, each of which is held on both axes, at least one of them where no box may be held
pub record AreLocked (holds : Holds) (cols : ℕ) (boxes part : Squares) : Type 0 where
  pub some : AreWithin part boxes
  pub off : (q : ℕ) × (contains part q ≡ true) × (has_bit holds.goals q ≡ false)
  pub held : AreHeld holds cols part

-- the answer says whether some of the boxes are locked
abbrev pub TellsLocked : Holds → ℕ → Squares → Bool → Type 0
TellsLocked holds cols boxes told = IsTrue told ↔ ((part : Squares) × AreLocked holds cols boxes part)

-- the boxes connected to the one on the square
abbrev pub IsGroup : Board → Squares → ℕ → Squares → Type 0
IsGroup board boxes square group = (q : ℕ) → (contains group q ≡ true) ↔ HangsWith board boxes square q

-- the sum of the words
abbrev pub weight : List ℕ → ℕ
weight words = sum_by (λ w. w) words

-- a look at one word of a set removes exactly the members in that word that the set does not hold
pub record IsLook (holds : Holds) (cols place : ℕ) (old new : List ℕ) (went : Bool) : Type 0 where
  pub kept : (q : ℕ) → (has_bit new q ≡ true) ↔
      ((has_bit old q ≡ true) × (q / WORD_BITS ≡ place → IsHeldTwice holds cols (squares_of old) q))
  pub less : went ≡ true → weight new < weight old
  pub same : went ≡ false → new ≡ old

-- a pass over the words of a set adds no member, and removes none of a set of members that hold one another; if it
-- removes none, all members hold one another
pub record IsPass (holds : Holds) (cols : ℕ) (old new : List ℕ) (went : Bool) : Type 0 where
  pub within : AreWithin (squares_of new) (squares_of old)
  pub keeps : (others : Squares) → AreHeld holds cols others → AreWithin others (squares_of old) →
      AreWithin others (squares_of new)
  pub less : went ≡ true → weight new < weight old
  pub held : went ≡ false → AreHeld holds cols (squares_of new)

-- some of the boxes that hold one another, and every set of boxes that do is within them
pub record IsLargest (holds : Holds) (cols : ℕ) (boxes members : Squares) : Type 0 where
  pub some : AreWithin members boxes
  pub held : AreHeld holds cols members
  pub largest : (others : Squares) → AreWithin others boxes → AreHeld holds cols others → AreWithin others members

-- How the distances of squares are found: from each goal backwards, by pulls, turn after turn.
use Rattle.std.specs.Prelude.{◌≡◌, ◌↔◌, ◌⊎◌, ◌+◌, ◌<◌, ◌≤◌, ℕ, suc, Bool, true, false, cond, is_some, Option, Some}
use Rattle.std.specs.Prelude.{None, List, [], ◌∷◌, ◌++◌, length}
use Rattle.std.specs.Prelude.{slice_index_or, slice_set}
use Rattle.grid.specs.declared.dir.Dir.{Dir}
use Rattle.grid.specs.Squares.{contains}
use Rattle.grid.specs.Board.{Board, is_wall, is_goal, next, dir_number}
use Rattle.doom.specs.Deadlocks.{Live, IsDead}
use Rattle.doom.specs.Bounds.{IsFar, pushes_of}

-- whether the flag of the square is set
abbrev pub is_marked : List Bool → ℕ → Bool
is_marked flags q = slice_index_or flags q false

-- there is a flag for each square, set exactly where the square is live
pub record AreLiveFlags (board : Board) (flags : List Bool) : Type 0 where
  pub size : length flags ≡ length board.cells
  pub right : (q : ℕ) → (is_marked flags q ≡ true) ↔ Live board q

-- the distance of the square that is known
abbrev pub far_at : List (Option ℕ) → ℕ → Option ℕ
far_at far q = slice_index_or far q None

-- there is an entry for each square: its distance, or none where it is dead
pub record AreDistances (board : Board) (far : List (Option ℕ)) : Type 0 where
  pub size : length far ≡ length board.cells
  pub known : (q n : ℕ) → far_at far q ≡ Some n → IsFar board q n
  pub dead : (q : ℕ) → far_at far q ≡ None → IsDead board q

-- a box on the square can be pulled one square on: neither that square nor the one beyond, where the player goes, is
-- a wall
abbrev pub CanPull : Board → ℕ → Dir → Type 0
CanPull board q d = (is_wall board (next board q d) ≡ false) × (is_wall board (next board (next board q d) d) ≡ false)

-- where the square has no distance it gets k, and is put at the end of the list
abbrev pub Marks : ℕ → ℕ → List (Option ℕ) → List ℕ → List (Option ℕ) → List ℕ → Type 0
Marks k q far marked far' marked' =
    (far' ≡ cond (is_some (far_at far q)) far (slice_set far q (Some k))) ×
    (marked' ≡ cond (is_some (far_at far q)) marked (marked ++ q ∷ []))

-- where a box can be pulled in the direction, the square that it comes to is marked; elsewhere nothing changes
abbrev pub Pulls : Board → ℕ → ℕ → Dir → List (Option ℕ) → List ℕ → List (Option ℕ) → List ℕ → Type 0
Pulls board k q d far marked far' marked' =
    (CanPull board q d × Marks k (next board q d) far marked far' marked') ⊎
    (¬ (CanPull board q d) × (far' ≡ far) × (marked' ≡ marked))

-- n pushes bring a lone box from the square to a goal
abbrev pub HasWay : Board → ℕ → ℕ → Type 0
HasWay board q n = (way : Live board q) × (pushes_of way ≡ n)

-- the square's distance is known, and m at most
abbrev pub IsKnownWithin : List (Option ℕ) → ℕ → ℕ → Type 0
IsKnownWithin far q m = (n : ℕ) × (far_at far q ≡ Some n) × (n ≤ m)

-- in turn k the goals that are asked for have distance 0, each known distance is that of a way and k at most, those
-- due have one less than k and those marked k; from each other square that is known a box was pulled in the
-- directions that are due
pub record IsSpread (board : Board) (Asked : ℕ → Type 0) (Due : ℕ → Dir → Type 0) (k : ℕ) (far : List (Option ℕ))
    (due marked : List ℕ) : Type 0 where
  pub size : length far ≡ length board.cells
  pub sound : (q n : ℕ) → far_at far q ≡ Some n → HasWay board q n
  pub goals : (q : ℕ) → Asked q → is_goal board q ≡ true → far_at far q ≡ Some 0
  pub most : (q n : ℕ) → far_at far q ≡ Some n → n ≤ k
  pub before : (q : ℕ) → contains due q ≡ true → (n : ℕ) × (far_at far q ≡ Some n) × (suc n ≡ k)
  pub last : (q : ℕ) → contains marked q ≡ true → far_at far q ≡ Some k
  pub closed : (q n : ℕ) → far_at far q ≡ Some n → (contains due q ≡ true) ⊎
      ((contains marked q ≡ true) ⊎
      ((d : Dir) → Due q d → CanPull board q d → IsKnownWithin far (next board q d) (suc n)))

-- all goals, and pulls in all directions
abbrev pub IsFilling : Board → ℕ → List (Option ℕ) → List ℕ → List ℕ → Type 0
IsFilling board k far due marked = IsSpread board (λ _. Unit {0}) (λ _ _. Unit {0}) k far due marked

-- from the square s a box was pulled in the first i directions, from all others in all
abbrev pub DueBut : ℕ → ℕ → ℕ → Dir → Type 0
DueBut s i q d = q ≡ s → dir_number d < i

-- a box is pulled from the square, which was due, and was in the first i directions
pub record IsDue (board : Board) (k s i : ℕ) (far : List (Option ℕ)) (due marked : List ℕ) : Type 0 where
  pub here : (n : ℕ) × (far_at far s ≡ Some n) × (suc n ≡ k)
  pub spread : IsSpread board (λ _. Unit {0}) (DueBut s i) k far due marked

-- how many squares have no distance yet
abbrev pub unknown : List (Option ℕ) → ℕ
unknown [] = 0
unknown (Some n ∷ far) = unknown far
unknown (None ∷ far) = suc (unknown far)

-- after a turn nothing is due, and each square that was marked was unknown before
pub record IsTurn (board : Board) (k : ℕ) (far : List (Option ℕ)) (marked : List ℕ) (far' : List (Option ℕ))
    (due' marked' : List ℕ) : Type 0 where
  pub filling : IsFilling board k far' [] marked'
  pub none : due' ≡ []
  pub count : length marked' + unknown far' ≤ length marked + unknown far

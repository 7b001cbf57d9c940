-- Ways of lone boxes to goals, and the distances that pulls find of them.
use Rattle.std.proofs.Common.{◌≡◌, ◌≤◌, ℕ, suc, true, false, is_some, MatchOption, Option, Some, None, List, [], get_or, refl, sym, ap}
use Rattle.std.proofs.Common.{subst, ◌∙◌, inl, inr, arith}
use Rattle.std.proofs.lemmas.Bool.{false≢true}
use Rattle.grid.specs.declared.dir.Dir.{Dir}
use Rattle.grid.specs.declared.cell.Cell.{Cell}
use Rattle.grid.specs.declared.cell.Cell.TheVariants.{Wall, Floor, Goal, Box, BoxOnGoal, Player, PlayerOnGoal}
use Rattle.grid.specs.Board.{Board, wall_cell, goal_cell, is_wall, is_goal, next, opposite}
use Rattle.grid.proofs.lemmas.Steps.{next_back, opposite_twice}
use Rattle.doom.specs.Deadlocks.{Live, home, onward, IsDead}
use Rattle.doom.specs.Bounds.{IsFar, pushes_of}
use Rattle.doom.specs.inside.Pulling.{far_at, AreDistances, CanPull, HasWay, IsKnownWithin, IsFilling}

-- a goal is no wall, and so no live square is
goal_no_wall : (c : Cell) → goal_cell c ≡ true → wall_cell c ≡ false
goal_no_wall Wall goal = absurd (false≢true goal)
goal_no_wall Floor goal = refl
goal_no_wall Goal goal = refl
goal_no_wall Box goal = refl
goal_no_wall BoxOnGoal goal = refl
goal_no_wall Player goal = refl
goal_no_wall PlayerOnGoal goal = refl

pub goal_floor : (board : Board) (q : ℕ) → is_goal board q ≡ true → is_wall board q ≡ false
unfolding is_goal is_wall
goal_floor board q goal = goal_no_wall (get_or board.cells q Wall) goal

pub live_floor : (board : Board) (q : ℕ) → Live board q → is_wall board q ≡ false
live_floor board q (home goal) = goal_floor board q goal
live_floor board q (onward d floor ahead behind live) = floor

-- a pull makes a way one push longer
pub way_pulled : (board : Board) (q n : ℕ) (d : Dir) → HasWay board q n → CanPull board q d → HasWay board (next board q d) (suc n)
way_pulled board q n d (way, count) (from, behind) =
    let back = next_back board q d (live_floor board q way) from in
    let moved : HasWay board (next board (next board q d) (opposite d)) n = subst (λ x. HasWay board x n) (sym back) (way, count) in (
      onward (opposite d) from (ap (is_wall board) back ∙ live_floor board q way)
          (ap (λ e. is_wall board (next board (next board q d) e)) (opposite_twice d) ∙ behind)
          moved.0,
      ap suc moved.1,
    )

-- where the goals are known and pulls lead to what is known, each way is as long as the distance at least
pub known_within : (board : Board) (far : List (Option ℕ)) → ((q : ℕ) → is_goal board q ≡ true → far_at far q ≡ Some 0) →
    ((q n : ℕ) (d : Dir) → far_at far q ≡ Some n → CanPull board q d → IsKnownWithin far (next board q d) (suc n)) → (q : ℕ) (way : Live board q) →
    IsKnownWithin far q (pushes_of way)
known_within board far goals closed q (home goal) = (0, goals q goal, omega arith)
known_within board far goals closed q (onward d floor ahead behind way) =
    let back = next_back board q d floor ahead in
    let (n, at, le) = known_within board far goals closed (next board q d) way in
    let pulled = closed (next board q d) n (opposite d) at (
      ap (is_wall board) back ∙ floor,
      ap (λ p. is_wall board (next board p (opposite d))) back ∙
          behind,
    ) in
    let (m, known, more) = subst (λ p. IsKnownWithin far p (suc n)) back pulled in
    (m, known, omega (arith, le, more))

pub some_injective : (far : List (Option ℕ)) (q m n : ℕ) → far_at far q ≡ Some m → far_at far q ≡ Some n → m ≡ n
some_injective far q m n one other = grind arith

pub none_not_some : (far : List (Option ℕ)) (q n : ℕ) → far_at far q ≡ None → far_at far q ≡ Some n → ⊥
none_not_some far q n none known = false≢true (ap is_some (sym none ∙ known))

-- where nothing is left to do, the distances are those of the squares
pub filled : (board : Board) (k : ℕ) (far : List (Option ℕ)) → IsFilling board k far [] [] → AreDistances board far
filled board k far spread = record {
  size = spread.size;
  known = λ q n at. (
    spread.sound q n at,
    λ way. let (m, known, le) = least q way in subst (λ x. x ≤ pushes_of way) (some_injective far q m n known at) le,
  );
  dead = λ q none way. let (m, known, le) = least q way in none_not_some far q m none known;
}
  where
    closed : (q n : ℕ) (d : Dir) → far_at far q ≡ Some n → CanPull board q d → IsKnownWithin far (next board q d) (suc n)
    closed q n d at pull = elim (spread.closed q n at) [
      | inl none ↦ absurd (false≢true none)
      | inr (inl none) ↦ absurd (false≢true none)
      | inr (inr all) ↦ all d tt pull
    ]

    least : (q : ℕ) (way : Live board q) → IsKnownWithin far q (pushes_of way)
    least q way = known_within board far (λ g goal. spread.goals g tt goal) closed q way

-- what the list tells of a square
pub distance_of : (board : Board) (far : List (Option ℕ)) (q : ℕ) (o : Option ℕ) → o ≡ far_at far q → AreDistances board far →
    MatchOption o (IsDead board q) (λ n. IsFar board q n)
distance_of board far q None e distances = distances.dead q (sym e)
distance_of board far q (Some n) e distances = distances.known q n (sym e)

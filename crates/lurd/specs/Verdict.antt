-- What the rules say of letters that are played on a level.
use Rattle.std.specs.Prelude.{◌≡◌, ℕ, ◌+◌, Bool, true, false, not, if◌then◌else◌, List, [], ◌∷◌, ◌⊎◌}
use Rattle.grid.specs.declared.dir.Dir.{Dir}
use Rattle.grid.specs.declared.moves.Letter.{Letter}
use Rattle.grid.specs.Board.{Board, Scene, Walks, Pushes, IsSolved, start}
use Rattle.lurd.specs.declared.verdict.Verdict.{Verdict}
use Rattle.lurd.specs.declared.verdict.Verdict.TheVariants.{Solved, Unsolved, Blocked, WrongCase}

-- t is the state after a step in the direction: a push for a letter in upper case, a walk for one in lower case
abbrev pub StepsAs : Board → Scene → Dir → Bool → Scene → Type 0
StepsAs board s dir true t = Pushes board s dir t
StepsAs board s dir false t = Walks board s dir t

-- no step is possible in the letter's direction
abbrev pub IsBlocked : Board → Scene → Letter → Type 0
IsBlocked board s letter =
    ((t : Scene) → ¬ (Walks board s letter.dir t)) × ((t : Scene) → ¬ (Pushes board s letter.dir t))

-- a step is possible in the letter's direction, but it is one for the other case
abbrev pub HasWrongCase : Board → Scene → Letter → Type 0
HasWrongCase board s letter = (t : Scene) × StepsAs board s letter.dir (not letter.push) t

-- the verdict on letters that are played from the state s, to which these numbers of pushes and moves led.  Without
-- letters s is solved or not.  Else the first letter is blocked, or has the wrong case, or is a step, and then the
-- verdict is that on the others from the state after it
abbrev pub IsVerdictFrom : Board → Scene → ℕ → ℕ → List Letter → Verdict → Type 0
IsVerdictFrom board s pushes moves [] v =
    (IsSolved board s × (v ≡ Solved pushes moves)) ⊎ ((¬ (IsSolved board s)) × (v ≡ Unsolved pushes moves))
IsVerdictFrom board s pushes moves (x ∷ xs) v =
    (IsBlocked board s x × (v ≡ Blocked (moves + 1))) ⊎
    ((HasWrongCase board s x × (v ≡ WrongCase (moves + 1))) ⊎
    ((t : Scene) × StepsAs board s x.dir x.push t ×
    IsVerdictFrom board t (if x.push then pushes + 1 else pushes) (moves + 1) xs v))

-- the verdict on the letters, played from the level's start
abbrev pub IsVerdict : Board → List Letter → Verdict → Type 0
IsVerdict board letters v = IsVerdictFrom board (start board) 0 0 letters v

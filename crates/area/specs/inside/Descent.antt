-- How a walk is read off the marks of a search that began where the walk leads: each step goes to a square with a
-- mark one less.
use Rattle.std.specs.Prelude.{◌≡◌, ℕ, suc, ◌<◌, ◌≤◌, List, [], ◌∷◌, ◌++◌}
use Rattle.grid.specs.declared.dir.Dir.{Dir}
use Rattle.grid.specs.declared.moves.Letter.{Letter}
use Rattle.grid.specs.Board.{Board, next, dir_number}
use Rattle.area.specs.LeastWalks.{walk_letters}

-- the mark of the square next to q in the direction is one less than the mark of q
abbrev pub IsDown : Board → (ℕ → ℕ) → ℕ → Dir → Type 0
IsDown board mark q d = suc (mark (next board q d)) ≡ mark q

-- the direction is the first that goes down, in the order d, l, r, u
abbrev pub IsFirstDown : Board → (ℕ → ℕ) → ℕ → Dir → Type 0
IsFirstDown board mark q d = IsDown board mark q d × ((e : Dir) → IsDown board mark q e → dir_number d ≤ dir_number e)

-- these steps lead from q over reached squares to the square `to`, each in the first direction that goes down
pub data IsDescent (board : Board) (base to : ℕ) (mark : ℕ → ℕ) : ℕ → List Dir → Type 0 where
  arrived : IsDescent board base to mark to []
  onward : {q : ℕ} {d : Dir} {ds : List Dir} → base < mark (next board q d) → IsFirstDown board mark q d →
      IsDescent board base to mark (next board q d) ds →
      IsDescent board base to mark q (d ∷ ds)

-- during a descent: the letters so far are those of steps from the first square to q, and a descent from q completes
-- one from the first square
pub record IsDescending (board : Board) (base to : ℕ) (mark : ℕ → ℕ) (first q : ℕ) (before now : List Letter) : Type 0
  where
    pub ds : List Dir
    pub letters : now ≡ before ++ walk_letters ds
    pub rest : (es : List Dir) → IsDescent board base to mark q es → IsDescent board base to mark first (ds ++ es)

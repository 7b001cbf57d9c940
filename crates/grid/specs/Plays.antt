-- Plays, solutions, and the order among solutions.
use Rattle.std.specs.Prelude.{◌≡◌, true, false, List, [], ◌∷◌, length}
use Rattle.std.specs.declared.cmp.Ordering.{Ordering}
use Rattle.std.specs.Ordering.{nat_cmp, ordering_then, is_gt}
use Rattle.std.specs.Cmp.Lexicographic.{slice_cmp}
use Rattle.grid.specs.declared.dir.Dir.{Dir}
use Rattle.grid.specs.declared.square.Push.{Push}
use Rattle.grid.specs.declared.moves.Letter.{Letter}
use Rattle.grid.specs.Board.{Board, Scene, Walks, Pushes, IsSolved, next, start, dir_cmp, push_cmp}

-- the push that a step in a direction makes: the square that the box leaves, and the direction
abbrev pub push_at : Board → Scene → Dir → Push
push_at board s d = record { square = next board s.player d; dir = d }

-- a play from s to t: steps one after the other through states that are all ok, with the steps' directions and the
-- list of pushes
pub data Play (board : Board) (ok : Scene → Type 0) : Scene → List Dir → List Push → Scene → Type 0 where
  stay : {s : Scene} → ok s → Play board ok s [] [] s
  walk : {s m t : Scene} {d : Dir} {ds : List Dir} {ps : List Push} → ok s → Walks board s d m →
      Play board ok m ds ps t → Play board ok s (d ∷ ds) ps t
  push : {s m t : Scene} {d : Dir} {ds : List Dir} {ps : List Push} → ok s → Pushes board s d m →
      Play board ok m ds ps t →
      Play board ok s (d ∷ ds) (push_at board s d ∷ ps) t

-- any state at all
abbrev pub Any : Scene → Type 0
Any s = Unit {0}

-- a play from the start to a state in which every box is on a goal
abbrev pub IsSolution : Board → List Dir → List Push → Type 0
IsSolution board ds ps = (t : Scene) × Play board Any (start board) ds ps t × IsSolved board t

-- the shorter list comes first; of two lists of one length, the one that is less where they first differ
abbrev pub shortlex : {P : Type 0} → (P → P → Ordering) → List P → List P → Ordering
shortlex cmp ps qs = ordering_then (nat_cmp (length ps) (length qs)) (slice_cmp cmp ps qs)

-- the first solution: none has fewer pushes, or else a lesser push list, or else fewer moves, or else a lesser text
abbrev pub IsLeastSolution : Board → List Dir → List Push → Type 0
IsLeastSolution board ds ps =
    IsSolution board ds ps ×
    ((es : List Dir) (qs : List Push) → IsSolution board es qs →
    is_gt (ordering_then (shortlex push_cmp ps qs) (shortlex dir_cmp ds es)) ≡ false)

-- the directions of a list of letters
abbrev pub dirs_of : List Letter → List Dir
dirs_of [] = []
dirs_of (x ∷ xs) = x.dir ∷ dirs_of xs

-- the letters that write a play: the direction of each step, and whether it pushes
abbrev pub letters_of : {board : Board} {ok : Scene → Type 0} {s t : Scene} {ds : List Dir} {ps : List Push} → Play
    board ok s ds ps t → List Letter
letters_of (stay here) = []
letters_of (walk {d = d} here step rest) = record { dir = d; push = false } ∷ letters_of rest
letters_of (push {d = d} here step rest) = record { dir = d; push = true } ∷ letters_of rest

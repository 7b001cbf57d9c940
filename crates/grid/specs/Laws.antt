-- What the laws of states, positions and solutions speak of.
use Rattle.std.specs.Prelude.{◌≡◌, false, List, length}
use Rattle.std.specs.declared.cmp.Ordering.{Ordering}
use Rattle.std.specs.Ordering.{nat_cmp, ordering_then, is_gt}
use Rattle.std.specs.Cmp.Lexicographic.{slice_cmp}
use Rattle.grid.specs.declared.dir.Dir.{Dir}
use Rattle.grid.specs.declared.square.Push.{Push}
use Rattle.grid.specs.Board.{Scene, dir_cmp, push_cmp}
use Rattle.grid.specs.Plays.{shortlex}

-- t has as many boxes as s
abbrev pub HasAsManyBoxes : Scene → Scene → Type 0
HasAsManyBoxes s t = length t.boxes ≡ length s.boxes

-- positions are ordered by the boxes, square by square, then by the player's square
abbrev pub scene_cmp : Scene → Scene → Ordering
scene_cmp s t = ordering_then (slice_cmp nat_cmp s.boxes t.boxes) (nat_cmp s.player t.player)

-- the order of solutions: fewer pushes, then the lesser push list, then fewer moves, then the lesser text
abbrev pub solution_cmp : List Dir → List Push → List Dir → List Push → Ordering
solution_cmp ds ps es qs = ordering_then (shortlex push_cmp ps qs) (shortlex dir_cmp ds es)

-- the directions ds with the pushes ps do not come after es with qs in that order
abbrev pub NotAfter : List Dir → List Push → List Dir → List Push → Type 0
NotAfter ds ps es qs = is_gt (solution_cmp ds ps es qs) ≡ false

-- The lead of a position.
use Rattle.std.specs.Prelude.{List}
use Rattle.grid.specs.declared.square.Push.{Push}
use Rattle.grid.specs.Board.{Board, Scene, push_cmp}
use Rattle.successors.specs.Layered.{IsLead}
use Rattle.successors.specs.Reaching.{Reaches}

-- ps is the lead of n: the least push list through undoomed positions that leads there
abbrev pub IsLeadOf : Board → Scene → List Push → Type 0
IsLeadOf board n ps = IsLead push_cmp (Reaches board) n ps

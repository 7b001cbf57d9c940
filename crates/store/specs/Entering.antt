-- The open positions after offers, and how a close appends them to the closed ones.
use Rattle.std.specs.Prelude.{◌≡◌, ℕ, ◌<◌, Bool, false, ◌==◌, ◌&&◌, not, List, [], ◌∷◌, ◌++◌, length, map}
use Rattle.std.specs.Prelude.{slice_get, Some, is_some, if◌then◌else◌}
use Rattle.std.specs.Map.{lookup}
use Rattle.grid.specs.declared.square.Push.{Push}
use Rattle.grid.specs.Board.{Scene, push_cmp}
use Rattle.successors.specs.declared.parcel.Successor.{Successor}
use Rattle.std.specs.Ordering.{is_gt}
use Rattle.store.specs.Entries.{Origin, origin_cmp, OpenEntry, lesser, same_scene, Closed, origin_of}
use Rattle.successors.specs.Distances.{AreDistinct}
use Rattle.successors.specs.Shares.{share_of}

-- a position is offered with an origin: an open one keeps the lesser of its two origins, and a new one is appended
abbrev pub offered : List (OpenEntry Scene Push) → Scene → Origin Push → List (OpenEntry Scene Push)
offered [] m o = (m, o) ∷ []
offered (e ∷ es) m o = if same_scene m e.0 then (e.0, lesser push_cmp e.1 o) ∷ es else e ∷ offered es m o

-- the position is of the share and not closed
abbrev pub is_wanted_in : List Closed → ℕ → ℕ → Scene → Bool
is_wanted_in seen shares share m = (share_of shares m == share) && not (is_some (lookup (same_scene m) seen))

-- a successor of a rank enters if its position is wanted
abbrev pub entered : (Scene → Bool) → ℕ → List (OpenEntry Scene Push) → Successor → List (OpenEntry Scene Push)
entered wanted rank waiting s = if wanted s.position then offered waiting s.position (rank, s.push) else waiting

-- an open entry as an entry of a closed list
abbrev pub closed_entry : OpenEntry Scene Push → Closed
closed_entry y = (y.0, Some y.1)

-- the origins never fall along the list
abbrev pub RiseByOrigin : List (OpenEntry Scene Push) → Type 0
RiseByOrigin es = (i j : ℕ) (x y : OpenEntry Scene Push) → i < j → slice_get es i ≡ Some x → slice_get es j ≡ Some y →
    is_gt (origin_cmp push_cmp x.1 y.1) ≡ false

-- the same entries, perhaps in another order: the same number, each position with the same origin, and none twice
abbrev pub AreReordered : List (OpenEntry Scene Push) → List (OpenEntry Scene Push) → Type 0
AreReordered before after = (length after ≡ length before) × ((m : Scene) → origin_of after m ≡ origin_of before m) ×
    AreDistinct (map (λ e. e.0) after)

-- the open entries are appended to the closed ones, in the order of their origins
abbrev pub IsSortedAppend : List Closed → List (OpenEntry Scene Push) → List Closed → Type 0
IsSortedAppend seen waiting after =
    (es : List (OpenEntry Scene Push)) × AreReordered waiting es × RiseByOrigin es × (after ≡ seen ++ map closed_entry es)

-- Entries: closed and open positions with their origins.
use Rattle.std.specs.Prelude.{ℕ, List, Option, [], ◌∷◌, ◌++◌, if◌then◌else◌, Bool, ◌==◌, nat_eq, ◌&&◌, map}
use Rattle.std.specs.declared.cmp.Ordering.{Ordering}
use Rattle.std.specs.Ordering.{nat_cmp, ordering_then, is_lt}
use lib.Pointwise.{pointwise}
use Rattle.grid.specs.declared.square.Push.{Push}
use Rattle.grid.specs.Board.{Scene}
use Rattle.std.specs.Map.{lookup}
use Rattle.std.specs.Option.{option_to_list}

-- how a search reached a position: the rank in the layer before, and the push
abbrev pub Origin : Type 0 → Type 0
Origin P = ℕ × P

-- origins are ordered by the rank, then by the push
abbrev pub origin_cmp : {P : Type 0} → (P → P → Ordering) → Origin P → Origin P → Ordering
origin_cmp cmp a b = ordering_then (nat_cmp a.0 b.0) (cmp a.1 b.1)

-- the lesser of two origins
abbrev pub lesser : {P : Type 0} → (P → P → Ordering) → Origin P → Origin P → Origin P
lesser cmp a b = if is_lt (origin_cmp cmp b a) then b else a

-- a position with its origin
abbrev pub OpenEntry : Type 0 → Type 0 → Type 0
OpenEntry N P = N × Origin P

-- the two positions have the same boxes and the same player
abbrev pub same_scene : Scene → Scene → Bool
same_scene m n = pointwise nat_eq m.boxes n.boxes && (m.player == n.player)

-- a closed position with its parent's rank and its push; in layer 0 it has neither
abbrev pub Closed : Type 0
Closed = Scene × Option (Origin Push)

-- the positions of a closed list
abbrev pub places_of : List Closed → List Scene
places_of es = map (λ e. e.0) es

-- the origins of a closed list; positions without one are skipped
abbrev pub origins_of : List Closed → List (Origin Push)
origins_of [] = []
origins_of (e ∷ es) = option_to_list e.1 ++ origins_of es

-- the origin of a position, if it is open
abbrev pub origin_of : List (OpenEntry Scene Push) → Scene → Option (Origin Push)
origin_of waiting m = lookup (same_scene m) waiting

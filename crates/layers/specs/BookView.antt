-- What contracts see of a book, and the invariant of each: a book is lawful.
use Rattle.std.specs.Prelude.{◌≡◌, ℕ, zero, suc, ◌+◌, ◌-◌, ◌^◌, ◌<◌, ◌≤◌, Bool, true, false, List, [], length, map, sum}
use Rattle.std.specs.Prelude.{take, count_by, slice_get}
use Rattle.std.specs.Prelude.{slice_index_or, Option, None, Some}
use Rattle.grid.specs.declared.square.Push.{Push}
use Rattle.grid.specs.Board.{Scene, push_cmp}
use Rattle.grid.specs.States.{FitsLevel}
use Rattle.grid.specs.Lawful.{IsLevel}
use Rattle.successors.specs.declared.limits.TheConstants.{MAX_SHARES}
use Rattle.layers.specs.declared.limits.TheConstants.{MAX_WORKERS, MOST_POSITIONS}
use Rattle.successors.specs.Layered.{IsIn, IsLayer}
use Rattle.store.specs.Entries.{Origin, OpenEntry, Closed, places_of, origin_of}
use Rattle.successors.specs.Distances.{AreDistinct, IsAtDistance}
use Rattle.layers.specs.Openings.{IsOpening}
use Rattle.successors.specs.Problems.{Problem}
use Rattle.successors.specs.Capping.{Admits}
use Rattle.successors.specs.Reaching.{Reaches, AreLayersOf, total}
use Rattle.successors.specs.Expansion.{IsSuccessor}
use Rattle.layers.specs.Origins.{HasOrigin}
use Rattle.successors.specs.Shares.{share_of}

-- a book: what it was made with, the level with its cap first; its closed layers, layer 0 first; whether the last one
-- has begun, and then marks over its ranks; the open positions, each with its least origin; for each
-- worker the number of ranks that it handed back; and whether the limit was passed
pub record BookView : Type 0 where
  pub level : Problem
  pub limit : ℕ
  pub workers : ℕ
  pub share : ℕ
  pub shares : ℕ
  pub closed : List (List Closed)
  pub begun : Bool
  pub claimed : List Bool
  pub done : List Bool
  pub waiting : List (OpenEntry Scene Push)
  pub tallies : List ℕ
  pub over : Bool

-- the number of the last closed layer
abbrev pub last_layer : BookView → ℕ
last_layer v = length v.closed - 1

-- the last closed list
abbrev pub last_list : BookView → List Closed
last_list v = slice_index_or v.closed (last_layer v) []

-- a position of the book's share
abbrev pub InShare : BookView → Scene → Type 0
InShare v m = share_of v.shares m ≡ v.share

-- a position of the book's share that is admitted in the layer after the last closed one
abbrev pub IsKept : BookView → Scene → Type 0
IsKept v m = InShare v m × Admits v.level (length v.closed) m

-- a closed position of layer k beyond layer 0 has its parent's rank and its push; one of layer 0 has none
abbrev pub HasClosedOrigin : Problem → ℕ → Scene → Option (Origin Push) → Type 0
HasClosedOrigin problem zero m o = o ≡ None
HasClosedOrigin problem (suc k) m None = ⊥
HasClosedOrigin problem (suc k) m (Some o) = HasOrigin problem k m o

-- es is layer k cut down to the positions of one share, in the order of the leads, each with its origin
pub record IsShareOfLayer (problem : Problem) (shares share k : ℕ) (es : List Closed) : Type 0 where
  pub layer : IsLayer push_cmp (Reaches problem.board) (λ j m. (share_of shares m ≡ share) ×
      Admits problem j m) k (places_of es)
  pub origins : (i : ℕ) (m : Scene) (o : Option (Origin Push)) → slice_get es i ≡ Some (m, o) →
      HasClosedOrigin problem k m o
  pub fits : (i : ℕ) (m : Scene) (o : Option (Origin Push)) → slice_get es i ≡ Some (m, o) → FitsLevel problem.board m

-- the lists are all the shares of layer k, share 0 first
pub record AreSharesOfLayer (problem : Problem) (shares k : ℕ) (lists : List (List Closed)) : Type 0 where
  pub all : length lists ≡ shares
  pub each : (t : ℕ) (es : List Closed) → slice_get lists t ≡ Some es → IsShareOfLayer problem shares t k es

-- the rank was handed back
abbrev pub IsDone : BookView → ℕ → Type 0
IsDone v r = slice_index_or v.done r false ≡ true

-- with those of the next layer, the book's share has more positions than the limit
pub record IsPassed (v : BookView) : Type 0 where
  pub places : List Scene
  pub distinct : AreDistinct places
  pub next : (m : Scene) → IsIn places m → InShare v m × IsAtDistance v.level m (length v.closed)
  pub passed : v.limit < total v.closed + length places

-- the numbers that a book is made with
pub record AreBounds (limit workers share shares : ℕ) : Type 0 where
  pub limits : (1 ≤ limit) × (limit < 2 ^ 32)
  pub crew : (1 ≤ workers) × (workers ≤ MAX_WORKERS + 1)
  pub dealt : (share < shares) × (shares ≤ MAX_SHARES)

-- a book is lawful.  wholes is the layers that it has seen whole: those before the last closed one, and that one
-- too once it has begun.
pub record IsLawfulBook (v : BookView) : Type 0 where
  pub level : IsLevel v.level.board
  pub bounds : AreBounds v.limit v.workers v.share v.shares
  pub some : 1 ≤ length v.closed
  pub closed : (k : ℕ) (es : List Closed) → slice_get v.closed k ≡ Some es →
      IsShareOfLayer v.level v.shares v.share k es
  pub wholes : List (List Scene)
  pub whole : AreLayersOf v.level wholes
  pub few : total wholes ≤ MOST_POSITIONS
  pub begun : v.begun ≡ true → (length wholes ≡ length v.closed) × (length v.claimed ≡ length v.done)
      × (length v.done ≡ length (slice_index_or wholes (last_layer v) []))
  pub not_begun : v.begun ≡ false → (length wholes ≡ last_layer v) × (v.claimed ≡ []) × (v.done ≡ []) × (v.waiting ≡ [])
  pub waiting : v.begun ≡ true →
      IsOpening push_cmp (IsSuccessor v.level.board) (IsKept v) (λ j. slice_index_or wholes j []) (last_layer v)
      (λ r p. IsDone v r)
      (origin_of v.waiting)
  pub distinct : AreDistinct (map (λ e. e.0) v.waiting)
  pub fits : (m : Scene) → IsIn (map (λ e. e.0) v.waiting) m → FitsLevel v.level.board m
  pub tallies : (length v.tallies ≡ v.workers) ×
      (sum v.tallies ≡ total (take (last_layer v) wholes) + count_by (λ b. b) v.done)
  pub within : total v.closed + length v.waiting ≤ v.limit
  pub over : v.over ≡ true → IsPassed v × ((r : ℕ) × (r < length v.done) × (slice_index_or v.done r true ≡ false))

-- each of the books is lawful
abbrev pub AreLawfulBooks : List BookView → Type 0
AreLawfulBooks books = (i : ℕ) (v : BookView) → slice_get books i ≡ Some v → IsLawfulBook v

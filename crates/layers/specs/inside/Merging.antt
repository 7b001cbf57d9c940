-- Lists that are merged by their origins: each step takes the least first entry of all.
use Rattle.std.specs.Prelude.{◌≡◌, ℕ, false, List, [], ◌∷◌, ◌++◌, length, slice_get, slice_set, Option, Some, None}
use Rattle.std.specs.Ordering.{is_gt}
use Rattle.grid.specs.declared.square.Push.{Push}
use Rattle.grid.specs.Board.{push_cmp}
use Rattle.store.specs.Entries.{Origin, origin_cmp, Closed, places_of, origins_of}
use Rattle.successors.specs.Reaching.{total}
use Rattle.store.specs.FoundView.{origin_in}
use Rattle.store.specs.inside.Copies.{squares_of}

-- the origin of the first entry, if there is one
abbrev pub first_origin : List Closed → Option (Origin Push)
first_origin [] = None
first_origin (e ∷ es) = Some (origin_in e.1)

-- list s begins with e, and no list begins with an entry of a lesser origin
pub record IsLeastFirst (rests : List (List Closed)) (s : ℕ) (e : Closed) (rest : List Closed) : Type 0 where
  pub here : slice_get rests s ≡ Some (e ∷ rest)
  pub least : (t : ℕ) (f : Closed) (more : List Closed) → slice_get rests t ≡ Some (f ∷ more) →
      is_gt (origin_cmp push_cmp (origin_in e.1) (origin_in f.1)) ≡ false

-- list s has the least first entry
abbrev pub HasLeastFirst : List (List Closed) → ℕ → Type 0
HasLeastFirst rests s = (e : Closed) × (rest : List Closed) × IsLeastFirst rests s e rest

-- the entries were taken from the lists in order, each the least first one, and the rests remain
pub data Takes (lists : List (List Closed)) : List Closed → List (List Closed) → Type 0 where
  nothing : Takes lists [] lists
  one : {taken : List Closed} {rests : List (List Closed)} {s : ℕ} {e : Closed} {rest : List Closed} →
      Takes lists taken rests → IsLeastFirst rests s e rest →
      Takes lists (taken ++ e ∷ []) (slice_set rests s rest)

-- the entries are the lists merged: they were taken so, and nothing remains
abbrev pub IsMerged : List (List Closed) → List Closed → Type 0
IsMerged lists es = (rests : List (List Closed)) × Takes lists es rests × (total rests ≡ 0)

-- the squares and the origins are those of the lists merged, and count is the number of entries
pub record AreMerged (lists : List (List Closed)) (count : ℕ) (squares : List ℕ) (origins : List (Origin Push)) : Type
    0 where
  pub entries : List Closed
  pub merged : IsMerged lists entries
  pub counted : count ≡ length entries
  pub squares_are : squares ≡ squares_of (places_of entries)
  pub origins_are : origins ≡ origins_of entries

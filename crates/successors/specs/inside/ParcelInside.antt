-- What contracts see of a parcel's fields.
use Rattle.std.specs.Prelude.{ℕ, List, take}
use Rattle.successors.specs.Problems.{Problem}
use Rattle.successors.specs.declared.parcel.Successor.{Successor}
use Rattle.successors.specs.ParcelView.{ParcelView}

-- a parcel whose successors are the first `count` of these
abbrev pub parcel_of : Problem → ℕ → ℕ → List Successor → ℕ → ParcelView
parcel_of level layer rank slots count =
    record { level = level; layer = layer; rank = rank; successors = take count slots }

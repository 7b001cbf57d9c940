-- What contracts see of a source and of a sink.
use Rattle.std.specs.Prelude.{◌≡◌, ℕ, ◌≤◌, List, [], ◌∷◌, ◌++◌, length, Option, Some, None, ⊤}

-- what one read or one write did: it moved these bytes, or it failed; a read that moves none is the source's end
pub data Act : Type 0 where
  moved : List ℕ → Act
  failed : Act

-- what an end did so far, in order, and the bytes that a source has left or a sink holds, where these are known
pub record Seen : Type 0 where
  pub acts : List Act
  pub known : Option (List ℕ)

-- an end that did nothing yet
abbrev pub untouched_end : Option (List ℕ) → Seen
untouched_end known = record { acts = []; known = known }

-- acts that each moved some bytes, after those before, and all the bytes that they moved
pub data Pass (before : List Act) : List Act → List ℕ → Type 0 where
  none : Pass before before []
  more : {acts : List Act} {bytes : List ℕ} (part : List ℕ) → Pass before acts bytes → 1 ≤ length part
      → Pass before (acts ++ moved part ∷ []) (bytes ++ part)

-- where the bytes that were left are known, they were these, and none is left
abbrev pub WereAll : Option (List ℕ) → Option (List ℕ) → List ℕ → Type 0
WereAll None new bytes = ⊤
WereAll (Some all) None bytes = ⊥
WereAll (Some all) (Some left) bytes = (all ≡ bytes) × (left ≡ [])

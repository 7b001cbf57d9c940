-- What contracts see of a corral, and what its sets keep.
use Rattle.std.specs.Prelude.{◌≡◌, ℕ, length}
use Rattle.grid.specs.Masks.{word_count}
use Rattle.corrals.specs.declared.corral.Corral.TheInside.{Inside}
use Rattle.corrals.specs.declared.corral.Sets.{Sets}
use Rattle.corrals.specs.Sets.{SetsView}

abbrev pub sets_view : Inside → SetsView
sets_view a = record { held = a.sets.held; room = a.sets.room }

-- both sets have capacity for this number of squares
abbrev pub HasRoom : ℕ → Sets → Type 0
HasRoom squares a = (length a.held ≡ word_count squares) × (length a.room ≡ word_count squares)

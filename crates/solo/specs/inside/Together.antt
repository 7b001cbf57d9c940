-- Books that pass the limit together.
use Rattle.std.specs.Prelude.{◌≡◌, ℕ, ◌<◌, ◌⊎◌, true, List, slice_get, Some}
use Rattle.layers.specs.LayerView.{LayerView}
use Rattle.layers.specs.BookView.{BookView, AreLawfulBooks}
use Rattle.layers.specs.Holding.{all_held, held}
use Rattle.layers.specs.Books.{AllDone, HasBegun}
use Rattle.layers.specs.Events.{AreMadeAlike}
use Rattle.solo.specs.inside.Iterations.{HaveChanged}

-- the book is over, or holds more than most positions
abbrev pub IsFullBook : ℕ → BookView → Type 0
IsFullBook most book = (book.over ≡ true) ⊎ (most < held book)

-- one of the books is over
abbrev pub IsOneOver : List BookView → Type 0
IsOneOver books = (i : ℕ) × (v : BookView) × (slice_get books i ≡ Some v) × (v.over ≡ true)

-- the books pass the limit: one is over, or all together hold more positions
abbrev pub PassTogether : ℕ → List BookView → Type 0
PassTogether limit books = AreLawfulBooks books × (IsOneOver books ⊎ (limit < all_held books))

-- the book is at work on the layer, with the same level, numbers and closed layers as before
abbrev pub IsStill : LayerView → BookView → BookView → Type 0
IsStill layer before after = AreMadeAlike before after × (after.closed ≡ before.closed) × HasBegun after layer

-- each of several books is at work on the layer, as before
abbrev pub AreStill : LayerView → List BookView → List BookView → Type 0
AreStill layer before after = HaveChanged (IsStill layer) before after

-- each rank of each of the books is done
abbrev pub AreAllDone : List BookView → Type 0
AreAllDone books = (i : ℕ) (v : BookView) → slice_get books i ≡ Some v → AllDone v

-- Books that close the next layer, some of them ahead of the others.
use Rattle.std.specs.Prelude.{◌≡◌, ◌⊎◌, List}
use Rattle.layers.specs.BookView.{BookView}
use Rattle.layers.specs.Books.{AllDone, IsClosedBy}
use Rattle.layers.specs.declared.book.Closed.{Closed}
use Rattle.solo.specs.inside.Iterations.{HaveChanged}

-- each rank of the book was done, and it has closed the next layer
abbrev pub HasClosed : BookView → BookView → Type 0
HasClosed before after = (report : Closed) × IsClosedBy before report after

-- the book is unchanged, or has closed the next layer
abbrev pub MayBeClosed : BookView → BookView → Type 0
MayBeClosed before after = (after ≡ before) ⊎ HasClosed before after

-- each of several books is unchanged, or has closed the next layer
abbrev pub MayBeClosedEach : List BookView → List BookView → Type 0
MayBeClosedEach before after = HaveChanged MayBeClosed before after

-- the book has closed the next layer, or some rank of it was not done and it is unchanged
abbrev pub IsClosedIfDone : BookView → BookView → Type 0
IsClosedIfDone before after = (¬ (AllDone before) × (after ≡ before)) ⊎ HasClosed before after

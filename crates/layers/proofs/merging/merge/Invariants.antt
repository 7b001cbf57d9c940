use Rattle.std.proofs.Common.{◌≡◌, map, List}
use Rattle.successors.specs.Reaching.{total}
use Rattle.store.specs.Entries.{Closed, places_of, origins_of}
use Rattle.layers.specs.BookView.{last_list}
use Rattle.store.specs.inside.Copies.{squares_of}
use Rattle.layers.specs.inside.Merging.{Takes}
use Rattle.layers.proofs.merging.merge.Given as goal

abbrev pub invariant-loop-index : goal.invariant-loop-index
invariant-loop-index l =
    (taken : List Closed) × Takes (map last_list l.books) taken l.rests.items × (l.squares.items ≡ squares_of (places_of taken))
    × (l.origins.items ≡ origins_of taken)

abbrev pub decreases-loop-index : goal.decreases-loop-index
decreases-loop-index l = total l.rests.items

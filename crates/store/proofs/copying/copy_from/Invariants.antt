use Rattle.std.proofs.Common.{◌≡◌, map, drop, take}
use Rattle.store.specs.Entries.{origins_of}
use Rattle.store.specs.inside.Copies.{squares_of}
use Rattle.store.proofs.copying.copy_from.Given as goal

abbrev pub invariant-loop-index : goal.invariant-loop-index
invariant-loop-index g l =
    (l.squares.items ≡ squares_of (map (λ e. e.0) (drop l.from (take l.index l.table.entries))))
    × (l.origins.items ≡ origins_of (drop l.from (take l.index l.table.entries)))

use Rattle.std.proofs.Common.{◌≡◌, ℕ, ◌<◌, ◌≤◌, Some, length, get_or}
use Rattle.std.specs.Prelude.{slice_get}
use Rattle.grid.specs.declared.square.Push.{Push}
use Rattle.grid.specs.Board.{Scene}
use Rattle.store.specs.Entries.{OpenEntry}
use Rattle.store.specs.inside.Indices.{IsIndexOf}
use Rattle.store.proofs.batches.look_up.Given as goal

abbrev pub invariant-loop-nth : goal.invariant-loop-nth
invariant-loop-nth g l = (length l.offers ≤ length l.indices) ×
    ((i : ℕ) (o : OpenEntry Scene Push) → i < l.nth → slice_get l.offers i ≡ Some o → IsIndexOf l.table.entries (get_or l.indices i 0) o.0)

use Rattle.std.proofs.Common.{◌≡◌, ℕ, ◌<◌, Some}
use Rattle.std.specs.Prelude.{slice_get}
use Rattle.layers.specs.BookView.{BookView}
use Rattle.layers.specs.Books.{IsShareBeside}
use Rattle.layers.proofs.join.are_all_shares.Given as goal

abbrev pub invariant-loop-index : goal.invariant-loop-index
invariant-loop-index l = (i : ℕ) (v : BookView) → i < l.index → slice_get l.books i ≡ Some v → IsShareBeside l.first i v

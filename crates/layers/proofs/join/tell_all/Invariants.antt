use Rattle.std.proofs.Common.{◌≡◌, ℕ, ◌<◌, Some}
use Rattle.std.specs.Prelude.{slice_get}
use Rattle.layers.specs.BookView.{BookView, IsLawfulBook}
use Rattle.layers.proofs.join.tell_all.Given as goal

abbrev pub invariant-loop-index : goal.invariant-loop-index
invariant-loop-index l = (i : ℕ) (v : BookView) → i < l.index → slice_get l.books i ≡ Some v → IsLawfulBook v

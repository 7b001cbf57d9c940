use Rattle.std.proofs.Common.{◌≡◌, ℕ, ◌<◌, Some}
use Rattle.std.specs.Prelude.{slice_get}
use Rattle.layers.specs.BookView.{BookView}
use Rattle.crew.specs.Lending.{ComesBack}
use Rattle.crew.proofs.lent.come_back.Given as goal

abbrev pub invariant-loop-place : goal.invariant-loop-place
invariant-loop-place l = (i : ℕ) (v : BookView) → i < l.place → slice_get l.books i ≡ Some v → ComesBack l.config l.layer i v

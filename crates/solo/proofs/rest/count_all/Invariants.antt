use Rattle.std.proofs.Common.{◌≡◌, ℕ, ◌*◌, ◌<◌, ◌≤◌, take, Some}
use Rattle.std.specs.Prelude.{slice_get}
use Rattle.layers.specs.BookView.{BookView, IsLawfulBook}
use Rattle.layers.specs.Holding.{all_held}
use Rattle.solo.proofs.rest.count_all.Given as goal

abbrev pub invariant-loop-index : goal.invariant-loop-index
invariant-loop-index l = record {
  same : l.books ≡ l.fn.books;
  lawful : (i : ℕ) (v : BookView) → i < l.index → slice_get l.fn.books i ≡ Some v → IsLawfulBook v;
  count : l.all ≡ all_held (take l.index l.fn.books);
  few : l.all ≤ l.index * 4294967295;
}

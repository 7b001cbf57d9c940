-- Books whose problem is known.
use Rattle.std.specs.Prelude.{◌≡◌, ℕ, List, slice_get, Some}
use Rattle.successors.specs.Problems.{Problem}
use Rattle.layers.specs.BookView.{BookView}

-- each of the books is of the problem
abbrev pub AreOf : Problem → List BookView → Type 0
AreOf problem books = (i : ℕ) (v : BookView) → slice_get books i ≡ Some v → v.level ≡ problem

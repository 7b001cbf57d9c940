-- What the caller compares when the books come back from workers.
use Rattle.std.specs.Prelude.{◌≡◌, ℕ, ◌+◌, List, length, slice_get, Some}
use Rattle.layers.specs.LayerView.{LayerView}
use Rattle.layers.specs.BookView.{BookView}
use Rattle.solo.specs.inside.Iterations.{IsDealtBook, IsWorkingOn}
use Rattle.crew.specs.declared.config.Config.{Config}

-- the book is that of a share, made by the configuration for the layer's level and cap, and it is at work on the layer
abbrev pub ComesBack : Config → LayerView → ℕ → BookView → Type 0
ComesBack config layer place book =
    IsDealtBook layer.level config.limit (config.workers + 1) config.locks place book × IsWorkingOn layer book

-- the books are all the shares in order, made by the configuration for the layer's level and cap, and each is at work
-- on the layer
pub record ComeBack (config : Config) (layer : LayerView) (books : List BookView) : Type 0 where
  pub all : length books ≡ config.locks
  pub each : (i : ℕ) (v : BookView) → slice_get books i ≡ Some v → ComesBack config layer i v

-- The books of a search with workers, and how an iteration of it ends.
use Rattle.std.specs.Prelude.{◌+◌, ℕ, Bool, true, false, List}
use Rattle.layers.specs.BookView.{BookView}
use Rattle.layers.specs.LayerView.{LayerView}
use Rattle.solo.specs.inside.Searched.{SearchView}
use Rattle.solo.specs.Answers.{IsAnswer}
use Rattle.solo.specs.inside.Rests.{HasClosed}
use Rattle.solo.specs.inside.Together.{AreStill, PassTogether}
use Rattle.solo.specs.inside.Iterations.{AreBetweenLayers, AreDealt, AreWorkingOn, GoesOn, HaveChanged}
use Rattle.crew.specs.declared.config.Config.{Config}
use Rattle.crew.specs.declared.iteration.IterationEnd.{IterationEnd}
use Rattle.crew.specs.declared.iteration.IterationEnd.TheVariants.{Onward, Found, Foreign}

-- the books of a search by the configuration are between two iterations
abbrev pub ArePausedBy : Config → SearchView → List BookView → Type 0
ArePausedBy config s books = AreBetweenLayers s (config.workers + 1) config.locks books

-- how the last ranks of a layer leave books that were at work: they still are, each rank is done, and then each closes
-- the next layer; or they still are, and pass the limit together
abbrev pub AreFinished : ℕ → List BookView → LayerView → Bool → List BookView → Type 0
AreFinished limit before layer true after =
    (done : List BookView) × AreStill layer before done × HaveChanged HasClosed done after
AreFinished limit before layer false after = AreStill layer before after × PassTogether limit after

-- the books of a search by the configuration were at work on the layer, and this is how its last ranks left them
abbrev pub AreWorkedBy : Config → SearchView → LayerView → Bool → List BookView → Type 0
AreWorkedBy config s layer within books =
    (before : List BookView) × AreDealt s.problem s.limit (config.workers + 1) config.locks before ×
    AreWorkingOn layer before × AreFinished s.limit before layer within books

-- the outcome of an iteration: the search goes on with books that have closed the next layer; or there is an answer; or
-- other books came back
abbrev pub IsIterationEnd : Config → SearchView → SearchView → IterationEnd → Type 0
IsIterationEnd config before after (Onward books) = GoesOn before after (config.workers + 1) config.locks books.items
IsIterationEnd config before after (Found answer) = IsAnswer before.problem before.limit answer
IsIterationEnd config before after Foreign = Unit {0}

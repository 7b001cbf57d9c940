-- The state of a search with workers.
use Rattle.std.specs.Prelude.{◌≡◌}
use Rattle.crew.specs.declared.config.Config.{Config}
use Rattle.crew.specs.declared.settings.SearchState.{SearchState}

-- the search has the limit of the configuration, and the desks are over its problem
abbrev pub IsStateOf : Config → SearchState → Type 0
IsStateOf config state = (state.search.limit ≡ config.limit) × (state.desks ≡ state.search.problem)

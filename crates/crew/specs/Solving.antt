-- Why solving with workers fails.
use Rattle.grid.specs.Board.{Board}
use Rattle.solo.specs.Refusals.{SoloRefused}
use Rattle.solo.specs.declared.answer.SolveFault.{SolveFault}
use Rattle.solo.specs.declared.answer.SolveFault.TheVariants.{TooManyBoxes, OutOfMemory, BadConfig}
use Rattle.crew.specs.Configured.{IsWithinLimits}
use Rattle.crew.specs.declared.config.Config.{Config}

-- why a level is not solved: the configuration is outside its limits, or else as on one thread
abbrev pub SolveRefused : Config → Board → SolveFault → Type 0
SolveRefused config board BadConfig = ¬ (IsWithinLimits config)
SolveRefused config board TooManyBoxes = IsWithinLimits config × SoloRefused board TooManyBoxes
SolveRefused config board OutOfMemory = IsWithinLimits config × SoloRefused board OutOfMemory

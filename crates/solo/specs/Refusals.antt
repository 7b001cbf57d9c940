-- Why a level is not solved at all.
use Rattle.std.specs.Prelude.{◌<◌, ◌≤◌}
use Rattle.grid.specs.declared.limits.TheConstants.{MAX_BOXES}
use Rattle.grid.specs.Board.{Board}
use Rattle.grid.specs.Lawful.{box_count}
use Rattle.solo.specs.declared.answer.SolveFault.{SolveFault}
use Rattle.solo.specs.declared.answer.SolveFault.TheVariants.{TooManyBoxes, OutOfMemory, BadConfig}

-- why a level is not solved at all, on one thread
abbrev pub SoloRefused : Board → SolveFault → Type 0
SoloRefused board TooManyBoxes = MAX_BOXES < box_count board
SoloRefused board OutOfMemory = box_count board ≤ MAX_BOXES
SoloRefused board BadConfig = ⊥

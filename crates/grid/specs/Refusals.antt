-- Why cells make no level.
use Rattle.std.specs.Prelude.{◌≡◌, ◌⊎◌, None}
use Rattle.grid.specs.declared.fault.LevelFault.{LevelFault}
use Rattle.grid.specs.declared.fault.LevelFault.TheVariants.{OutOfMemory}
use Rattle.grid.specs.Board.{Board}
use Rattle.grid.specs.Lawful.{HasFault, cell_fault}

-- f is the first fault of the board; or memory ran out, and looking at the cells alone finds no fault
abbrev pub IsRefusal : Board → LevelFault → Type 0
IsRefusal board f = HasFault board f ⊎ ((f ≡ OutOfMemory) × (cell_fault board ≡ None))

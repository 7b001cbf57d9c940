-- What reading a text answers.
use Rattle.std.specs.Prelude.{ℕ, List, Result, Ok, Err}
use Rattle.grid.specs.declared.moves.Letter.{Letter}
use Rattle.lurd.specs.declared.fault.LurdFault.{LurdFault}
use Rattle.lurd.specs.Text.{HasTextFault, IsText}

-- what reading the bytes gives: the letters of a text, or the first fault
abbrev pub Reads : List ℕ → Result (List Letter) LurdFault → Type 0
Reads bytes (Ok letters) = IsText bytes letters
Reads bytes (Err fault) = HasTextFault bytes fault

use Rattle.std.proofs.Common.{ℕ, ◌≤◌, List, length}
use Rattle.xsb.specs.inside.Breaking.{IsPastLine, rows_left}
use Rattle.xsb.proofs.breaks.BrokenRows.next_row.Given as goal

abbrev pub invariant-lines : goal.invariant-lines
invariant-lines l = record {
  past : (bytes : List ℕ) → IsPastLine bytes l.fn.self → IsPastLine bytes l.self;
  left : rows_left l.self ≤ rows_left l.fn.self;
}

abbrev pub decreases-lines : goal.decreases-lines
decreases-lines l = length l.self.lines.rest

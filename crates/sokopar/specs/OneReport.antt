-- The report of `solve`, and that it is the only one.
use Rattle.std.specs.Prelude.{◌≡◌, ℕ, List, Option}
use Rattle.sokopar.specs.Report.{Report}
use Rattle.sokopar.specs.Solving.{IsSolveReport}

-- a report of these bytes, and the only one
pub record IsOnlyReport (IsReport : List ℕ → Report → Type 0) (bytes : List ℕ) (report : Report) : Type 0 where
  pub is : IsReport bytes report
  pub only : (other : Report) → IsReport bytes other → other ≡ report

-- the report of solving level n of these bytes under a cap of pushes and a limit of positions, and the only one
abbrev pub IsOnlySolveReport : Option ℕ → ℕ → ℕ → List ℕ → Report → Type 0
IsOnlySolveReport cap limit n bytes report = IsOnlyReport (IsSolveReport cap limit n) bytes report

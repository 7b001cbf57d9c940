-- At most one report.
use Rattle.std.specs.Prelude.{◌≡◌}
use Rattle.sokopar.specs.Report.{Report}

-- any two reports for which `Is` holds have the same bytes and the same status
abbrev pub IsOneAtMost : (Report → Type 0) → Type 0
IsOneAtMost Is = (report other : Report) → Is report → Is other → other ≡ report

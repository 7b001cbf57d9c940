-- The text so far tells of the levels before the gap, and of broken rows.
use Rattle.std.proofs.Common.{ℕ, List, Option}
use Rattle.sokopar.specs.Listing.{Listed}
use Rattle.sokopar.specs.inside.Pages.{IsPage, rows_left_in}
use Rattle.sokopar.proofs.explain.put_gap.Given as goal

abbrev pub invariant-rows : goal.invariant-rows
invariant-rows l = (bytes : List ℕ) (wanted : Option ℕ) (listing : List Listed) →
    IsPage bytes wanted listing l.fn.page l.fn.broken → IsPage bytes wanted listing l.page l.broken

abbrev pub decreases-rows : goal.decreases-rows
decreases-rows l = rows_left_in l.broken

-- Each cell so far has its byte.
use Rattle.std.proofs.Common.{◌≡◌, length, get_or}
use Rattle.grid.specs.declared.cell.Cell.TheVariants.{Wall}
use Rattle.sokopar.specs.Explaining.{IsShown}
use Rattle.sokopar.proofs.Maps.{HaveBytes}
use Rattle.sokopar.proofs.picture.bytes_by.Given as goal

abbrev pub invariant-loop-place : goal.invariant-loop-place
invariant-loop-place l = record {
  count : length l.bytes.items ≡ l.place;
  bytes : HaveBytes (λ q b. IsShown l.level q (get_or l.cells q Wall) b) l.bytes.items;
}

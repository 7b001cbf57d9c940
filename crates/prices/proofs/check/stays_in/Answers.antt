use Rattle.std.proofs.Common.{◌≡◌, true}
use Rattle.grid.specs.declared.dir.Dir.{Dir}
use Rattle.grid.specs.Board.{next}
use Rattle.prices.specs.Prices.{CanStand}
use Rattle.prices.specs.inside.Tables.{has_number, spot_of}
use Rattle.grid.proofs.lemmas.Directions.{each_test}
use Rattle.prices.proofs.check.stays_in.Goals as goal

pub returns : goal.returns
returns c all d here there has = each_test (λ (e : Dir).
    CanStand c.args.level.now c.args.square (next c.args.level.now c.args.player e) →
    has_number c.args.side (spot_of c.args.table.now.spots.items (next c.args.level.now c.args.player e)).number ≡ true)
    _ _ _ _ (rw c.next.ensures at c.is_in-down.ensures) (rw c.next-2.ensures at c.is_in-left.ensures)
    (rw c.next-3.ensures at c.is_in-right.ensures) (rw c.next-4.ensures at c.is_in-up.ensures) all d there

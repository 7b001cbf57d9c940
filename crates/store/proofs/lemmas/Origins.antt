-- Origins are totally ordered.
use Rattle.std.proofs.Common.{Option, Some, None}
use Rattle.std.proofs.lemmas.Cmp.{nat_cmp_total, on_total, then_total}
use Rattle.std.specs.declared.cmp.Ordering.{Ordering}
use Rattle.std.specs.Cmp.{IsTotalOrder}
use Rattle.store.specs.Entries.{Origin, origin_cmp, lesser}

-- origins are totally ordered
pub origin_total : {P : Type 0} {cmp : P → P → Ordering} → IsTotalOrder cmp → IsTotalOrder (origin_cmp cmp)
origin_total {P} {cmp} total = then_total (on_total (λ (o : Origin P). o.0) nat_cmp_total) (on_total (λ (o : Origin P). o.1) total)

-- the lesser of an origin that is there and another, or the other
abbrev pub best : {P : Type 0} → (P → P → Ordering) → Option (Origin P) → Origin P → Origin P
best cmp None o = o
best cmp (Some a) o = lesser cmp a o

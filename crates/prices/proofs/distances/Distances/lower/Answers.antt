use Rattle.std.proofs.Common.{rules}
use Rattle.prices.specs.inside.Tables.{far_in}
use Rattle.prices.proofs.Sums.{tolls_refuse}
use Rattle.prices.proofs.distances.Distances.lower.Goals as goal

pub returns-clause-bound : goal.returns-clause-bound
returns-clause-bound c m = tolls_refuse _ (far_in c.args.self.now.table) _ c.needs_above.result m
    (search rules) c.requires c.needs_above.ensures

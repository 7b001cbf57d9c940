use Rattle.std.proofs.Common.{ap, arith}
use Rattle.layers.specs.Holding.{held}
use Rattle.layers.proofs.Cuts.{total-cuts}
use Rattle.layers.proofs.book.Book.positions.Goals as goal

pub returns-clause-count : goal.returns-clause-count
returns-clause-count c =
    let a = c.self.inside in
    omega (arith, c.count.ensures.count, total-cuts a.starts.items a.found.seen c.self.invariant.cuts, ap held c.self.view_is)

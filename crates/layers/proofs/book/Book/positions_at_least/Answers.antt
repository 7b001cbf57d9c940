use Rattle.std.proofs.Common.{ap, arith}
use Rattle.layers.specs.Holding.{held}
use Rattle.layers.proofs.Cuts.{total-cuts}
use Rattle.layers.proofs.book.Book.positions_at_least.Goals as goal

pub returns : goal.returns
returns c =
    let a = c.self.inside in
    omega (arith, c.count_entered.ensures, total-cuts a.starts.items a.found.seen c.self.invariant.cuts, ap held c.self.view_is)

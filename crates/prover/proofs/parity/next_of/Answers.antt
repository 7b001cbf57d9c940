use Rattle.std.proofs.Common.{◌≢◌, arith}
use Rattle.prover.proofs.Turning.{parity_apart}
use Rattle.prover.proofs.parity.next_of.Goals as goal

pub returns-clause-least : goal.returns-clause-least
returns-clause-least c = λ n odd le.
    let apart : c.args.pushes ≢ n = parity_apart c.args.odd c.args.pushes n c.if-is_odd-odd.false odd in
    let least = c.saturating_add.ensures in
    omega (arith, le, apart, least)

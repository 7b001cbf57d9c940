use Rattle.std.proofs.Common.{◌≡◌, ◌∙◌, ℕ, ◌+◌, ◌/◌, ◌%◌, ap}
use Rattle.prover.specs.Parity.{is_odd}
use Rattle.prover.proofs.Turning.{odd_remainder}
use Rattle.prover.proofs.parity.is_odd_square.Goals as goal

pub returns : goal.returns
returns c =
    let place = c.args.square in
    let same : c.square.inside.0 ≡ place = c.square.view_is in
    odd_remainder (c.square.inside.0 / c.cols.result + c.square.inside.0 % c.cols-2.result) ∙
    (ap (λ (q : ℕ). is_odd (q / c.cols.result + q % c.cols-2.result)) same ∙
    (ap (λ (n : ℕ). is_odd (place / n + place % c.cols-2.result)) c.cols.ensures ∙
    ap (λ (n : ℕ). is_odd (place / c.args.level.now.cols + place % n)) c.cols-2.ensures))

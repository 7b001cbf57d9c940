use Rattle.std.proofs.Common.{◌≡◌, ◌+◌, ◌∙◌, suc, Bool, ap, length, subst, sym, arith}
use Rattle.prover.specs.Parity.{AreOdd}
use Rattle.prover.specs.inside.Turning.{differ, odd_below}
use Rattle.prover.proofs.Turning.{all_odd}
use Rattle.prover.proofs.parity.are_odd.Goals as goal

pub loop-index-preserved : goal.loop-index-preserved
loop-index-preserved c =
    let board = c.args.level.now in
    let k = c.loop-index.index in
    let one : suc k ≡ k + 1 = omega arith in
    c.differ-odd.ensures ∙ (ap (λ (o : Bool). differ o c.turns_parity.result) c.loop-index.invariant ∙
    (ap (differ (odd_below board k)) c.turns_parity.ensures ∙ ap (odd_below board) one))

pub returns : goal.returns
returns c =
    let board = c.args.level.now in
    let end : length board.cells ≡ c.loop-index.index =
    omega (arith, c.loop-index-test.false, c.loop-index.auto.index-end, c.squares-index-end.ensures) in
    subst (AreOdd board) (ap (odd_below board) end ∙ sym c.loop-index.invariant) (all_odd board c.tell.ensures)

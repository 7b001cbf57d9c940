use Rattle.std.proofs.Common.{◌==◌, ◌<◌, length, arith, rules, Contains}
use Rattle.std.proofs.lemmas.Bool.Decides.{nat_tests}
use Rattle.std.proofs.lemmas.Iterator.Consumers.{YieldsList-turn, YieldsList-end}
use Rattle.std.proofs.lemmas.Iterator.Splits.{YieldsList-from_slice_split}
use Rattle.std.proofs.lemmas.List.{map-append}
use Rattle.xsb.specs.inside.Bytes.{bar, wall_byte}
use Rattle.xsb.proofs.RowLines.{IsCounted-more, IsRowLine-counted, text-piece}
use Rattle.xsb.proofs.sizes.line_size.Goals as goal

pub returns-in_err-cols : goal.returns-in_err-cols
returns-in_err-cols c =
    let turn = YieldsList-turn (YieldsList-from_slice_split _ (λ b. b == bar) c.args.line.now (cc) (cc) (cc) (λ x b q k. search rules)) c.loop-piece.yielded _
    c.loop-piece.yielded_by _ _ c.in-Some.piece c.in-Some.is c.next.ensures.steps in
    let some : 0 < length c.in-Some.piece.now = grind (arith, nat_tests) in
    rw c.from_residual.ensures (text-piece c.in-Some.piece.now turn some c.in_err-cols.ensures)

pub loop-piece-preserved-then-not-is_empty : goal.loop-piece-preserved-then-not-is_empty
loop-piece-preserved-then-not-is_empty c =
    let some : 0 < length c.in-Some.piece.now = grind (arith, nat_tests) in
    let found = c.in_ok-cols.ensures in
    simp map-append (_, IsCounted-more c.in-Some.piece.now found.0 c.loop-piece.invariant.1 some found.1 found.2 c.saturating_add.ensures c.max.ensures)

pub returns : goal.returns
returns c =
    let all = YieldsList-end (YieldsList-from_slice_split _ (λ b. b == bar) c.args.line.now (cc) (cc) (cc) (λ x b q k. search rules)) c.loop-piece.yielded _
    c.loop-piece.yielded_by _ _ c.in-None.is c.next.ensures.steps in
    let wall : Contains c.args.line.now wall_byte = search rules in
    IsRowLine-counted c.loop-piece.invariant.1 all.0 wall

use Rattle.std.proofs.Common.{◌≡◌, ◌==◌, ◌<◌, ◌∷◌, [], length, length-append, arith, rules}
use Rattle.std.proofs.lemmas.Bool.Decides.{nat_tests}
use Rattle.std.proofs.lemmas.Iterator.Consumers.{YieldsList-turn, YieldsList-end}
use Rattle.std.proofs.lemmas.Iterator.Splits.{YieldsList-from_slice_split}
use Rattle.xsb.specs.inside.Bytes.{bar}
use Rattle.xsb.proofs.RowLines.{PushesRows-empty, PushesRows-more, PushesRows-all}
use Rattle.xsb.proofs.sizes.push_line.Goals as goal

pub loop-piece-preserved-in-Continue-1 : goal.loop-piece-preserved-in-Continue-1
loop-piece-preserved-in-Continue-1 c =
    let turn = YieldsList-turn (YieldsList-from_slice_split _ (λ b. b == bar) c.args.line.now (cc) (cc) (cc) (λ x b q k. search rules)) c.loop-piece.yielded _
    c.loop-piece.yielded_by _ _ c.in-Some.piece c.in-Some.is c.next.ensures.steps in
    let some : 0 < length c.in-Some.piece.now = grind (arith, nat_tests) in
    let long = length-append c.loop-piece.yielded (c.in-Some.piece ∷ []) in
    PushesRows-more c.in-Some.piece.now c.loop-piece.invariant (omega arith) turn some c.in_ok-push_row.ensures

pub loop-piece-preserved : goal.loop-piece-preserved
loop-piece-preserved c =
    let turn = YieldsList-turn (YieldsList-from_slice_split _ (λ b. b == bar) c.args.line.now (cc) (cc) (cc) (λ x b q k. search rules)) c.loop-piece.yielded _
    c.loop-piece.yielded_by _ _ c.in-Some.piece c.in-Some.is c.next.ensures.steps in
    let none : length c.in-Some.piece.now ≡ 0 = grind (arith, nat_tests) in
    let long = length-append c.loop-piece.yielded (c.in-Some.piece ∷ []) in
    PushesRows-empty c.in-Some.piece.now c.loop-piece.invariant (omega arith) turn none

pub returns : goal.returns
returns c =
    let all = YieldsList-end (YieldsList-from_slice_split _ (λ b. b == bar) c.args.line.now (cc) (cc) (cc) (λ x b q k. search rules)) c.loop-piece.yielded _
    c.loop-piece.yielded_by _ _ c.in-None.is c.next.ensures.steps in
    PushesRows-all c.loop-piece.invariant all.1

use Rattle.std.proofs.Common.{◌≡◌, ◌+◌, ◌%◌, ◌∷◌, [], ◌++◌, length, set, take, ap, sym, ◌∙◌, arith}
use Rattle.std.proofs.lemmas.List.{take_more}
use Rattle.successors.proofs.lemmas.Lists.{take_short}
use Rattle.store.specs.inside.KeyRows.{low_bytes, zero_padded}
use Rattle.store.proofs.Bytes.{first_written, long, more_written, zeros}
use Rattle.store.proofs.key.write_low.Goals as goal

pub loop-index-init : goal.loop-index-init
loop-index-init c =
    let n = length c.args.row.now in
    let e = (λ i. set ((c.requires.zeros ∙ zeros n) i) 0 (c.low_byte-first.ensures i)) ∙
    first_written n (c.args.player % 256) (omega (arith, c.requires.capacity)) in
    (e, ap length e ∙ long n (low_bytes (c.args.player ∷ [])))

pub loop-index-preserved : goal.loop-index-preserved
loop-index-preserved c =
    let n = length c.args.row.now in let index = c.loop-index.index in let boxes = c.args.boxes.now in
    let x = c.index-boxes-index.result in
    let more : take (index + 1) boxes ≡ take index boxes ++ x ∷ [] = take_more boxes index x c.loop-index-test.true ∙
    ap (λ y. take index boxes ++ y ∷ []) (sym c.index-boxes-index.is) in
    let e =
    (λ i. set c.loop-index.row (index + 1) (c.low_byte-byte.ensures i))
    ∙ more_written (λ y. y % 256) n index c.args.player x boxes c.loop-index.row c.loop-index.invariant.0 more c.loop-index-test.true
    (omega (arith, c.loop-index-test.true, c.requires.capacity)) in
    (e, ap length e ∙ long n (low_bytes (c.args.player ∷ take (index + 1) boxes)))

pub returns : goal.returns
returns c =
    c.loop-index.invariant.0
    ∙ ap (λ xs. zero_padded (length c.args.row.now) (low_bytes (c.args.player ∷ xs)))
    (take_short c.args.boxes.now c.loop-index.index (omega (arith, c.loop-index-test.false, c.loop-index.auto.index-end)))

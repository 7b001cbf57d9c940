use Rattle.std.proofs.Common.{◌≡◌, ◌+◌, ◌<◌, ◌%◌, ◌/◌, ◌∷◌, [], ◌++◌, length, set, take, ap, sym, ◌∙◌, arith}
use Rattle.std.proofs.lemmas.List.{take_more}
use Rattle.successors.proofs.lemmas.Lists.{take_short}
use Rattle.store.specs.declared.key.TheConstants.{SHORT}
use Rattle.store.specs.inside.KeyRows.{high_bytes, low_bytes, zero_padded}
use Rattle.store.proofs.Bytes.{first_written, more_written}
use Rattle.store.proofs.key.write_short.Goals as goal

pub loop-index-init : goal.loop-index-init
loop-index-init c = (
  (λ i. set (c.requires.low i) 0 (c.low_byte-first.ensures i)) ∙ first_written SHORT (c.args.player % 256) (omega arith),
  (λ i. set (c.requires.high i) 0 (c.high_byte-first_high.ensures i)) ∙ first_written SHORT (c.args.player / 256) (omega arith),
)

pub loop-index-preserved : goal.loop-index-preserved
loop-index-preserved c =
    let index = c.loop-index.index in let boxes = c.args.boxes.now in let x = c.index-boxes-index.result in
    let test = c.loop-index-test.true in let end = c.min-index-end.ensures in let room = c.requires.capacity in
    let inside : index < length boxes = omega (arith, test, end, room) in
    let more : take (index + 1) boxes ≡ take index boxes ++ x ∷ [] = take_more boxes index x inside ∙
    ap (λ y. take index boxes ++ y ∷ []) (sym c.index-boxes-index.is) in (
      (λ i. set c.loop-index.low (index + 1) (c.low_byte-byte.ensures i))
          ∙ more_written (λ y. y % 256) SHORT index c.args.player x boxes c.loop-index.low c.loop-index.invariant.0 more inside (omega (arith, inside, room)),
      (λ i. set c.loop-index.high (index + 1) (c.high_byte-most.ensures i))
          ∙ more_written (λ y. y / 256) SHORT index c.args.player x boxes c.loop-index.high c.loop-index.invariant.1 more inside (omega (arith, inside, room)),
    )

pub returns-clause-low : goal.returns-clause-low
returns-clause-low c =
    c.loop-index.invariant.0 ∙ ap (λ xs. zero_padded SHORT (low_bytes (c.args.player ∷ xs)))
    (take_short c.args.boxes.now c.loop-index.index (omega (arith, c.loop-index-test.false, c.min-index-end.ensures, c.requires.capacity)))

pub returns-clause-high : goal.returns-clause-high
returns-clause-high c =
    c.loop-index.invariant.1 ∙ ap (λ xs. zero_padded SHORT (high_bytes (c.args.player ∷ xs)))
    (take_short c.args.boxes.now c.loop-index.index (omega (arith, c.loop-index-test.false, c.min-index-end.ensures, c.requires.capacity)))

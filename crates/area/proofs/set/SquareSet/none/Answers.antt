use Rattle.std.proofs.Common.{◌≡◌, ◌+◌, ◌-◌, ◌/◌, length, replicate, ap, ◌∙◌, arith}
use Rattle.std.proofs.lemmas.List.{length-replicate}
use Rattle.grid.specs.declared.masks.TheConstants.{WORD_BITS}
use Rattle.grid.specs.Masks.{word_count}
use Rattle.area.proofs.lemmas.WordSets.{none_set}
use Rattle.area.proofs.set.SquareSet.none.Goals as goal

pub returns-clause-size : goal.returns-clause-size
unfolding word_count
returns-clause-size c =
    let items : c.in_ok-vec.field-0.items ≡ replicate c.div_ceil.result 0 = c.in_ok-vec.ensures.items_if_clones_equal (λ y e. e) in
    let size : c.div_ceil.result ≡ (c.args.squares + (WORD_BITS - 1)) / WORD_BITS = omega arith in
    ap length items ∙ length-replicate c.div_ceil.result 0 ∙ size

pub returns-clause-none : goal.returns-clause-none
returns-clause-none c = λ q. none_set c.in_ok-vec.field-0.items c.div_ceil.result q (c.in_ok-vec.ensures.items_if_clones_equal (λ y e. e))

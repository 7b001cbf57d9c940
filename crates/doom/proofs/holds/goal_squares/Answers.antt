use Rattle.std.proofs.Common.{◌≡◌, true, length, ap, ◌∙◌, arith}
use Rattle.grid.specs.Board.{is_goal}
use Rattle.grid.specs.Masks.{word_count}
use Rattle.area.proofs.lemmas.Flooding.{words_enough}
use Rattle.doom.proofs.Holding.{filled_none}
use Rattle.doom.proofs.holds.goal_squares.Goals as goal

pub loop-index-init : goal.loop-index-init
loop-index-init c = (
  c.in_ok-set.ensures.size ∙
      ap word_count c.squares-squares.ensures,
  filled_none (λ q. is_goal c.args.level.now q ≡ true) _ c.in_ok-set.ensures.none,
)

pub put-requires : goal.put-requires
put-requires c = words_enough (length c.args.level.now.cells) (length c.loop-index.set) c.loop-index.index c.loop-index.invariant.0
    (omega (arith, c.loop-index-test.true, c.squares-squares.ensures))

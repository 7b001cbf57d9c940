use Rattle.std.proofs.Common.{◌+◌, ℕ, length, sym, ap, subst, ◌∙◌, arith}
use Rattle.std.proofs.lemmas.Bool.{false≢true}
use Rattle.grid.specs.Masks.{word_count}
use Rattle.doom.specs.inside.Holding.{IsFast}
use Rattle.area.proofs.lemmas.Flooding.{words_enough}
use Rattle.doom.proofs.Holding.{IsFilledUpTo, filled_none, filled_more, filled_less}
use Rattle.doom.proofs.holds.fast_squares.Goals as goal
use Rattle.doom.proofs.holds.fast_squares.Goals.{then-is_fast, else-is_fast}

pub loop-index-init : goal.loop-index-init
loop-index-init c = (
  c.in_ok-set.ensures.size ∙
      ap word_count c.squares-squares.ensures,
  filled_none (λ q. IsFast c.args.level.now q c.args.dir) _ c.in_ok-set.ensures.none,
)

pub loop-index-preserved : goal.loop-index-preserved
loop-index-preserved c =
    let P : ℕ → Type 0 = λ q. IsFast c.args.level.now q c.args.dir in
    elim c.if-is_fast.branch [
      | then-is_fast w ↦ (
        ap length w.set-is ∙ w.put.ensures.size ∙ c.loop-index.invariant.0,
        subst (IsFilledUpTo P (c.loop-index.index + 1)) (sym w.set-is) (filled_more P c.loop-index.set w.put.new.self c.loop-index.index w.put.ensures.put
            (c.is_fast.ensures.0 w.if-is_fast.true) c.loop-index.invariant.1),
      )
      | else-is_fast w ↦ (
        ap length w.set-is ∙ c.loop-index.invariant.0,
        subst (IsFilledUpTo P (c.loop-index.index + 1)) (sym w.set-is)
            (filled_less P c.loop-index.set c.loop-index.index (λ fast. false≢true (sym w.if-is_fast.false ∙
            c.is_fast.ensures.1 fast)) c.loop-index.invariant.1),
      )
    ]

pub put-requires : goal.put-requires
put-requires c = words_enough (length c.args.level.now.cells) (length c.loop-index.set) c.loop-index.index c.loop-index.invariant.0
    (omega (arith, c.loop-index-test.true, c.squares-squares.ensures))

use Rattle.std.proofs.Common.{◌≡◌, ℕ, ◌+◌, ◌-◌, ◌/◌, sym, subst, arith}
use Rattle.grid.specs.declared.masks.TheConstants.{WORD_BITS}
use Rattle.area.specs.inside.RoomFloods.{IsWidening}
use Rattle.area.proofs.Widening.{widened_none, widening_on, widening_back, widening_last}
use Rattle.area.proofs.rooms.widen_many.Goals as goal

pub loop-index-init : goal.loop-index-init
loop-index-init c = (record { widened = widened_none c.args.cols c.args.free.now c.args.reached.now; full = λ k lt. absurd (omega (arith, lt)) }, omega arith)

pub loop-index-preserved-then-visit : goal.loop-index-preserved-then-visit
loop-index-preserved-then-visit c =
    let e : c.loop-index.index - (c.args.cols / WORD_BITS + 1) ≡ c.saturating_sub-index.result = sym c.saturating_sub-index.ensures in (
      subst (λ (n : ℕ). IsWidening c.args.cols c.args.free.now n c.args.reached.now c.visit.new.words) e
          (widening_back c.args.cols c.args.free.now c.args.reached.now c.loop-index.reached c.visit.new.words c.loop-index.index _ c.visit.result
          (omega arith) c.loop-index.invariant.0 c.visit.ensures),
      omega (arith, e, c.loop-index.invariant.1),
    )

pub loop-index-preserved : goal.loop-index-preserved
loop-index-preserved c = (
  widening_on c.args.cols c.args.free.now c.args.reached.now c.loop-index.reached c.visit.new.words c.loop-index.index c.visit.result c.loop-index.invariant.0
      c.visit.ensures c.if-visit.false,
  omega arith,
)

pub returns-clause-whole : goal.returns-clause-whole
returns-clause-whole c =
    widening_last c.args.cols c.args.free.now c.args.reached.now c.loop-index.reached c.loop-index.index (omega arith) c.loop-index.invariant.0

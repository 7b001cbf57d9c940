use Rattle.std.proofs.Common.{◌&&◌, not, length, inl, inr, sym, ap, ◌∙◌, arith}
use Rattle.std.proofs.lemmas.Bool.{and_right, cases_lt, cond-false}
use Rattle.std.proofs.lemmas.List.{get_or_past}
use Rattle.grid.specs.Board.{is_wall}
use Rattle.grid.specs.Masks.{has_bit}
use Rattle.grid.proofs.lemmas.Steps.{wall_outside}
use Rattle.area.specs.declared.spread.TheConstants.{BOX_MARK}
use Rattle.area.proofs.steps.bar.Goals as goal

pub returns : goal.returns
returns c = λ q. elim (cases_lt q (length c.loop-index.marks)) [
  | inl lt ↦ c.loop-index.invariant q (omega (arith, lt, c.loop-index-test.false))
  | inr past ↦
      let wall = is_wall c.args.level.now q in
      let outside = wall_outside c.args.level.now q (omega (arith, past, c.requires.room)) in
      get_or_past c.loop-index.marks q 0 past ∙
      sym (cond-false (has_bit c.args.barred.now q && not wall) BOX_MARK 0 (and_right (has_bit c.args.barred.now q) (not wall) (ap not outside)))
]

use Rattle.std.proofs.Common.{◌-◌, List, length, map, reverse, sym, subst, arith}
use Rattle.grid.specs.declared.square.Push.{Push}
use Rattle.solo.specs.Leads.{last_places}
use Rattle.solo.specs.inside.LeadsBack.{IsReadBack, IsLeadAt}
use Rattle.solo.proofs.ReadingBack.{read_first, read_some, read_none, read_done}
use Rattle.solo.proofs.lead.lead_of.Goals as goal

pub loop-number-init : goal.loop-number-init
loop-number-init g c = (
  omega arith,
  λ board layers trailed asked. subst
      (λ (ps : List Push). IsReadBack layers board c.args.asked (length c.args.trail.now - 1) c.args.asked (reverse ps))
      (sym c.new-pushes.ensures.items)
      (read_first g.P.HasParents.origins c.args.trail.now board layers trailed c.args.asked asked),
)

pub offset_bounds-trail-number : goal.offset_bounds-trail-number
offset_bounds-trail-number g c = omega (arith, c.loop-number.invariant.0, c.loop-number-test.true)

pub bounds-trail-number : goal.bounds-trail-number
bounds-trail-number g c = omega (arith, c.loop-number.invariant.0, c.loop-number-test.true)

pub loop-number-preserved-in-Some : goal.loop-number-preserved-in-Some
loop-number-preserved-in-Some g c = (
  omega (arith, c.loop-number.invariant.0),
  λ board layers trailed asked.
      read_some g.P.HasParents.origins c.args.trail.now board layers trailed c.args.asked c.loop-number.number
      c.loop-number.rank c.loop-number.pushes.items c.loop-number-test.true c.loop-number.invariant.0
      (c.loop-number.invariant.1 board layers trailed asked) c.index-trail-number.result c.index-trail-number.is
      c.parent_of.result c.parent_of.ensures c.push.new.self.items (c.in-Some.parent, c.in-Some.push) c.in-Some.is
      c.in_ok-push.ensures.items,
)

pub loop-number-preserved : goal.loop-number-preserved
loop-number-preserved g c = (
  omega (arith, c.loop-number.invariant.0),
  λ board layers trailed asked.
      read_none g.P.HasParents.origins c.args.trail.now board layers trailed c.args.asked c.loop-number.number
      c.loop-number.rank c.loop-number.pushes.items c.loop-number-test.true c.loop-number.invariant.0
      (c.loop-number.invariant.1 board layers trailed asked) c.index-trail-number.result c.index-trail-number.is
      c.parent_of.result c.parent_of.ensures c.in_default.is,
)

pub returns : goal.returns
returns g c = λ board layers trailed asked.
    subst (IsLeadAt board (last_places layers) c.args.asked) (sym c.reverse.ensures.items)
    (read_done board layers (map g.P.HasParents.origins c.args.trail.now) trailed c.args.asked (c.loop-number.number - 1)
    c.loop-number.rank (reverse c.loop-number.pushes.items) (omega (arith, c.loop-number-test.false))
    (c.loop-number.invariant.1 board layers trailed asked))

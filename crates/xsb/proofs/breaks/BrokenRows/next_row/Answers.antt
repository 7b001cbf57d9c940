use Rattle.std.proofs.Common.{arith}
use Rattle.xsb.proofs.Breaking.{IsBroken-here}
use Rattle.xsb.proofs.breaks.BrokenRows.next_row.Goals as goal

pub returns-then-parts-clause-on : goal.returns-then-parts-clause-on
returns-then-parts-clause-on c = λ bytes was. c.pass.ensures.past bytes (c.lines.invariant.past bytes was).lines

pub returns-then-parts-clause-row : goal.returns-then-parts-clause-row
returns-then-parts-clause-row c = λ bytes was.
    let past = c.lines.invariant.past bytes was in
    IsBroken-here c.lines.self c.pass.new.self c.in-Some.line.now c.in-Some-flaw_of.flaw c.is_between_rows-parts.result past
    c.in-Some.ensures c.in-Some-flaw_of.ensures c.pass.ensures.number c.is_between_rows-parts.ensures.before
    (c.is_between_rows-parts.ensures.after bytes (c.pass.ensures.past bytes past.lines).lines)

pub lines-preserved-in-Some-flaw_of : goal.lines-preserved-in-Some-flaw_of
lines-preserved-in-Some-flaw_of c = record {
  past = λ bytes was. c.pass.ensures.past bytes (c.lines.invariant.past bytes was).lines;
  left = let less = c.pass.ensures.fewer in let before = c.lines.invariant.left in omega arith;
}

pub lines-preserved : goal.lines-preserved
lines-preserved c = record {
  past = λ bytes was. c.pass.ensures.past bytes (c.lines.invariant.past bytes was).lines;
  left = let less = c.pass.ensures.fewer in let before = c.lines.invariant.left in omega arith;
}

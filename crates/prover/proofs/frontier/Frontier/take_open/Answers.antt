use Rattle.std.proofs.Common.{arith}
use Rattle.std.proofs.lemmas.Option.{slice_get_within}
use Rattle.std.specs.BinaryHeap.{heap_items}
use Rattle.prover.specs.inside.Waiting.{tickets}
use Rattle.prover.proofs.Queues.{queued_less, queued_on, waits_less}
use Rattle.prover.proofs.frontier.Frontier.take_open.Goals as goal

pub invariant_of-self-in_err-set_aside : goal.invariant_of-self-in_err-set_aside
invariant_of-self-in_err-set_aside c =
    queued_on c.loop-ticket.self-inside.visited.entries (tickets c.loop-ticket.self-inside.queue) (tickets c.set_aside.new.self) c.set_aside.ensures
    c.loop-ticket.invariant.queued

pub invariant_of-self-then-is_open : goal.invariant_of-self-then-is_open
invariant_of-self-then-is_open c =
    queued_on c.loop-ticket.self-inside.visited.entries (tickets c.loop-ticket.self-inside.queue) (tickets c.set_aside.new.self) c.set_aside.ensures
    c.loop-ticket.invariant.queued

pub returns-then-is_open-clause-place : goal.returns-then-is_open-clause-place
returns-then-is_open-clause-place c =
    let (x, at, open_) = c.is_open.ensures.waits c.if-is_open.true in
    slice_get_within c.loop-ticket.self-inside.visited.entries c.in-Some.ticket.place x at

pub loop-ticket-preserved : goal.loop-ticket-preserved
loop-ticket-preserved c =
    let queue = c.loop-ticket.self-inside.queue in
    let after = c.drop_first.new.self in
    record {
      queued = queued_less c.loop-ticket.self-inside.visited.entries c.in-Some.ticket (tickets queue) (tickets after) c.loop-ticket.invariant.queued
          (c.is_open.ensures.closed c.if-is_open.false)
          (waits_less c.in-Some.ticket (heap_items queue.heap) (heap_items after.heap) queue.aside.items after.aside.items c.drop_first.ensures.aside
          (c.drop_first.ensures.first c.in-Some.ticket c.in-Some.ensures.first.at).1);
      same = c.loop-ticket.invariant.same;
    }

pub loop-ticket-smaller : goal.loop-ticket-smaller
loop-ticket-smaller c = let less = (c.drop_first.ensures.first c.in-Some.ticket c.in-Some.ensures.first.at).0 in omega (arith, less)

use Rattle.std.proofs.Common.{arith, ◌∙◌}
use Rattle.std.specs.BinaryHeap.{heap_items}
use Rattle.prover.specs.inside.Waiting.{tickets}
use Rattle.prover.proofs.Queues.{closed_by, least_open_by, only_ordered, queued_less, waits_less}
use Rattle.prover.proofs.frontier.Frontier.least_open.Goals as goal

pub returns-then-is_open-clause-some : goal.returns-then-is_open-clause-some
returns-then-is_open-clause-some c =
    let all = c.loop-ticket.self-inside.visited.entries in
    let queue = c.loop-ticket.self-inside.queue in
    least_open_by all c.in-Some.ticket (heap_items queue.heap)
    (only_ordered all (heap_items queue.heap) queue.aside.items c.loop-ticket.invariant.none c.loop-ticket.invariant.queued) c.in-Some.ensures.first
    (c.is_open.ensures.waits c.if-is_open.true)

pub returns-then-is_open-clause-same : goal.returns-then-is_open-clause-same
returns-then-is_open-clause-same c = c.loop-ticket.invariant.same

pub loop-ticket-preserved : goal.loop-ticket-preserved
loop-ticket-preserved c =
    let queue = c.loop-ticket.self-inside.queue in
    let after = c.drop_first.new.self in
    record {
      queued = queued_less c.loop-ticket.self-inside.visited.entries c.in-Some.ticket (tickets queue) (tickets after) c.loop-ticket.invariant.queued
          (c.is_open.ensures.closed c.if-is_open.false)
          (waits_less c.in-Some.ticket (heap_items queue.heap) (heap_items after.heap) queue.aside.items after.aside.items c.drop_first.ensures.aside
          (c.drop_first.ensures.first c.in-Some.ticket c.in-Some.ensures.first.at).1);
      none = c.drop_first.ensures.aside ∙ c.loop-ticket.invariant.none;
      same = c.loop-ticket.invariant.same;
    }

pub loop-ticket-smaller : goal.loop-ticket-smaller
loop-ticket-smaller c = let less = (c.drop_first.ensures.first c.in-Some.ticket c.in-Some.ensures.first.at).0 in omega (arith, less)

pub returns-clause-none : goal.returns-clause-none
returns-clause-none c =
    let all = c.loop-ticket.self-inside.visited.entries in
    let queue = c.loop-ticket.self-inside.queue in
    closed_by all (heap_items queue.heap)
    (only_ordered all (heap_items queue.heap) queue.aside.items c.loop-ticket.invariant.none c.loop-ticket.invariant.queued) c.in_default.ensures.none

pub returns-clause-same : goal.returns-clause-same
returns-clause-same c = c.loop-ticket.invariant.same

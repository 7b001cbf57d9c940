use Rattle.std.proofs.Common.{ap}
use Rattle.std.specs.BinaryHeap.{heap_items}
use Rattle.prover.specs.inside.Waiting.{tickets}
use Rattle.prover.proofs.Queues.{queued_back, queued_same}
use Rattle.prover.proofs.frontier.put_back.Goals as goal

pub returns-in_err-reserve-clause-queued : goal.returns-in_err-reserve-clause-queued
returns-in_err-reserve-clause-queued c =
    queued_same c.args.visited.now.entries (heap_items c.args.queue.now.heap) (heap_items c.reserve.new.self.heap) c.args.queue.now.aside.items
    c.reserve.new.self.aside.items c.reserve.ensures.same c.reserve.ensures.aside c.requires

pub loop-ticket-init : goal.loop-ticket-init
loop-ticket-init c = record {
  queued = queued_same c.args.visited.now.entries (heap_items c.args.queue.now.heap) (heap_items c.reserve.new.self.heap) c.args.queue.now.aside.items
      c.reserve.new.self.aside.items c.reserve.ensures.same c.reserve.ensures.aside c.requires;
  room = c.in_ok-reserve.ensures.room;
}

pub loop-ticket-preserved : goal.loop-ticket-preserved
loop-ticket-preserved c =
    let all = c.args.visited.now.entries in
    let less = c.pop_aside.new.self in
    let back = c.insert_open.new.queue in
    let next = c.reserve-in-Some.new.self in
    record {
      queued = queued_same all (heap_items back.heap) (heap_items next.heap) back.aside.items next.aside.items c.reserve-in-Some.ensures.same
          c.reserve-in-Some.ensures.aside
          (queued_back all c.in-Some.ticket (tickets c.loop-ticket.queue) (heap_items less.heap) (heap_items back.heap) less.aside.items back.aside.items
          c.loop-ticket.invariant.queued c.in-Some.ensures.others c.insert_open.ensures.waits c.insert_open.ensures.others c.insert_open.ensures.aside);
      room = c.in_ok-reserve-2.ensures.room;
    }

pub returns-in_err-reserve-2-clause-queued : goal.returns-in_err-reserve-2-clause-queued
returns-in_err-reserve-2-clause-queued c =
    let all = c.args.visited.now.entries in
    let less = c.pop_aside.new.self in
    let back = c.insert_open.new.queue in
    let next = c.reserve-in-Some.new.self in
    queued_same all (heap_items back.heap) (heap_items next.heap) back.aside.items next.aside.items
    c.reserve-in-Some.ensures.same c.reserve-in-Some.ensures.aside
    (queued_back all c.in-Some.ticket (tickets c.loop-ticket.queue) (heap_items less.heap) (heap_items back.heap) less.aside.items back.aside.items
    c.loop-ticket.invariant.queued c.in-Some.ensures.others c.insert_open.ensures.waits c.insert_open.ensures.others c.insert_open.ensures.aside)

pub returns-clause-queued : goal.returns-clause-queued
returns-clause-queued c =
    let before = c.loop-ticket.queue in
    let after = c.pop_aside.new.self in
    queued_same c.args.visited.now.entries (heap_items before.heap) (heap_items after.heap) before.aside.items after.aside.items
    (ap heap_items c.pop_aside.ensures.heap) c.in_default.ensures.kept c.loop-ticket.invariant.queued

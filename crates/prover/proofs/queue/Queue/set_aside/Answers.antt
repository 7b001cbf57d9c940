use Rattle.std.proofs.Common.{arith}
use Rattle.std.specs.BinaryHeap.{heap_items, heap_len}
use Rattle.prover.proofs.Queues.{popped_by, waits_aside, waits_wider}
use Rattle.prover.proofs.queue.Queue.set_aside.Goals as goal

pub returns : goal.returns
returns c =
    waits_aside c.args.first (heap_items c.args.self.now.heap) (heap_items c.pop.new.self) c.args.self.now.aside.items c.push.new.self.items
    c.in_ok-push.ensures.items
    (popped_by c.args.first c.pop.result (heap_items c.args.self.now.heap) (heap_items c.pop.new.self) (heap_len c.args.self.now.heap)
    (omega (arith, c.args.self.now.heap.data.ok.0)) c.pop.ensures.none c.pop.ensures.top c.pop.ensures.permutation c.requires).1

pub returns-in_err-push : goal.returns-in_err-push
returns-in_err-push c =
    waits_wider (heap_items c.args.self.now.heap) (heap_items c.args.self.now.heap) c.args.self.now.aside.items c.push.new.self.items
    c.in_err-push.ensures.items (λ least place waits. waits)

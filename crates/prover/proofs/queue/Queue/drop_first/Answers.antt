use Rattle.std.proofs.Common.{arith}
use Rattle.std.specs.BinaryHeap.{heap_items, heap_len}
use Rattle.prover.proofs.Queues.{popped_by}
use Rattle.prover.proofs.queue.Queue.drop_first.Goals as goal

pub returns-clause-first : goal.returns-clause-first
returns-clause-first c = λ first at.
    popped_by first c.pop.result (heap_items c.args.self.now.heap) (heap_items c.pop.new.self) (heap_len c.args.self.now.heap)
    (omega (arith, c.args.self.now.heap.data.ok.0)) c.pop.ensures.none c.pop.ensures.top c.pop.ensures.permutation at

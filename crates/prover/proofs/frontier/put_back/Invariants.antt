use Rattle.std.proofs.Common.{length, ◌<◌}
use Rattle.std.specs.BinaryHeap.{heap_capacity, heap_len}
use Rattle.prover.specs.inside.Waiting.{tickets}
use Rattle.prover.specs.inside.Working.{IsQueued}
use Rattle.prover.proofs.frontier.put_back.Given as goal

abbrev pub invariant-loop-ticket : goal.invariant-loop-ticket
invariant-loop-ticket l = record {
  queued : IsQueued l.visited.entries (tickets l.queue);
  room : heap_len l.queue.heap < heap_capacity l.queue.heap;
}

abbrev pub decreases-loop-ticket : goal.decreases-loop-ticket
decreases-loop-ticket l = length l.queue.aside.items

use Rattle.std.proofs.Common.{◌≡◌, [], length}
use Rattle.std.specs.BinaryHeap.{heap_items}
use Rattle.prover.specs.inside.Waiting.{tickets}
use Rattle.prover.specs.inside.Working.{IsQueued}
use Rattle.prover.proofs.frontier.Frontier.least_open.Given as goal

abbrev pub invariant-loop-ticket : goal.invariant-loop-ticket
invariant-loop-ticket l = record {
  queued : IsQueued l.self-inside.visited.entries (tickets l.self-inside.queue);
  none : l.self-inside.queue.aside.items ≡ [];
  same : l.self-inside.visited ≡ l.fn.self;
}

abbrev pub decreases-loop-ticket : goal.decreases-loop-ticket
decreases-loop-ticket l = length (heap_items l.self-inside.queue.heap)

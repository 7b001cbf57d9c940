use Rattle.std.specs.BinaryHeap.{heap_items}
use Rattle.prover.proofs.Queues.{waits_kept, waits_pushed}
use Rattle.prover.proofs.queue.Queue.insert.Goals as goal

pub returns-clause-waits : goal.returns-clause-waits
returns-clause-waits c = waits_pushed c.args.ticket (heap_items c.args.self.now.heap) (heap_items c.push.new.self) c.in-Ok.ensures.permutation

pub returns-clause-others : goal.returns-clause-others
returns-clause-others c = waits_kept c.args.ticket (heap_items c.args.self.now.heap) (heap_items c.push.new.self) c.in-Ok.ensures.permutation

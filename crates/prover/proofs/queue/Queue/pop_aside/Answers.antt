use Rattle.std.proofs.Common.{arith}
use Rattle.std.specs.BinaryHeap.{heap_items}
use Rattle.std.specs.Prelude.{vec_len}
use Rattle.prover.proofs.Queues.{fewer_aside, kept_aside, none_aside, popped_aside}
use Rattle.prover.proofs.queue.Queue.pop_aside.Goals as goal

pub returns-clause-others : goal.returns-clause-others
returns-clause-others c =
    popped_aside (heap_items c.args.self.now.heap) c.args.self.now.aside.items c.pop.new.self.items c.pop.result c.pop.ensures.items

pub returns-clause-fewer : goal.returns-clause-fewer
returns-clause-fewer c = fewer_aside c.args.self.now.aside.items c.pop.new.self.items c.pop.result c.pop.ensures.items

pub returns-clause-none : goal.returns-clause-none
returns-clause-none c =
    none_aside c.pop.new.self.items (vec_len c.args.self.now.aside) (vec_len c.pop.new.self) c.pop.result c.pop.ensures.cases
    (omega (arith, c.pop.new.self.ok.0))

pub returns-clause-kept : goal.returns-clause-kept
returns-clause-kept c = kept_aside c.args.self.now.aside.items c.pop.new.self.items c.pop.result c.pop.ensures.items

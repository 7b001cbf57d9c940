-- All tickets of the queue.
use Rattle.std.specs.Prelude.{List, ◌++◌}
use Rattle.std.specs.BinaryHeap.{heap_items}
use Rattle.prover.specs.declared.queue.Queue.{Queue}
use Rattle.prover.specs.declared.queue.Ticket.{Ticket}

-- the tickets in order, and those that were set aside
abbrev pub tickets : Queue → List Ticket
tickets queue = heap_items queue.heap ++ queue.aside.items

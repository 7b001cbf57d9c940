-- The order of tickets.
use Rattle.std.specs.Ordering.{nat_cmp, ordering_then}
use Rattle.std.specs.declared.cmp.Ordering.{Ordering}
use Rattle.prover.specs.declared.queue.Ticket.{Ticket}

-- a ticket is greater by a lesser total, or else by more pushes, or else by a later place
abbrev pub ticket_cmp : Ticket → Ticket → Ordering
ticket_cmp x y =
    ordering_then (nat_cmp y.least.0 x.least.0) (ordering_then (nat_cmp x.pushes y.pushes) (nat_cmp x.place y.place))

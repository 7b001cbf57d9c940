use Rattle.std.proofs.Common.{ℕ, List, Option, Some, None, refl, sym, subst}
use Rattle.std.specs.BinaryHeap.{heap_items}
use Rattle.store.specs.Visited.{Node, HasEntered, VisitedView}
use Rattle.prover.specs.inside.Waiting.{tickets}
use Rattle.prover.specs.inside.Working.{Enters, IsQueued}
use Rattle.prover.proofs.Entering.{entered}
use Rattle.prover.proofs.Queues.{queued_more, queued_same, waits_front, waits_wider}
use Rattle.prover.proofs.frontier.Frontier.open_at.Goals as goal

pub invariant_of-self : goal.invariant_of-self
invariant_of-self c =
    queued_same c.self.inside.visited.entries (heap_items c.self.inside.queue.heap) (heap_items c.reserve.new.self.heap)
    c.self.inside.queue.aside.items c.reserve.new.self.aside.items c.reserve.ensures.same c.reserve.ensures.aside c.self.invariant

pub invariant_of-self-in_err-entered : goal.invariant_of-self-in_err-entered
invariant_of-self-in_err-entered c = subst (λ (xs : List Node). IsQueued xs (tickets c.reserve.new.self)) (sym c.in_err-entered.ensures.err)
    (queued_same c.self.inside.visited.entries (heap_items c.self.inside.queue.heap) (heap_items c.reserve.new.self.heap)
    c.self.inside.queue.aside.items c.reserve.new.self.aside.items c.reserve.ensures.same c.reserve.ensures.aside c.self.invariant)

pub invariant_of-self-in-Some : goal.invariant_of-self-in-Some
invariant_of-self-in-Some c =
    let old = c.self.inside.visited.entries in
    let new = c.enter.new.self.entries in
    let e : Node = (record { position = c.args.position.now; pushes = c.args.pushes; least = Some c.args.least; parent = c.args.parent }) in
    queued_more old new e c.in-Some.place c.args.least (tickets c.reserve.new.self) (tickets c.insert.new.self) refl
    (subst (λ (o : Option ℕ). HasEntered old new e o) c.in-Some.is c.in_ok-entered.ensures.ok)
    (queued_same old (heap_items c.self.inside.queue.heap) (heap_items c.reserve.new.self.heap) c.self.inside.queue.aside.items
    c.reserve.new.self.aside.items c.reserve.ensures.same c.reserve.ensures.aside c.self.invariant)
    (waits_front (heap_items c.insert.new.self.heap) c.insert.new.self.aside.items c.args.least c.in-Some.place c.insert.ensures.waits)
    (waits_wider (heap_items c.reserve.new.self.heap) (heap_items c.insert.new.self.heap) c.reserve.new.self.aside.items c.insert.new.self.aside.items
    c.insert.ensures.aside c.insert.ensures.others)

pub invariant_of-self-in_default : goal.invariant_of-self-in_default
invariant_of-self-in_default c =
    let old = c.self.inside.visited.entries in
    let new = c.enter.new.self.entries in
    let e : Node = (record { position = c.args.position.now; pushes = c.args.pushes; least = Some c.args.least; parent = c.args.parent }) in
    let none : HasEntered old new e None = subst (λ (o : Option ℕ). HasEntered old new e o) c.in_default.is c.in_ok-entered.ensures.ok in
    subst (λ (xs : List Node). IsQueued xs (tickets c.reserve.new.self)) (sym none.0)
    (queued_same old (heap_items c.self.inside.queue.heap) (heap_items c.reserve.new.self.heap) c.self.inside.queue.aside.items
    c.reserve.new.self.aside.items c.reserve.ensures.same c.reserve.ensures.aside c.self.invariant)

pub returns-in-Some-clause-enters : goal.returns-in-Some-clause-enters
returns-in-Some-clause-enters c =
    let new = c.enter.new.self.entries in
    let e : Node = (record { position = c.args.position.now; pushes = c.args.pushes; least = Some c.args.least; parent = c.args.parent }) in
    subst (λ (v : VisitedView). Enters v.entries new e) c.self.view_is
    (entered c.self.inside.visited.entries new e c.in_ok-entered.entered c.in_ok-entered.ensures.ok)

pub returns-in_default-clause-enters : goal.returns-in_default-clause-enters
returns-in_default-clause-enters c =
    let new = c.enter.new.self.entries in
    let e : Node = (record { position = c.args.position.now; pushes = c.args.pushes; least = Some c.args.least; parent = c.args.parent }) in
    subst (λ (v : VisitedView). Enters v.entries new e) c.self.view_is
    (entered c.self.inside.visited.entries new e c.in_ok-entered.entered c.in_ok-entered.ensures.ok)

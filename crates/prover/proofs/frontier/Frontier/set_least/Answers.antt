use Rattle.std.proofs.Common.{◌<◌, ◌∙◌, ℕ, length, sym, subst}
use Rattle.std.proofs.lemmas.Option.{none-some, same_Some}
use Rattle.std.specs.BinaryHeap.{heap_items}
use Rattle.store.specs.Visited.{VisitedView}
use Rattle.prover.specs.inside.Waiting.{tickets}
use Rattle.prover.specs.inside.Working.{Waits}
use Rattle.prices.proofs.lemmas.Lists.{in_range}
use Rattle.prover.proofs.Queues.{queued_same, queued_set, waits_front, waits_wider}
use Rattle.prover.proofs.frontier.Frontier.set_least.Goals as goal

pub invariant_of-self : goal.invariant_of-self
invariant_of-self c =
    queued_same c.self.inside.visited.entries (heap_items c.self.inside.queue.heap) (heap_items c.reserve.new.self.heap)
    c.self.inside.queue.aside.items c.reserve.new.self.aside.items c.reserve.ensures.same c.reserve.ensures.aside c.self.invariant

pub invariant_of-self-in-Some : goal.invariant_of-self-in-Some
invariant_of-self-in-Some c =
    let old = c.self.inside.visited.entries in
    let after = tickets c.insert.new.self in
    let (x, at) = in_range old c.args.place (subst (λ (v : VisitedView). c.args.place < length v.entries) (sym c.self.view_is) c.requires.place) in
    queued_set old c.set_least.new.self.entries x c.args.place c.args.least (tickets c.reserve.new.self) after at c.set_least.ensures.set
    (queued_same old (heap_items c.self.inside.queue.heap) (heap_items c.reserve.new.self.heap) c.self.inside.queue.aside.items
    c.reserve.new.self.aside.items c.reserve.ensures.same c.reserve.ensures.aside c.self.invariant)
    (λ n e. subst (λ (k : ℕ). Waits after k c.args.place) (same_Some c.in-Some.least n (sym c.in-Some.is ∙ e))
    (waits_front (heap_items c.insert.new.self.heap) c.insert.new.self.aside.items c.in-Some.least c.args.place c.insert.ensures.waits))
    (waits_wider (heap_items c.reserve.new.self.heap) (heap_items c.insert.new.self.heap) c.reserve.new.self.aside.items c.insert.new.self.aside.items
    c.insert.ensures.aside c.insert.ensures.others)

pub invariant_of-self-in_default : goal.invariant_of-self-in_default
invariant_of-self-in_default c =
    let old = c.self.inside.visited.entries in
    let after = tickets c.reserve.new.self in
    let (x, at) = in_range old c.args.place (subst (λ (v : VisitedView). c.args.place < length v.entries) (sym c.self.view_is) c.requires.place) in
    queued_set old c.set_least.new.self.entries x c.args.place c.args.least after after at c.set_least.ensures.set
    (queued_same old (heap_items c.self.inside.queue.heap) (heap_items c.reserve.new.self.heap) c.self.inside.queue.aside.items
    c.reserve.new.self.aside.items c.reserve.ensures.same c.reserve.ensures.aside c.self.invariant)
    (λ n e. absurd (none-some n (sym c.in_default.is ∙ e)))
    (λ n p waits. waits)

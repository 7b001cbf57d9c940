use Rattle.std.proofs.Common.{rules, ◌<◌, ◌∙◌, length, sym}
use Rattle.std.proofs.lemmas.Bool.{true≢false}
use Rattle.prices.proofs.lemmas.Lists.{in_range}
use Rattle.prover.proofs.frontier.is_open.Goals as goal

pub returns-clause-waits : goal.returns-clause-waits
returns-clause-waits c = λ e.
    let lt : c.args.ticket.place < length c.args.visited.now.entries = search rules in
    let (x, at) = in_range c.args.visited.now.entries c.args.ticket.place lt in
    (x, at, sym (c.label.ensures x at).1 ∙ c.has_least.ensures.0 e)

pub returns-clause-closed : goal.returns-clause-closed
returns-clause-closed c = λ e x at open_. true≢false (sym (c.has_least.ensures.1 ((c.label.ensures x at).1 ∙ open_)) ∙ e)

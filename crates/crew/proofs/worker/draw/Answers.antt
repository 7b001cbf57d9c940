use Rattle.std.proofs.Common.{rules}
use Rattle.crew.proofs.Batches.{drawn_at_last}
use Rattle.crew.proofs.worker.draw.Goals as goal

pub returns-in_err-pass-clause-ends : goal.returns-in_err-pass-clause-ends
returns-in_err-pass-clause-ends g c =
    let ended = c.in_err-pass.ensures.ends c.args.worker.now.shared.now.layer c.args.worker.now.shared.now.workers c.draw_rank.new.drawer.hand in
    search (rules, ended)

pub returns-in_err-event-clause-ends : goal.returns-in_err-event-clause-ends
returns-in_err-event-clause-ends g c =
    let ended = drawn_at_last g.G.Gate.may_stop c.args.worker.now.shared.now.layer c.args.worker.now.shared.now.workers c.args.worker.now.number
    c.draw_rank.new.drawer.hand c.in_err-event.field-0.0 c.in_err-event.ensures.end in search (rules, ended)

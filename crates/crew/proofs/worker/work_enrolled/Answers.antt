use Rattle.std.proofs.Common.{[], ◌∷◌, length, ap, ◌∙◌, refl, length-append}
use Rattle.crew.proofs.Events.{asks_drawn, has_drawn, has_none}
use Rattle.crew.proofs.worker.work_enrolled.Goals as goal

pub returns-in-Err-clause-gate : goal.returns-in-Err-clause-gate
returns-in-Err-clause-gate g c =
    let may = g.G.Gate.may_answer c.args.worker.now.gate.now c.args.worker.now.shared.now.layer.number c.args.worker.now.number in
    asks_drawn may c.args.worker.now.shared.now.books c.draw.new.nth c.args.drawer.now.hand c.draw.new.drawer.hand c.in-Err.end c.in-Err.ensures.gate

pub returns-then-is_empty-clause-gate : goal.returns-then-is_empty-clause-gate
returns-then-is_empty-clause-gate g c =
    let may = g.G.Gate.may_answer c.args.worker.now.gate.now c.args.worker.now.shared.now.layer.number c.args.worker.now.number in
    let books = c.args.worker.now.shared.now.books in let is = c.in-Ok.ensures in
    let first = c.args.drawer.now.hand in let later = c.draw.new.drawer.hand in
    let long = ap length is.drawn ∙ length-append first.numbers (c.in-Ok.rank ∷ []) in
    c.with_own_parcel.ensures.gate first (has_drawn may books 1 0 c.draw.new.nth first first later long (has_none may books first) (0, refl, is.goes_on))

pub returns-clause-gate : goal.returns-clause-gate
returns-clause-gate g c =
    let may = g.G.Gate.may_answer c.args.worker.now.gate.now c.args.worker.now.shared.now.layer.number c.args.worker.now.number in
    let books = c.args.worker.now.shared.now.books in let is = c.in-Ok.ensures in
    let first = c.args.drawer.now.hand in let later = c.draw.new.drawer.hand in
    let long = ap length is.drawn ∙ length-append first.numbers (c.in-Ok.rank ∷ []) in
    c.by_batches.ensures.gate first (has_drawn may books 1 0 c.draw.new.nth first first later long (has_none may books first) (0, refl, is.goes_on))

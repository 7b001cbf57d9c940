use Rattle.std.proofs.Common.{◌≡◌, ◌+◌, ◌*◌, ◌<◌, length, ap, rules, arith}
use Rattle.std.proofs.lemmas.Nat.{row_fits}
use Rattle.crew.proofs.Events.{cut_off, goes_twice}
use Rattle.crew.specs.inside.Sharing.{SharedView}
use Rattle.crew.proofs.handing.hand_batch.Goals as goal

pub loop-book-preserved : goal.loop-book-preserved
loop-book-preserved g c =
    let place = c.loop-book.book-index in let many = length c.args.batch.now in
    goes_twice (g.G.Gate.may_answer c.args.worker.now.gate.now c.args.worker.now.shared.now.layer.number c.args.worker.now.number) c.args.nth.now
    (place * many) many ((place + 1) * many) c.loop-book.nth c.hand_batch_to.new.nth (omega arith) c.loop-book.invariant
    c.in_ok-hand_batch_to.ensures.goes_on

pub returns-in_err-hand_batch_to-clause-ends : goal.returns-in_err-hand_batch_to-clause-ends
returns-in_err-hand_batch_to-clause-ends g c = λ hand. (let ended = c.in_err-hand_batch_to.ensures.ends hand in search (rules, ended))

pub returns-in_err-hand_batch_to-clause-gate : goal.returns-in_err-hand_batch_to-clause-gate
returns-in_err-hand_batch_to-clause-gate g c =
    let may = g.G.Gate.may_answer c.args.worker.now.gate.now c.args.worker.now.shared.now.layer.number c.args.worker.now.number in
    let place = c.loop-book.book-index in
    let many = length c.args.batch.now in let books = c.args.worker.now.shared.now.books in
    let all : length c.shared.inside.books.now ≡ books = ap (λ (shared : SharedView). shared.books) c.shared.view_is in
    let within : place < books = omega (arith, all, c.loop-book-test.true) in
    let ended = cut_off may (place * many) many (books * many) c.args.nth.now c.loop-book.nth c.hand_batch_to.new.nth c.in_err-hand_batch_to.field-0.0
    (row_fits place many books many within (omega arith)) c.loop-book.invariant c.in_err-hand_batch_to.ensures.gate in
    search (rules, ended)

use Rattle.std.proofs.Common.{◌≡◌, ap, ◌∙◌, arith}
use Rattle.layers.specs.Books.{with_reopened}
use Rattle.solo.proofs.Counting.{held_few}
use Rattle.solo.proofs.Credits.{by_both, by_nobody}
use Rattle.solo.proofs.Finishing.{still_at, still_since}
use Rattle.solo.proofs.rest.do_rest_of.Goals as goal

pub overflow_add-most : goal.overflow_add-most
overflow_add-most c = omega (arith, c.positions.ensures.count, held_few c.args.book.now c.tell.ensures, c.requires.few)

pub do_ranks-requires-clause-reopened : goal.do_ranks-requires-clause-reopened
do_ranks-requires-clause-reopened c =
    (still_at c.args.book.now c.reopen.new.self c.args.layer.now c.tell.ensures c.tell-2.ensures c.requires.begun
    (c.reopen.ensures ∙ ap with_reopened c.positions.ensures.same))

pub returns-in_err-within-clause-still : goal.returns-in_err-within-clause-still
returns-in_err-within-clause-still c =
    let reopened : c.reopen.new.self ≡ with_reopened c.args.book.now = c.reopen.ensures ∙ ap with_reopened c.positions.ensures.same in
    let still = still_since c.args.book.now c.reopen.new.self c.do_ranks.new.book c.args.layer.now reopened c.do_ranks.ensures.still in
    (still.alike, still.closed, still.begun)

pub returns-in_err-within-clause-credited : goal.returns-in_err-within-clause-credited
returns-in_err-within-clause-credited c =
    let worker = c.args.worker in let book = c.args.book.now in let opened = c.reopen.new.self in
    let reopened : opened ≡ with_reopened book = c.reopen.ensures ∙ ap with_reopened c.positions.ensures.same in
    by_both worker book opened c.do_ranks.new.book (by_nobody worker book opened (ap (λ v. v.done) reopened) (ap (λ v. v.tallies) reopened))
    c.do_ranks.ensures.credited

pub returns-clause-still : goal.returns-clause-still
returns-clause-still c =
    let reopened : c.reopen.new.self ≡ with_reopened c.args.book.now = c.reopen.ensures ∙ ap with_reopened c.positions.ensures.same in
    let still = still_since c.args.book.now c.reopen.new.self c.do_ranks.new.book c.args.layer.now reopened c.do_ranks.ensures.still in
    (still.alike, still.closed, still.begun)

pub returns-clause-credited : goal.returns-clause-credited
returns-clause-credited c =
    let worker = c.args.worker in let book = c.args.book.now in let opened = c.reopen.new.self in
    let reopened : opened ≡ with_reopened book = c.reopen.ensures ∙ ap with_reopened c.positions.ensures.same in
    by_both worker book opened c.do_ranks.new.book (by_nobody worker book opened (ap (λ v. v.done) reopened) (ap (λ v. v.tallies) reopened))
    c.do_ranks.ensures.credited

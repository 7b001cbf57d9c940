use Rattle.std.proofs.Common.{◌≡◌, length, refl, sym, ap, subst, ◌∙◌, arith}
use Rattle.std.specs.Prelude.{IfNone}
use Rattle.solo.specs.inside.Iterations.{GoesOn}
use Rattle.solo.specs.inside.Searched.{IsExamined, SearchView, with_layer}
use Rattle.solo.specs.inside.Together.{PassTogether}
use Rattle.solo.proofs.lemmas.Iterations.{all_shares, at_work, goes_on, may_begin, next_of}
use Rattle.solo.proofs.lemmas.Rests.{all_closed, none_closed}
use Rattle.solo.proofs.lemmas.Together.{still_dealt, still_working, together_limit}
use Rattle.solo.proofs.alone.iteration.Goals as goal

pub last_layer-requires : goal.last_layer-requires
last_layer-requires c = all_shares c.args.search.now 1 1 c.args.books.now (omega arith) c.requires

pub look-requires : goal.look-requires
look-requires c =
    record { next = next_of c.args.search.now 1 1 c.args.books.now c.in_ok-layer.layer (omega arith) c.requires c.in_ok-layer.ensures }

pub begin_each-requires : goal.begin_each-requires
begin_each-requires c =
    let s = c.args.search.now in let books = c.args.books.now in let layer = c.in_ok-layer.layer in
    may_begin s 1 1 books layer c.requires (next_of s 1 1 books layer (omega arith) c.requires c.in_ok-layer.ensures)

pub do_rest-requires-clause-level : goal.do_rest-requires-clause-level
do_rest-requires-clause-level c =
    (next_of c.args.search.now 1 1 c.args.books.now c.in_ok-layer.layer (omega arith) c.requires c.in_ok-layer.ensures).0
    ∙ ap (λ (v : SearchView). v.problem) (sym c.look.ensures.same)

pub do_rest-requires-clause-few : goal.do_rest-requires-clause-few
do_rest-requires-clause-few c = omega (arith, c.in_ok-begin_each.ensures.ok.0, c.requires.dealt.all)

pub do_rest-requires-clause-begun : goal.do_rest-requires-clause-begun
do_rest-requires-clause-begun c =
    let s = c.args.search.now in let books = c.args.books.now in let layer = c.in_ok-layer.layer in
    let next = next_of s 1 1 books layer (omega arith) c.requires c.in_ok-layer.ensures in
    let working = at_work s 1 1 books c.begin_each.new.books (length layer.places) layer c.requires next c.in_ok-begin_each.ensures.ok in
    λ i v at. (working.1 i v at).0

pub do_rest-requires-clause-worker : goal.do_rest-requires-clause-worker
do_rest-requires-clause-worker c =
    let s = c.args.search.now in let books = c.args.books.now in let layer = c.in_ok-layer.layer in
    let next = next_of s 1 1 books layer (omega arith) c.requires c.in_ok-layer.ensures in
    let working = at_work s 1 1 books c.begin_each.new.books (length layer.places) layer c.requires next c.in_ok-begin_each.ensures.ok in
    λ i v at. omega (arith, (working.0.each i v at).2)

pub returns-in_default-2-clause-answer : goal.returns-in_default-2-clause-answer
returns-in_default-2-clause-answer c =
    let s = c.args.search.now in let books = c.args.books.now in let layer = c.in_ok-layer.layer in
    let mid = c.begin_each.new.books in let after = c.do_rest.new.books in let still = c.do_rest.ensures.still in
    let next = next_of s 1 1 books layer (omega arith) c.requires c.in_ok-layer.ensures in
    let working = at_work s 1 1 books mid (length layer.places) layer c.requires next c.in_ok-begin_each.ensures.ok in
    let examined = subst (λ found. IfNone found (IsExamined s layer)) c.in_default.is c.in_ok-answer.ensures.onward in
    let passed : PassTogether c.look.new.self.limit after = rw c.in_default-2.is at c.in_ok-do_rest.ensures.passed in
    together_limit s 1 1 after layer (omega arith) next examined (still_dealt s.problem s.limit 1 1 layer mid after working.0 still)
    (still_working layer mid after working.1 still) (subst (λ (v : SearchView). PassTogether v.limit after) c.look.ensures.same passed)

pub returns-clause-onward : goal.returns-clause-onward
returns-clause-onward c =
    let s = c.args.search.now in let books = c.args.books.now in let layer = c.in_ok-layer.layer in
    let mid = c.begin_each.new.books in let done = c.do_rest.new.books in let after = c.close_rest.new.books in let still = c.do_rest.ensures.still in
    let next = next_of s 1 1 books layer (omega arith) c.requires c.in_ok-layer.ensures in
    let working = at_work s 1 1 books mid (length layer.places) layer c.requires next c.in_ok-begin_each.ensures.ok in
    let examined = subst (λ found. IfNone found (IsExamined s layer)) c.in_default.is c.in_ok-answer.ensures.onward in
    let grown : c.push.new.self ≡ with_layer s layer = c.in_ok-push.ensures.ok
    ∙ ap (λ (v : SearchView). with_layer v layer) (c.do_rest.ensures.same ∙ c.look.ensures.same) in
    let closed = all_closed done done after (rw c.in-Some-2.is at c.in_ok-do_rest.ensures.done).0 (none_closed done) c.in_ok-close_rest.ensures.ok in
    subst (λ v. GoesOn s v 1 1 after) (sym grown) (
      goes_on s 1 1 done after layer next (still_dealt s.problem s.limit 1 1 layer mid done working.0 still) (still_working layer mid done working.1 still) closed,
      refl,
      refl,
      omega (arith, examined.filled),
      examined.looked.within,
    )

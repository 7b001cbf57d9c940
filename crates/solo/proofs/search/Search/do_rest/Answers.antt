use Rattle.std.proofs.Common.{◌≡◌, ◌+◌, ◌<◌, length, get_or, set, IfSome, sym, ap, subst, ◌∙◌, arith}
use Rattle.std.specs.Prelude.{MatchBool, slice_get}
use Rattle.std.proofs.lemmas.List.{length-set}
use Rattle.std.proofs.lemmas.Option.{slice_get-get_or}
use Rattle.layers.specs.Books.{AllDone}
use Rattle.layers.specs.Holding.{all_held, held}
use Rattle.successors.specs.Problems.{Problem}
use Rattle.solo.specs.inside.Searched.{SearchView}
use Rattle.solo.specs.inside.Together.{AreAllDone, AreStill, IsFullBook, PassTogether}
use Rattle.solo.specs.inside.Iterations.{AreDoneBy}
use Rattle.solo.proofs.Counting.{IsDoneWith, all_credited, all_still, both_if_some, full_pass, next_credited, next_same, next_still}
use Rattle.solo.proofs.Each.{HaveChangedUpTo, all_changed, none_changed, one_changed}
use Rattle.solo.proofs.lemmas.Iterations.{back_to}
use Rattle.solo.proofs.search.Search.do_rest.Goals as goal

pub loop-index-init : goal.loop-index-init
loop-index-init c = record {
  done = none_changed (IsDoneWith c.args.layer.now c.args.worker) c.args.books.now;
  few = c.requires.few;
  size = c.self.invariant.1 ∙ ap (λ (v : SearchView). length v.problem.board.cells) c.self.view_is
      ∙ ap (λ (t : Problem). length t.board.cells) (sym c.requires.level);
}

pub do_rest_of-requires-clause-begun : goal.do_rest_of-requires-clause-begun
do_rest_of-requires-clause-begun c =
    let books = c.left_of.new.books in let index = c.loop-index.index in let d = c.index-books-index.result in
    c.requires.begun index (get_or books index d) (next_same c.args.layer.now c.args.worker c.args.books.now c.loop-index.books index
    c.loop-index.invariant.done c.requires.begun books d c.left_of.ensures.same (omega (arith, c.loop-index-test.true)))

pub do_rest_of-requires-clause-worker : goal.do_rest_of-requires-clause-worker
do_rest_of-requires-clause-worker c =
    let books = c.left_of.new.books in let index = c.loop-index.index in let d = c.index-books-index.result in
    c.requires.worker index (get_or books index d) (next_same c.args.layer.now c.args.worker c.args.books.now c.loop-index.books index
    c.loop-index.invariant.done c.requires.begun books d c.left_of.ensures.same (omega (arith, c.loop-index-test.true)))

pub loop-index-preserved : goal.loop-index-preserved
loop-index-preserved c =
    let layer = c.args.layer.now in let before = c.args.books.now in let now = c.loop-index.books in let books = c.left_of.new.books in
    let index = c.loop-index.index in let d = c.index-books-index.result in let after = c.do_rest_of.new.book in
    let same = c.left_of.ensures.same in let so = c.loop-index.invariant.done in
    let at = next_same layer c.args.worker before now index so c.requires.begun books d same (omega (arith, c.loop-index-test.true)) in
    let all : AllDone after = subst (λ within. MatchBool within (AllDone after) (IsFullBook (held (get_or books index d) + c.in-Some.left) after))
    c.if-not-branch.false c.in_ok-do_rest_of.ensures.within in
    record {
      done = one_changed (IsDoneWith layer c.args.worker) before index books (get_or books index d) after
          (subst (HaveChangedUpTo (IsDoneWith layer c.args.worker) before index) (sym same) so) at
          (c.do_rest_of.ensures.still, c.do_rest_of.ensures.credited, all);
      few = omega (arith, length-set books index after, ap length same, c.loop-index.invariant.few);
      size = c.do_rest_of.ensures.size ∙ c.loop-index.invariant.size;
    }

pub returns-in_err-do_rest_of-clause-still : goal.returns-in_err-do_rest_of-clause-still
returns-in_err-do_rest_of-clause-still c =
    next_still c.args.layer.now c.args.worker c.args.books.now c.loop-index.books c.loop-index.index c.loop-index.invariant.done c.requires.begun
    c.left_of.new.books c.index-books-index.result c.left_of.ensures.same (omega (arith, c.loop-index-test.true)) c.do_rest_of.new.book
    c.do_rest_of.ensures.still

pub returns-in_err-do_rest_of-clause-credited : goal.returns-in_err-do_rest_of-clause-credited
returns-in_err-do_rest_of-clause-credited c =
    next_credited c.args.layer.now c.args.worker c.args.books.now c.loop-index.books c.loop-index.index c.loop-index.invariant.done c.requires.begun
    c.left_of.new.books c.index-books-index.result c.left_of.ensures.same (omega (arith, c.loop-index-test.true)) c.do_rest_of.new.book
    c.do_rest_of.ensures.credited

pub returns-then-not-branch-clause-still : goal.returns-then-not-branch-clause-still
returns-then-not-branch-clause-still c =
    next_still c.args.layer.now c.args.worker c.args.books.now c.loop-index.books c.loop-index.index c.loop-index.invariant.done c.requires.begun
    c.left_of.new.books c.index-books-index.result c.left_of.ensures.same (omega (arith, c.loop-index-test.true)) c.do_rest_of.new.book
    c.do_rest_of.ensures.still

pub returns-then-not-branch-clause-credited : goal.returns-then-not-branch-clause-credited
returns-then-not-branch-clause-credited c =
    next_credited c.args.layer.now c.args.worker c.args.books.now c.loop-index.books c.loop-index.index c.loop-index.invariant.done c.requires.begun
    c.left_of.new.books c.index-books-index.result c.left_of.ensures.same (omega (arith, c.loop-index-test.true)) c.do_rest_of.new.book
    c.do_rest_of.ensures.credited

pub returns-then-not-branch-clause-passed : goal.returns-then-not-branch-clause-passed
returns-then-not-branch-clause-passed c =
    let books = c.left_of.new.books in let index = c.loop-index.index in let d = c.index-books-index.result in let after = c.do_rest_of.new.book in
    let lt : index < length books = omega (arith, c.loop-index-test.true, ap length c.left_of.ensures.same, c.loop-index.invariant.done.same) in
    let full : IsFullBook (held (get_or books index d) + c.in-Some.left) after = subst (λ within. MatchBool within (AllDone after)
    (IsFullBook (held (get_or books index d) + c.in-Some.left) after)) c.if-not-branch.true c.in_ok-do_rest_of.ensures.within in
    subst (λ (v : SearchView). PassTogether v.limit (set books index after)) c.self.view_is
    (full_pass c.self.inside.limit c.in-Some.left books index (get_or books index d) after c.in-Some.ensures.left c.left_of.ensures.lawful
    (slice_get-get_or books index d lt) c.in_ok-do_rest_of.ensures.lawful full)

pub returns-in_default-clause-still : goal.returns-in_default-clause-still
returns-in_default-clause-still c =
    let layer = c.args.layer.now in let before = c.args.books.now in
    subst (AreStill layer before) (sym c.left_of.ensures.same)
    (all_still layer c.args.worker before c.loop-index.books c.loop-index.index c.loop-index.invariant.done c.requires.begun)

pub returns-in_default-clause-credited : goal.returns-in_default-clause-credited
returns-in_default-clause-credited c =
    let worker = c.args.worker in let before = c.args.books.now in
    subst (AreDoneBy worker before) (sym c.left_of.ensures.same)
    (all_credited c.args.layer.now worker before c.loop-index.books c.loop-index.index c.loop-index.invariant.done c.requires.begun)

pub returns-clause-still : goal.returns-clause-still
returns-clause-still c =
    let layer = c.args.layer.now in let before = c.args.books.now in
    subst (AreStill layer before) (sym c.left_of-2.ensures.same)
    (all_still layer c.args.worker before c.loop-index.books c.loop-index.index c.loop-index.invariant.done c.requires.begun)

pub returns-clause-credited : goal.returns-clause-credited
returns-clause-credited c =
    let worker = c.args.worker in let before = c.args.books.now in
    subst (AreDoneBy worker before) (sym c.left_of-2.ensures.same)
    (all_credited c.args.layer.now worker before c.loop-index.books c.loop-index.index c.loop-index.invariant.done c.requires.begun)

pub returns-clause-done : goal.returns-clause-done
returns-clause-done c =
    let before = c.args.books.now in let now = c.loop-index.books in let after = c.left_of-2.new.books in
    let One = IsDoneWith c.args.layer.now c.args.worker in
    let so = all_changed One before c.loop-index.index now (omega (arith, c.loop-index-test.false, c.loop-index.invariant.done.same))
    c.loop-index.invariant.done in
    let all : AreAllDone after = λ i v at. (back_to One before now so i v (ap (λ bs. slice_get bs i) (sym c.left_of-2.ensures.same) ∙ at)).2.2 in
    subst (λ (v : SearchView). IfSome c.left_of-2.result (λ n. AreAllDone after × (n + all_held after ≡ v.limit))) c.self.view_is
    (both_if_some (λ n. n + all_held after ≡ c.self.inside.limit) c.left_of-2.result all c.left_of-2.ensures.left)

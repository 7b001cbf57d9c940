use Rattle.std.proofs.Common.{◌≡◌, false, true, get_or, sym, ap, subst, ◌∙◌, arith}
use Rattle.std.proofs.lemmas.Option.{slice_get_within}
use Rattle.std.specs.Prelude.{MatchBool}
use Rattle.layers.specs.Books.{with_parcel}
use Rattle.solo.specs.inside.Iterations.{IsDoneBy, with_over}
use Rattle.solo.proofs.Credits.{by_both, by_nobody, by_parcel}
use Rattle.solo.proofs.Finishing.{done_still, done_claimed, due_next, due_work, fewer_left}
use Rattle.solo.proofs.ranks.do_ranks.Goals as goal

pub loop-book-init : goal.loop-book-init
loop-book-init c = record {
  credited = by_nobody c.args.worker c.args.book.now c.claim.new.self (ap (λ v. v.done) c.in-Some.ensures.3) (ap (λ v. v.tallies) c.in-Some.ensures.3);
  due = due_next c.args.book.now c.args.book.now c.claim.new.self c.args.layer.now c.expand_over-parcel.result c.in-Some.first c.requires.reopened.0
      (λ r e. subst (λ bs. get_or bs r false ≡ true) c.requires.reopened.1 e) c.in-Some.ensures c.expand_over-parcel.ensures.of;
  size = c.expand_over-parcel.ensures.size;
}

pub enter-requires-clause-work : goal.enter-requires-clause-work
enter-requires-clause-work c = due_work c.args.book.now c.loop-book.book c.args.layer.now c.loop-book.parcel c.loop-book.invariant.due

pub expand_over_into-requires-clause-within : goal.expand_over_into-requires-clause-within
expand_over_into-requires-clause-within c =
    let book = c.loop-book.book in let parcel = c.loop-book.parcel in let after = c.enter.new.book in
    let entered : after ≡ with_parcel book c.args.worker parcel = subst (λ within. MatchBool within (after ≡ with_parcel book c.args.worker parcel)
    (after ≡ with_over book)) c.if-not-branch.false c.in_ok-enter.ensures.ok in omega (
      arith,
      slice_get_within after.done c.in-Some-claim.claim.rank false c.in-Some-claim.ensures.1.1,
      (done_still c.args.book.now book after c.args.layer.now parcel c.args.worker c.loop-book.invariant.due entered).ranks,
    )

pub returns-in_default-claim-clause-credited : goal.returns-in_default-claim-clause-credited
returns-in_default-claim-clause-credited c =
    let book = c.loop-book.book in let parcel = c.loop-book.parcel in let after = c.enter.new.book in let start = c.args.book.now in
    let entered : after ≡ with_parcel book c.args.worker parcel = subst (λ within. MatchBool within
    (after ≡ with_parcel book c.args.worker parcel) (after ≡ with_over book)) c.if-not-branch.false c.in_ok-enter.ensures.ok in
    subst (IsDoneBy c.args.worker start) (sym c.in_default-claim.ensures.1)
    (by_both c.args.worker start book after c.loop-book.invariant.credited (by_parcel c.args.worker book after parcel c.loop-book.invariant.due.free entered))

pub loop-book-smaller : goal.loop-book-smaller
loop-book-smaller c =
    let book = c.loop-book.book in let parcel = c.loop-book.parcel in let after = c.enter.new.book in
    let entered : after ≡ with_parcel book c.args.worker parcel = subst
    (λ within. MatchBool within (after ≡ with_parcel book c.args.worker parcel) (after ≡ with_over book)) c.if-not-branch.false c.in_ok-enter.ensures.ok in
    fewer_left c.args.book.now book after c.claim-in-loop-book.new.self c.args.layer.now parcel c.args.worker c.loop-book.invariant.due entered
    (ap (λ v. v.done) c.in-Some-claim.ensures.3)

pub loop-book-preserved : goal.loop-book-preserved
loop-book-preserved c =
    let book = c.loop-book.book in let parcel = c.loop-book.parcel in let after = c.enter.new.book in let start = c.args.book.now in
    let due = c.loop-book.invariant.due in
    let entered : after ≡ with_parcel book c.args.worker parcel =
    subst (λ within. MatchBool within (after ≡ with_parcel book c.args.worker parcel) (after ≡ with_over book)) c.if-not-branch.false
    c.in_ok-enter.ensures.ok in let claimed = c.in-Some-claim.ensures.3 in let next = c.claim-in-loop-book.new.self in
    let credited = by_both c.args.worker start book after c.loop-book.invariant.credited (by_parcel c.args.worker book after parcel due.free entered) in
    record {
      credited = by_both c.args.worker start after next credited (by_nobody c.args.worker after next (ap (λ v. v.done) claimed) (ap (λ v. v.tallies) claimed));
      due = due_next start after c.claim-in-loop-book.new.self c.args.layer.now c.expand_over_into.new.parcel c.in-Some-claim.claim
          (done_still start book after c.args.layer.now parcel c.args.worker due entered)
          (done_claimed start book after c.args.layer.now parcel c.args.worker due entered) c.in-Some-claim.ensures c.expand_over_into.ensures.of;
      size = c.expand_over_into.ensures.size ∙ c.loop-book.invariant.size;
    }

pub returns-then-positions_at_least-most-clause-credited : goal.returns-then-positions_at_least-most-clause-credited
returns-then-positions_at_least-most-clause-credited c =
    let book = c.loop-book.book in let parcel = c.loop-book.parcel in let after = c.enter.new.book in
    let entered : after ≡ with_parcel book c.args.worker parcel = subst (λ within. MatchBool
    within (after ≡ with_parcel book c.args.worker parcel) (after ≡ with_over book)) c.if-not-branch.false c.in_ok-enter.ensures.ok in
    by_both c.args.worker c.args.book.now book after c.loop-book.invariant.credited
    (by_parcel c.args.worker book after parcel c.loop-book.invariant.due.free entered)

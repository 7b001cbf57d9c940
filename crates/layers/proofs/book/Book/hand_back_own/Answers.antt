use Rattle.std.proofs.Common.{◌≡◌, ◌<◌, Bool, List, length, fold, slice_get, true, false, Some, refl, ap, sym, subst, ◌∙◌, arith}
use Rattle.std.proofs.lemmas.Result.{err_from_is_err_and}
use Rattle.grid.specs.Lawful.{box_count}
use Rattle.layers.specs.BookView.{BookView}
use Rattle.store.specs.Entries.{Closed}
use Rattle.store.specs.FoundView.{FoundView, with_entered}
use Rattle.layers.specs.inside.BookInside.{book_view, AreCuts, IsSoundBook}
use Rattle.layers.specs.Books.{IsAtWork, IsClaimedOrDone}
use Rattle.store.specs.Entering.{is_wanted_in, entered}
use Rattle.layers.proofs.Cuts.{total-cuts}
use Rattle.layers.proofs.lemmas.Books.{begun-since, few_ranks, tally_bound}
use Rattle.layers.proofs.lemmas.BookFields.{handed_all, limit_same, none_entered, nothing_passes, may_enter, over_limit, over_lawful, taken_done, fits_few}
use Rattle.layers.proofs.book.Book.hand_back_own.Goals as goal

pub passes-requires-clause-few : goal.passes-requires-clause-few
passes-requires-clause-few c =
    let found : IsAtWork c.args.self.now c.args.parcel.now × (slice_get c.args.self.now.done c.args.parcel.now.rank ≡ Some false) = c.in_default.ensures.none in
    let boxes : c.self.inside.found.boxes ≡ box_count c.args.self.now.level.board = c.self.invariant.boxes.0
    ∙ ap (λ (v : BookView). box_count v.level.board) c.self.view_is in
    let squares : c.self.inside.found.squares ≡ length c.args.self.now.level.board.cells = c.self.invariant.boxes.1
    ∙ ap (λ (v : BookView). length v.level.board.cells) c.self.view_is in
    fits_few c.args.parcel.now c.tell.ensures c.args.self.now.level found.0.0 c.self.inside.found boxes squares c.successors-successors.result.now
    c.successors-successors.ensures

pub passes-requires-clause-within : goal.passes-requires-clause-within
passes-requires-clause-within c = omega (
  arith,
  c.self.invariant.lawful.within,
  total-cuts c.self.inside.starts.items c.self.inside.found.seen c.self.invariant.cuts,
)

pub returns-then-self-clause-err : goal.returns-then-self-clause-err
returns-then-self-clause-err c = λ i. record c.args.self.now { over = (ap (λ (v : BookView). v.over) (sym c.self.view_is) ∙ c.if-self.true) i }

pub returns-then-passes-clause-refusal : goal.returns-then-passes-clause-refusal
returns-then-passes-clause-refusal c =
    let a = c.self.inside in let p = c.args.parcel.now in let now = c.args.self.now in
    let found : IsAtWork now p × (slice_get now.done p.rank ≡ Some false) = c.in_default.ensures.none in
    let passed = limit_same a c.self.invariant.cuts now c.self.view_is p.rank c.successors-successors.result.now p.successors c.successors-successors.ensures
    true (c.if-passes.ensures.passed p.rank) in (found.0, found.1, over_limit now p passed)

pub returns-in_err-enter_all-clause-refusal : goal.returns-in_err-enter_all-clause-refusal
returns-in_err-enter_all-clause-refusal c =
    let given = err_from_is_err_and c.from_residual.result c.from_residual.ensures.1 in
    let a = c.self.inside in let p = c.args.parcel.now in let now = c.args.self.now in
    let within = limit_same a c.self.invariant.cuts now c.self.view_is p.rank c.successors-successors.result.now p.successors c.successors-successors.ensures
    false (c.if-passes.ensures.passed p.rank) in
    rw (given.1, given.2) (may_enter now p c.in_default.ensures.none (ap (λ (v : BookView). v.over) (sym c.self.view_is) ∙ c.if-self.false) within)

pub returns-clause-may : goal.returns-clause-may
returns-clause-may c =
    let a = c.self.inside in let p = c.args.parcel.now in let now = c.args.self.now in
    let within = limit_same a c.self.invariant.cuts now c.self.view_is p.rank c.successors-successors.result.now p.successors
    c.successors-successors.ensures false (c.if-passes.ensures.passed p.rank) in
    may_enter now p c.in_default.ensures.none (ap (λ (v : BookView). v.over) (sym c.self.view_is) ∙ c.if-self.false) within

pub invariant_of-self-then-passes : goal.invariant_of-self-then-passes
invariant_of-self-then-passes c =
    let a = c.self.inside in let p = c.args.parcel.now in let now = c.args.self.now in
    let found : IsAtWork now p × (slice_get now.done p.rank ≡ Some false) = c.in_default.ensures.none in
    let passed = limit_same a c.self.invariant.cuts now c.self.view_is p.rank c.successors-successors.result.now p.successors
    c.successors-successors.ensures true (c.if-passes.ensures.passed p.rank) in
    subst (λ (f : FoundView). IsSoundBook (record a { found = f; over = true })) (sym c.passes.ensures.same) (record {
      lawful = over_lawful a c.self.invariant.lawful c.self.invariant.cuts p c.tell.ensures now c.self.view_is found passed;
      few = c.self.invariant.few;
      boxes = c.self.invariant.boxes;
      cuts = c.self.invariant.cuts;
      taken = c.self.invariant.taken;
    })

pub enter_all-requires-clause-rank : goal.enter_all-requires-clause-rank
enter_all-requires-clause-rank c =
    let a = c.self.inside in
    let found : IsAtWork c.args.self.now c.args.parcel.now × (slice_get c.args.self.now.done c.args.parcel.now.rank ≡ Some false) = c.in_default.ensures.none in
    let lt : c.args.parcel.now.rank < length a.done = subst (λ v. c.args.parcel.now.rank < length v.done) (sym c.self.view_is) found.0.2 in
    omega (arith, few_ranks (book_view a) c.self.invariant.lawful c.args.parcel.now.rank lt)

pub enter_all-requires-clause-few : goal.enter_all-requires-clause-few
enter_all-requires-clause-few c =
    let found : IsAtWork c.args.self.now c.args.parcel.now × (slice_get c.args.self.now.done c.args.parcel.now.rank ≡ Some false) = c.in_default.ensures.none in
    let boxes : c.passes.new.self.boxes ≡ box_count c.args.self.now.level.board = ap (λ (f : FoundView). f.boxes) c.passes.ensures.same
    ∙ c.self.invariant.boxes.0 ∙ ap (λ (v : BookView). box_count v.level.board) c.self.view_is in
    let squares : c.passes.new.self.squares ≡ length c.args.self.now.level.board.cells = ap (λ (f : FoundView). f.squares) c.passes.ensures.same
    ∙ c.self.invariant.boxes.1 ∙ ap (λ (v : BookView). length v.level.board.cells) c.self.view_is in
    fits_few c.args.parcel.now c.tell.ensures c.args.self.now.level found.0.0 c.passes.new.self boxes squares c.args.parcel.now.successors refl

pub invariant_of-self-in_err-enter_all : goal.invariant_of-self-in_err-enter_all
invariant_of-self-in_err-enter_all c =
    let kept : c.enter_all.new.self ≡ c.self.inside.found = c.in_err-enter_all.ensures.err
    ∙ c.passes.ensures.same in subst (λ (f : FoundView). IsSoundBook (record c.self.inside { found = f })) (sym kept) c.self.invariant

pub mark-requires-clause-few : goal.mark-requires-clause-few
mark-requires-clause-few c =
    let a = c.self.inside in let rank = c.args.parcel.now.rank in
    let found : IsAtWork c.args.self.now c.args.parcel.now × (slice_get c.args.self.now.done rank ≡ Some false) = c.in_default.ensures.none in
    let lt : rank < length a.done = subst (λ v. rank < length v.done) (sym c.self.view_is) found.0.2 in
    tally_bound (book_view a) c.self.invariant.lawful (begun-since (book_view a) c.self.invariant.lawful rank lt) c.args.worker

pub invariant_of-self : goal.invariant_of-self
invariant_of-self c =
    let a = c.self.inside in let p = c.args.parcel.now in let now = c.args.self.now in
    let found : IsAtWork now p × (slice_get now.done p.rank ≡ Some false) = c.in_default.ensures.none in
    let same = none_entered a.found.seen a.shares a.share p.rank 0 p.successors a.found.waiting (c.if-brings_nothing.ensures refl) in
    let all = handed_all a c.self.invariant.lawful c.self.invariant.cuts p c.tell.ensures now c.self.view_is found c.args.worker c.rank-rank.result
    a.found.seen a.found.waiting c.mark.new.done c.mark.new.tallies.items
    refl (sym same) c.mark.ensures.done c.rank-rank.ensures c.mark.ensures.tally (subst (λ v. c.args.worker < v.workers) (sym c.self.view_is) c.requires.worker)
    c.if-self.false (nothing_passes a c.self.invariant.lawful c.self.invariant.cuts now c.self.view_is p.rank p.successors same) in record {
      lawful = all.0;
      few = c.self.invariant.few;
      boxes = c.self.invariant.boxes;
      cuts = c.self.invariant.cuts;
      taken = λ r lt. subst (λ (bs : List Bool). IsClaimedOrDone (record (book_view a) { done = bs }) r) (sym c.mark.ensures.done)
          (taken_done (book_view a) c.rank-rank.result r (c.self.invariant.taken r lt));
    }

pub returns-then-brings_nothing-clause-may : goal.returns-then-brings_nothing-clause-may
returns-then-brings_nothing-clause-may c =
    let a = c.self.inside in let p = c.args.parcel.now in let now = c.args.self.now in
    let same = none_entered a.found.seen a.shares a.share p.rank 0 p.successors a.found.waiting (c.if-brings_nothing.ensures refl) in
    may_enter now p c.in_default.ensures.none (ap (λ (v : BookView). v.over) (sym c.self.view_is) ∙ c.if-self.false)
    (nothing_passes a c.self.invariant.lawful c.self.invariant.cuts now c.self.view_is p.rank p.successors same)

pub returns-then-brings_nothing-clause-ok : goal.returns-then-brings_nothing-clause-ok
returns-then-brings_nothing-clause-ok c =
    let a = c.self.inside in let p = c.args.parcel.now in let now = c.args.self.now in
    let found : IsAtWork now p × (slice_get now.done p.rank ≡ Some false) = c.in_default.ensures.none in
    let same = none_entered a.found.seen a.shares a.share p.rank 0 p.successors a.found.waiting (c.if-brings_nothing.ensures refl) in
    let all = handed_all a c.self.invariant.lawful c.self.invariant.cuts p c.tell.ensures now c.self.view_is found c.args.worker
    c.rank-rank.result a.found.seen a.found.waiting c.mark.new.done c.mark.new.tallies.items
    refl (sym same) c.mark.ensures.done c.rank-rank.ensures c.mark.ensures.tally
    (subst (λ v. c.args.worker < v.workers) (sym c.self.view_is) c.requires.worker) c.if-self.false
    (nothing_passes a c.self.invariant.lawful c.self.invariant.cuts now c.self.view_is p.rank p.successors same) in
    all.1

pub invariant_of-self-2 : goal.invariant_of-self-2
invariant_of-self-2 c =
    let a = c.self.inside in let p = c.args.parcel.now in let now = c.args.self.now in
    let found : IsAtWork now p × (slice_get now.done p.rank ≡ Some false) = c.in_default.ensures.none in
    let put = c.in_ok-enter_all.ensures.ok
    ∙ ap (λ (f : FoundView). with_entered f a.shares a.share p.rank p.successors) c.passes.ensures.same in
    let seen : c.enter_all.new.self.seen ≡ a.found.seen = ap (λ (f : FoundView). f.seen) put in
    let waits : c.enter_all.new.self.waiting ≡ fold (entered (is_wanted_in a.found.seen a.shares a.share) p.rank) a.found.waiting p.successors =
    ap (λ (f : FoundView). f.waiting) put in
    let all = handed_all a c.self.invariant.lawful c.self.invariant.cuts p c.tell.ensures now c.self.view_is found c.args.worker c.rank-rank.result
    c.enter_all.new.self.seen c.enter_all.new.self.waiting c.mark-2.new.done c.mark-2.new.tallies.items
    seen waits c.mark-2.ensures.done c.rank-rank.ensures c.mark-2.ensures.tally (subst (λ v. c.args.worker < v.workers) (sym c.self.view_is) c.requires.worker)
    c.if-self.false
    (limit_same a c.self.invariant.cuts now c.self.view_is p.rank c.successors-successors.result.now p.successors c.successors-successors.ensures false
    (c.if-passes.ensures.passed p.rank)) in record {
      lawful = all.0;
      few = c.self.invariant.few;
      boxes = (ap (λ (f : FoundView). f.boxes) put ∙ c.self.invariant.boxes.0, ap (λ (f : FoundView). f.squares) put ∙ c.self.invariant.boxes.1);
      cuts = subst (λ (xs : List Closed). AreCuts a.starts.items (length xs)) (sym seen) c.self.invariant.cuts;
      taken = λ r lt. subst (λ (bs : List Bool). IsClaimedOrDone (record (book_view a) { done = bs }) r) (sym c.mark-2.ensures.done)
          (taken_done (book_view a) c.rank-rank.result r (c.self.invariant.taken r lt));
    }

pub returns-in_err-enter_all-clause-err : goal.returns-in_err-enter_all-clause-err
returns-in_err-enter_all-clause-err c =
    let given = err_from_is_err_and c.from_residual.result c.from_residual.ensures.1 in
    let kept : c.enter_all.new.self ≡ c.self.inside.found = c.in_err-enter_all.ensures.err ∙ c.passes.ensures.same in
    rw (given.1, given.2) (ap (λ (f : FoundView). book_view (record c.self.inside { found = f })) kept ∙ c.self.view_is)

pub returns-clause-ok : goal.returns-clause-ok
returns-clause-ok c =
    let a = c.self.inside in let p = c.args.parcel.now in let now = c.args.self.now in
    let found : IsAtWork now p × (slice_get now.done p.rank ≡ Some false) = c.in_default.ensures.none in
    let put = c.in_ok-enter_all.ensures.ok ∙ ap
    (λ (f : FoundView). with_entered f a.shares a.share p.rank p.successors) c.passes.ensures.same in
    let seen : c.enter_all.new.self.seen ≡ a.found.seen = ap (λ (f : FoundView). f.seen) put in
    let waits : c.enter_all.new.self.waiting ≡ fold (entered (is_wanted_in a.found.seen a.shares a.share) p.rank) a.found.waiting p.successors =
    ap (λ (f : FoundView). f.waiting) put in
    let all = handed_all a c.self.invariant.lawful c.self.invariant.cuts p c.tell.ensures now c.self.view_is found c.args.worker
    c.rank-rank.result c.enter_all.new.self.seen c.enter_all.new.self.waiting c.mark-2.new.done c.mark-2.new.tallies.items
    seen waits c.mark-2.ensures.done c.rank-rank.ensures c.mark-2.ensures.tally
    (subst (λ v. c.args.worker < v.workers) (sym c.self.view_is) c.requires.worker) c.if-self.false
    (limit_same a c.self.invariant.cuts now c.self.view_is p.rank c.successors-successors.result.now p.successors c.successors-successors.ensures
    false (c.if-passes.ensures.passed p.rank)) in all.1

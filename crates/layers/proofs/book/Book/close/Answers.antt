use Rattle.std.proofs.Common.{◌≡◌, ◌++◌, ◌∷◌, [], ℕ, ◌-◌, List, length, map, inl, inr, sym, ap, subst, ◌∙◌, arith}
use Rattle.std.proofs.lemmas.List.{length-append, length-map}
use Rattle.std.proofs.lemmas.Result.{err_from_is_err_and}
use Rattle.store.specs.FoundView.{FoundView}
use Rattle.layers.specs.inside.BookInside.{book_view, cut_at, AreCuts, IsSoundBook}
use Rattle.layers.specs.BookView.{IsLawfulBook}
use Rattle.layers.specs.Books.{AllDone, CloseRefused}
use Rattle.store.specs.Entering.{AreReordered, RiseByOrigin, closed_entry}
use Rattle.layers.specs.declared.fault.CloseFault.TheVariants.{NotAll}
use Rattle.layers.proofs.lemmas.BookFields.{closed_lawful, closed_cuts, closed_by}
use Rattle.layers.proofs.book.Book.close.Goals.{then-not-self-via-then-not-self, then-not-self-via-else-not-self+then-not-are_all_set}
use Rattle.layers.proofs.book.Book.close.Goals as goal

pub returns-then-not-self-clause-fault : goal.returns-then-not-self-clause-fault
returns-then-not-self-clause-fault c =
    subst (λ v. CloseRefused v NotAll) c.self.view_is
    (elim c.then-not-self.branch [
      | then-not-self-via-then-not-self w ↦ inl w.if-not-self.true
      | then-not-self-via-else-not-self+then-not-are_all_set w ↦ inr w.if-not-are_all_set.ensures
    ])

pub invariant_of-self-in_err-close : goal.invariant_of-self-in_err-close
invariant_of-self-in_err-close c =
    let a = c.self.inside in
    let starts : c.reserve.new.self.items ≡ a.starts.items = c.reserve.ensures.items in
    let kept : c.close.new.self ≡ a.found = c.in_err-close.ensures.err in
    subst (λ (f : FoundView). IsSoundBook (record a { found = f; starts = c.reserve.new.self })) (sym kept) (record {
      lawful = subst (λ s. IsLawfulBook (record (book_view a) { closed = cut_at s a.found.seen })) (sym starts) c.self.invariant.lawful;
      few = c.self.invariant.few;
      boxes = c.self.invariant.boxes;
      cuts = subst (λ s. AreCuts s (length a.found.seen)) (sym starts) c.self.invariant.cuts;
      taken = c.self.invariant.taken;
    })

pub returns-in_err-close-clause-err : goal.returns-in_err-close-clause-err
returns-in_err-close-clause-err c =
    let given = err_from_is_err_and c.from_residual-in_err-close.result c.from_residual-in_err-close.ensures.1 in
    let a = c.self.inside in
    let starts : c.reserve.new.self.items ≡ a.starts.items = c.reserve.ensures.items in
    let kept : c.close.new.self ≡ a.found = c.in_err-close.ensures.err in
    rw given.1 ((λ i. record (book_view a) { closed = cut_at (starts i) ((kept i).seen); waiting = (kept i).waiting }) ∙ c.self.view_is)

pub invariant_of-self-2 : goal.invariant_of-self-2
invariant_of-self-2 c =
    let a = c.self.inside in
    let done = c.in_ok-close.ensures.seen in
    let waits = c.in_ok-close.ensures.waiting in
    let ys = done.0 in
    let all : AllDone (book_view a) = (c.if-not-self.false, c.if-not-are_all_set.ensures) in
    let same : AreReordered a.found.waiting ys = done.1 in
    let rise : RiseByOrigin ys = done.2 in
    let starts_are : c.push_reserved.new.self.items ≡ a.starts.items ++ c.closed_len-start.result ∷ [] = c.push_reserved.ensures.items
    ∙ ap (λ (xs : List ℕ). xs ++ c.closed_len-start.result ∷ []) c.reserve.ensures.items in
    let n_is : c.closed_len-start.result ≡ length a.found.seen = c.closed_len-start.ensures in
    let seen_are : c.close.new.self.seen ≡ a.found.seen ++ map closed_entry ys = done.3 in
    record {
      lawful = closed_lawful a c.self.invariant.lawful c.self.invariant.cuts all ys same rise c.push_reserved.new.self.items c.close.new.self.seen
          c.clear.new.self c.clear-2.new.self c.close.new.self.waiting c.closed_len-start.result starts_are n_is seen_are c.clear.ensures c.clear-2.ensures
          waits;
      few = c.self.invariant.few;
      boxes = (c.close.ensures.boxes ∙ c.self.invariant.boxes.0, c.close.ensures.squares ∙ c.self.invariant.boxes.1);
      cuts = closed_cuts a c.self.invariant.lawful c.self.invariant.cuts all ys same rise c.push_reserved.new.self.items c.close.new.self.seen c.clear.new.self
          c.clear-2.new.self c.close.new.self.waiting c.closed_len-start.result starts_are n_is seen_are c.clear.ensures c.clear-2.ensures waits;
      taken = λ r lt. absurd (omega arith);
    }

pub returns-clause-ok : goal.returns-clause-ok
returns-clause-ok c =
    let a = c.self.inside in
    let done = c.in_ok-close.ensures.seen in
    let waits = c.in_ok-close.ensures.waiting in
    let ys = done.0 in
    let all : AllDone (book_view a) = (c.if-not-self.false, c.if-not-are_all_set.ensures) in
    let same : AreReordered a.found.waiting ys = done.1 in
    let rise : RiseByOrigin ys = done.2 in
    let starts_are : c.push_reserved.new.self.items ≡ a.starts.items ++ c.closed_len-start.result ∷ [] = c.push_reserved.ensures.items ∙ ap
    (λ (xs : List ℕ). xs ++ c.closed_len-start.result ∷ []) c.reserve.ensures.items in
    let n_is : c.closed_len-start.result ≡ length a.found.seen = c.closed_len-start.ensures in
    let seen_are : c.close.new.self.seen ≡ a.found.seen ++ map closed_entry ys = done.3 in
    let long : c.len-layer.result ≡ length a.starts.items = omega (arith, c.len-layer.ensures) in
    closed_by a c.self.invariant.lawful c.self.invariant.cuts all ys same rise c.push_reserved.new.self.items c.close.new.self.seen c.clear.new.self
    c.clear-2.new.self c.close.new.self.waiting c.closed_len-start.result starts_are n_is seen_are c.clear.ensures c.clear-2.ensures waits
    c.args.self.now c.self.view_is c.len-layer.result (c.closed_len.result - c.closed_len-start.result) long
    (omega (arith, c.closed_len.ensures, n_is, ap length seen_are, length-append a.found.seen (map closed_entry ys), length-map ys closed_entry, same.0))

use Rattle.std.proofs.Common.{◌≡◌, ℕ, ◌+◌, ◌<◌, Bool, List, false, true, length, slice_get, set, None, Some, inr, ap, sym, refl, subst, ◌∙◌, arith}
use Rattle.std.proofs.lemmas.List.{length-set}
use Rattle.std.proofs.lemmas.Option.{slice_get-get_or}
use Rattle.layers.specs.inside.BookInside.{book_view, IsSoundBook}
use Rattle.layers.specs.BookView.{IsLawfulBook}
use Rattle.layers.specs.Books.{ClaimAnswer, IsClaimedOrDone, IsFreeRank}
use Rattle.layers.proofs.lemmas.BookEvents.{lawful_claimed, marks_long}
use Rattle.layers.proofs.lemmas.BookFields.{claimed-taken}
use Rattle.layers.proofs.book.Book.claim.Goals as goal

pub returns-then-are_all_set : goal.returns-then-are_all_set
returns-then-are_all_set c = subst (λ v. ClaimAnswer v None v) c.self.view_is ((λ r lt. inr (c.if-are_all_set.ensures r lt)), refl)

pub set-requires : goal.set-requires
set-requires c =
    let rank = c.loop-rank.rank in
    let sound : IsSoundBook c.loop-rank.self-inside = subst IsSoundBook (sym c.loop-rank.invariant.0) c.self.invariant in
    let v = book_view c.loop-rank.self-inside in
    let long = marks_long v sound.lawful in
    let same = ap (λ x. length (book_view x).done) c.loop-rank.invariant.0 in
    let lt : rank < length v.claimed = omega (arith, c.len-rank-end.ensures) in
    slice_get-get_or v.claimed rank false lt ∙ ap (λ (b : Bool). Some b) (sym c.is_set.ensures ∙ c.if-not-is_set.true)

pub invariant_of-self-then-not-is_set-2 : goal.invariant_of-self-then-not-is_set-2
invariant_of-self-then-not-is_set-2 c =
    let rank = c.loop-rank.rank in
    let sound : IsSoundBook c.loop-rank.self-inside = subst IsSoundBook (sym c.loop-rank.invariant.0) c.self.invariant in
    let v = book_view c.loop-rank.self-inside in
    let long = marks_long v sound.lawful in
    let same = ap (λ x. length (book_view x).done) c.loop-rank.invariant.0 in
    let lt : rank < length v.claimed = omega (arith, c.len-rank-end.ensures) in
    record {
      lawful = subst (λ bs. IsLawfulBook (record v { claimed = bs })) (sym c.set.ensures)
          (lawful_claimed v (set v.claimed rank true) (length-set v.claimed rank true) sound.lawful);
      few = sound.few;
      boxes = sound.boxes;
      cuts = sound.cuts;
      taken = subst (λ bs. (r : ℕ) → r < rank + 1 → IsClaimedOrDone (record v { claimed = bs }) r) (sym c.set.ensures)
          (claimed-taken v rank lt c.loop-rank.invariant.1);
    }

pub returns-then-not-is_set-2 : goal.returns-then-not-is_set-2
returns-then-not-is_set-2 c =
    let rank = c.loop-rank.rank in
    let sound : IsSoundBook c.loop-rank.self-inside = subst IsSoundBook (sym c.loop-rank.invariant.0) c.self.invariant in
    let v = book_view c.loop-rank.self-inside in
    let e : v ≡ c.args.self.now = ap book_view c.loop-rank.invariant.0 ∙ c.self.view_is in
    let long = marks_long v sound.lawful in
    let same = ap (λ x. length (book_view x).done) c.loop-rank.invariant.0 in
    let lt : rank < length v.claimed = omega (arith, c.len-rank-end.ensures) in
    let free : slice_get v.claimed rank ≡ Some false = slice_get-get_or v.claimed rank false lt
    ∙ ap (λ (b : Bool). Some b) (sym c.is_set.ensures ∙ c.if-not-is_set.true) in
    let undone : slice_get v.done rank ≡ Some false = slice_get-get_or v.done rank false (omega arith)
    ∙ ap (λ (b : Bool). Some b) (sym c.is_set-then-not-is_set.ensures ∙ c.if-not-is_set-2.true) in (
      c.layer-layer.ensures,
      subst (λ w. IsFreeRank w rank) e (free, undone),
      subst (λ w. (r : ℕ) → r < rank → IsClaimedOrDone w r) e c.loop-rank.invariant.1,
      ap (λ (bs : List Bool). record v { claimed = bs }) c.set.ensures
          ∙ subst (λ w. record v { claimed = set v.claimed rank true } ≡ record w { claimed = set w.claimed rank true }) e refl,
    )

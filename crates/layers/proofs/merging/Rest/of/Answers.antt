use Rattle.std.proofs.Common.{◌≡◌, ◌-◌, Some, length, sym, ap, subst, ◌∙◌, arith}
use Rattle.std.specs.Prelude.{slice_get}
use Rattle.layers.specs.BookView.{last_list}
use Rattle.layers.proofs.Cuts.{length-cut_at}
use Rattle.layers.proofs.Rests.{first_at, last_seen}
use Rattle.layers.proofs.merging.Rest.of.Goals as goal

pub invariant_of-result : goal.invariant_of-result
invariant_of-result c =
    let a = c.book.inside in let from = c.last_start-index.result in
    let at : slice_get a.starts.items (length a.starts.items - 1) ≡ Some from = subst
    (λ xs. slice_get xs (length xs - 1) ≡ Some from) c.as_slice.ensures.value c.last_start-index.ensures in (
      omega (arith, c.book.invariant.cuts.within (length a.starts.items - 1) from at, c.closed_len.ensures),
      c.closed_len.ensures,
      c.origin_at.ensures ∙ first_at a.found.seen from,
    )

pub returns : goal.returns
returns c =
    let a = c.book.inside in let from = c.last_start-index.result in
    let at : slice_get a.starts.items (length a.starts.items - 1) ≡ Some from = subst
    (λ xs. slice_get xs (length xs - 1) ≡ Some from) c.as_slice.ensures.value c.last_start-index.ensures in
    sym (last_seen a from (omega (arith, c.book.invariant.lawful.some, length-cut_at a.starts.items a.found.seen)) at)
    ∙ ap last_list c.book.view_is

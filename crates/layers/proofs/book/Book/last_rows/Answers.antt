use Rattle.std.proofs.Common.{◌≡◌, ◌-◌, List, Some, length, drop, sym, ap, subst, ◌∙◌, arith}
use Rattle.std.proofs.lemmas.List.{length-drop}
use Rattle.std.specs.Prelude.{slice_get}
use Rattle.store.specs.Entries.{Closed, places_of, origins_of}
use Rattle.layers.specs.BookView.{last_list}
use Rattle.store.specs.inside.Copies.{squares_of}
use Rattle.layers.proofs.Cuts.{length-cut_at}
use Rattle.layers.proofs.Ordered.{one_merged}
use Rattle.layers.proofs.Rests.{last_seen}
use Rattle.layers.proofs.book.Book.last_rows.Goals as goal

pub returns : goal.returns
returns c =
    let a = c.self.inside in
    let from = c.last_start-from.result in
    let at : slice_get a.starts.items (length a.starts.items - 1) ≡ Some from = subst
    (λ xs. slice_get xs (length xs - 1) ≡ Some from) c.as_slice.ensures.value c.last_start-from.ensures in let list : List Closed = last_list c.args.self.now in
    let is : drop from a.found.seen ≡ list = sym (last_seen a from (omega (arith, c.self.invariant.lawful.some, length-cut_at a.starts.items a.found.seen)) at)
    ∙ ap last_list c.self.view_is in record {
      entries = list;
      merged = one_merged list;
      counted = omega (arith, c.closed_len.ensures, length-drop from a.found.seen, ap length is);
      squares_are = c.in_ok-squares.ensures.squares ∙ ap (λ (es : List Closed). squares_of (places_of es)) is;
      origins_are = c.in_ok-squares.ensures.origins ∙ ap origins_of is;
    }

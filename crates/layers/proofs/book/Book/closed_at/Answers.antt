use Rattle.std.proofs.Common.{◌≡◌, None, length, ap, sym, subst, ◌∙◌, arith}
use Rattle.layers.specs.inside.BookInside.{IsListPiece}
use Rattle.store.specs.Entries.{Closed}
use Rattle.layers.specs.Books.{closed_place}
use Rattle.layers.proofs.Cuts.{place_in_piece, place_past_piece, place_past}
use Rattle.layers.proofs.book.Book.closed_at.Goals as goal

pub returns-in_err-from : goal.returns-in_err-from
returns-in_err-from c =
    subst (λ v. c.from_residual.result ≡ closed_place v.closed c.args.layer c.args.index) c.self.view_is
    (c.from_residual.ensures ∙ sym (place_past (λ (x : Closed). x.0) c.self.inside.starts.items c.self.inside.found.seen c.args.layer c.args.index
    (omega (arith, c.in_err-from.ensures.piece, ap length c.as_slice.ensures.value))))

pub returns-then-index-to : goal.returns-then-index-to
returns-then-index-to c =
    let from = c.in_ok-from.from in let to = c.in_ok-from.to in
    let piece : IsListPiece c.self.inside.starts.items (length c.self.inside.found.seen) c.args.layer from to =
    subst (λ n. IsListPiece c.self.inside.starts.items n c.args.layer from to) c.closed_len.ensures
    (subst (λ s. IsListPiece s c.closed_len.result c.args.layer from to) c.as_slice.ensures.value c.in_ok-from.ensures.piece) in
    subst (λ v. None ≡ closed_place v.closed c.args.layer c.args.index) c.self.view_is
    (sym (place_past_piece (λ (x : Closed). x.0) c.self.inside.starts.items c.self.inside.found.seen c.args.layer from to c.args.index piece (omega arith)))

pub returns : goal.returns
returns c =
    let from = c.in_ok-from.from in let to = c.in_ok-from.to in
    let piece : IsListPiece c.self.inside.starts.items (length c.self.inside.found.seen) c.args.layer from to =
    subst (λ n. IsListPiece c.self.inside.starts.items n c.args.layer from to) c.closed_len.ensures (subst
    (λ s. IsListPiece s c.closed_len.result c.args.layer from to) c.as_slice.ensures.value c.in_ok-from.ensures.piece) in
    subst (λ v. c.closed_at.result ≡ closed_place v.closed c.args.layer c.args.index) c.self.view_is
    (c.closed_at.ensures ∙ sym (place_in_piece (λ (x : Closed). x.0) c.self.inside.starts.items c.self.inside.found.seen c.args.layer from to c.args.index
    piece (omega (arith, c.in_ok-from.ensures.order))))

use Rattle.std.proofs.Common.{◌≡◌, ◌-◌, subst, arith}
use Rattle.layers.specs.BookView.{last_layer}
use Rattle.layers.proofs.Cuts.{length-cut_at}
use Rattle.layers.proofs.book.Book.layer.Goals as goal

pub returns : goal.returns
returns c = subst (λ v. c.len.result - 1 ≡ last_layer v) c.self.view_is
    (omega (arith, c.len.ensures, length-cut_at c.self.inside.starts.items c.self.inside.found.seen))

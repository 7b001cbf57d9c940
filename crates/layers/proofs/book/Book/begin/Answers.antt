use Rattle.std.proofs.Common.{◌≡◌, false, true, length, replicate, ap, sym, subst, ◌∙◌, arith, rules}
use Rattle.layers.specs.inside.BookInside.{book_view}
use Rattle.layers.specs.BookView.{IsLawfulBook}
use Rattle.layers.specs.Books.{MayBegin}
use Rattle.layers.proofs.lemmas.BookEvents.{lawful_begin}
use Rattle.layers.proofs.Answered.{ok_is}
use Rattle.layers.proofs.book.Book.begin.Goals as goal

pub invariant_of-self-2 : goal.invariant_of-self-2
invariant_of-self-2 c =
    let v = book_view c.self.inside in
    let n = length c.args.layer.now.places in
    let may : MayBegin v c.args.layer.now = (search rules, search rules, search rules) in
    let not = c.self.invariant.lawful.not_begun may.2 in
    let ranks : c.len-ranks.result ≡ n = c.len-ranks.ensures in
    let claimed : c.begin.new.self ≡ replicate n false = c.in_ok-begin.ensures.ok
    ∙ ap (λ k. replicate k false) ranks in
    let done : c.begin-2.new.self ≡ replicate n false = ok_is c.begin-2.result c.if-is_err.ensures.value c.begin-2.ensures.ok
    ∙ ap (λ k. replicate k false) ranks in let book = lawful_begin v c.args.layer.now c.self.invariant.lawful c.tell.ensures may in record {
      lawful = subst (λ bs. IsLawfulBook (record v { begun = true; claimed = bs; done = c.begin-2.new.self })) (sym claimed)
          (subst (λ bs. IsLawfulBook (record v { begun = true; claimed = replicate n false; done = bs })) (sym done)
          (subst (λ w. IsLawfulBook (record v { begun = true; claimed = replicate n false; done = replicate n false; waiting = w })) (sym not.3) book));
      few = c.self.invariant.few;
      boxes = c.self.invariant.boxes;
      cuts = c.self.invariant.cuts;
      taken = λ r lt. absurd (omega arith);
    }

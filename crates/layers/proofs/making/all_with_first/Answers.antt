use Rattle.std.proofs.Common.{◌≡◌, ◌+◌, ◌++◌, ◌∷◌, [], length, sym, ap, subst, ◌∙◌}
use Rattle.std.proofs.lemmas.List.{length_push}
use Rattle.std.specs.Arc.{arc_value}
use Rattle.layers.specs.Books.{AreNewInOrder, IsNewBook}
use Rattle.layers.proofs.First.{one_share_more}
use Rattle.layers.proofs.making.all_with_first.Goals as goal

pub loop-share-preserved : goal.loop-share-preserved
loop-share-preserved c =
    let problem = arc_value c.args.problem.now in let before = c.loop-share.books.items in let share = c.loop-share.share in
    let book = c.in_ok-book.book in
    let all : c.push.new.self.items ≡ before ++ book ∷ [] = c.in_ok-push.ensures.items in
    let new : IsNewBook problem c.args.limit c.args.workers share c.args.shares book = subst
    (λ b. IsNewBook b c.args.limit c.args.workers share c.args.shares book) c.in_ok-problem.ensures c.in_ok-book.ensures in (
      ap length all ∙ length_push before book ∙ ap (λ k. k + 1) c.loop-share.invariant.0,
      subst (AreNewInOrder problem c.args.limit c.args.workers c.args.shares) (sym all)
          (one_share_more problem c.args.limit c.args.workers share c.args.shares before book c.loop-share.invariant.0
          c.loop-share.invariant.1 new),
    )

use Rattle.std.proofs.Common.{IfOk, sym, subst}
use Rattle.layers.specs.Books.{AreNewShares}
use Rattle.solo.specs.inside.Searched.{SearchView}
use Rattle.solo.proofs.search.Search.new_books.Goals as goal
use Rattle.solo.proofs.search.Search.new_books.Goals.{in-Ok, in-Err-OutOfMemory}

pub returns-clause-books : goal.returns-clause-books
returns-clause-books c =
    let s = c.args.self.now in let workers = c.args.workers in let shares = c.args.shares in
    let made = subst (λ (v : SearchView). IfOk c.of_all_shares.result (λ books. AreNewShares v.problem v.limit workers shares books.items))
    c.self.view_is c.of_all_shares.ensures.ok in
    elim c.match-of_all_shares.branch [
      | in-Ok w ↦ subst (λ r. IfOk r (λ books. AreNewShares s.problem s.limit workers shares books.items)) (sym w.result-is)
          (subst (λ r. IfOk r (λ books. AreNewShares s.problem s.limit workers shares books.items)) w.in-Ok.is made)
      | in-Err-OutOfMemory w ↦ subst (λ r. IfOk r (λ books. AreNewShares s.problem s.limit workers shares books.items)) (sym w.result-is) tt
    ]

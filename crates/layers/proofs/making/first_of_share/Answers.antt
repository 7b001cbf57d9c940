use Rattle.std.proofs.Common.{Some, sym, subst, arith, rules}
use Rattle.std.proofs.lemmas.Bool.Decides.{nat_tests}
use Rattle.grid.specs.Board.{Scene}
use Rattle.layers.specs.BookView.{IsShareOfLayer}
use Rattle.store.specs.FoundView.{first_entries}
use Rattle.layers.proofs.First.{share_without, share_with, share_beside}
use Rattle.layers.proofs.making.first_of_share.Goals as goal

pub returns-in_default-clause-layer : goal.returns-in_default-clause-layer
returns-in_default-clause-layer c = share_without c.args.problem.now c.tell.ensures c.args.shares c.args.share c.args.first.now c.requires.first (search rules)

pub returns-then-share_of-share-clause-layer : goal.returns-then-share_of-share-clause-layer
returns-then-share_of-share-clause-layer c =
    share_beside c.args.problem.now c.tell.ensures c.args.shares c.args.share c.args.first.now c.in-Some.position c.requires.first (search rules) (λ e. let f =
    c.if-share_of-share.true in let g = c.share_of.ensures in grind (arith, nat_tests))

pub returns-clause-layer : goal.returns-clause-layer
returns-clause-layer c =
    let here : IsShareOfLayer c.args.problem.now c.args.shares c.args.share 0 (first_entries (Some c.in-Some.position)) =
    share_with c.args.problem.now c.tell.ensures c.args.shares c.args.share c.args.first.now c.in-Some.position c.requires.first (search rules) (let f =
    c.if-share_of-share.false in let g = c.share_of.ensures in grind (arith, nat_tests)) in
    subst (λ (m : Scene). IsShareOfLayer c.args.problem.now c.args.shares c.args.share 0 (first_entries (Some m))) (sym c.copy.ensures) here

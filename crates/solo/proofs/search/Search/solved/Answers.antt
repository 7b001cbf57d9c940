use Rattle.std.proofs.Common.{◌+◌, sym, ap, subst, arith}
use Rattle.solo.specs.Answers.{IsAnswer}
use Rattle.solo.specs.declared.answer.Answer.TheVariants.{Solved}
use Rattle.solo.specs.inside.Searched.{IsLookedAt, SearchView}
use Rattle.solo.proofs.Looking.{solved_here}
use Rattle.solo.proofs.search.Search.solved.Goals as goal

pub returns-clause-answer : goal.returns-clause-answer
returns-clause-answer c =
    let s = c.args.self.now in let layer = c.args.layer.now in
    let looked = subst (λ (v : SearchView). IsLookedAt v.problem v.limit v.trail v.positions) c.self.view_is c.self.invariant.0 in
    let answer = solved_here s layer looked c.requires.next c.tell.ensures c.args.rank c.in_ok-moves.moves c.requires.first c.in_ok-moves.ensures.lead
    c.requires.within in
    subst (λ k. IsAnswer s.problem s.limit (Solved c.in_ok-moves.moves k (c.self.inside.positions + c.len.result))) (sym c.number.ensures)
    (subst (λ n. IsAnswer s.problem s.limit (Solved c.in_ok-moves.moves layer.number n))
    (omega (arith, ap (λ (v : SearchView). v.positions) c.self.view_is, c.len.ensures)) answer)

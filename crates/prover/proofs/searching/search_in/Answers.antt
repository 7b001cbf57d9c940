use Rattle.prices.specs.Timing.{IsLate}
use Rattle.prover.proofs.Endings.{outcome_solved}
use Rattle.prover.proofs.searching.search_in.Goals as goal

pub solution_at-requires-clause-traced : goal.solution_at-requires-clause-traced
solution_at-requires-clause-traced g c = λ i x at.
    let sound = c.in_ok-end.ensures.searched.under_way.sound i x at in (sound.fits, sound.from)

pub returns-in-Solved-clause-outcome : goal.returns-in-Solved-clause-outcome
returns-in-Solved-clause-outcome g c =
    outcome_solved c.args.level.now c.args.search.cap c.args.search.limit
    (IsLate c.args.search.seconds (g.P.Progress.told c.run_on.new.progress)) c.run_on.new.frontier.entries
    c.in-Solved.place c.in_ok-end.end c.solution_at.result c.in-Solved.is c.in_ok-end.ensures.tells c.solution_at.ensures

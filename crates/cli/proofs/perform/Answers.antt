-- The engine of each task ran on its files.
use Rattle.std.proofs.Common.{◌≡◌, ℕ, List, Option, Result, inl, sym, subst}
use Rattle.sokopar.specs.Ends.{Seen}
use Rattle.sokopar.specs.declared.fault.RunFault.{RunFault}
use Rattle.cli.specs.Performing.{IsOpened, Performs, RunsEngine, passed_on}
use Rattle.cli.specs.declared.request.Task.{Task}
use Rattle.cli.specs.declared.trouble.Trouble.{Trouble}
use Rattle.cli.proofs.perform.Goals as goal

ran : {File : Type 0} (opens : List ℕ → Option File → Type 0) (refuses : List ℕ → Type 0) (seen : File → Seen) (file read : File)
    (output written : Seen) (path : List ℕ) (task shown : Task) (end : Result ℕ RunFault) (result : Result ℕ Trouble) → task ≡ shown →
    IsOpened opens seen path file → RunsEngine opens refuses seen output written shown (seen file) (seen read) end → result ≡ passed_on end →
    Performs opens refuses seen output written path task result
ran opens refuses seen file read output written path task shown end result same opened runs is =
    inl (file, read, end, opened, subst (λ t. RunsEngine opens refuses seen output written t (seen file) (seen read) end) (sym same) runs, is)

pub returns-in-Check : goal.returns-in-Check
returns-in-Check g c =
    ran g.S.System.opens g.S.System.refuses g.S.File.Source.seen c.in_ok-source.field-0 c.run_check.new.source _ _ _ _ _ _ _ c.in-Check.is
    c.in_ok-source.ensures.ok c.run_check.ensures c.passed_on.ensures

pub returns-in-Explain : goal.returns-in-Explain
returns-in-Explain g c =
    ran g.S.System.opens g.S.System.refuses g.S.File.Source.seen c.in_ok-source.field-0 c.run_explain.new.source _ _ _ _ _ _ _ c.in-Explain.is
    c.in_ok-source.ensures.ok c.run_explain.ensures c.passed_on-in-Explain.ensures

pub returns-in-Show : goal.returns-in-Show
returns-in-Show g c =
    ran g.S.System.opens g.S.System.refuses g.S.File.Source.seen c.in_ok-source.field-0 c.run_show.new.source _ _ _ _ _ _ _ c.in-Show.is
    c.in_ok-source.ensures.ok c.run_show.ensures c.passed_on-in-Show.ensures

pub returns-in-ShowRange : goal.returns-in-ShowRange
returns-in-ShowRange g c =
    ran g.S.System.opens g.S.System.refuses g.S.File.Source.seen c.in_ok-source.field-0 c.run_show_range.new.source _ _ _ _ _ _ _ c.in-ShowRange.is
    c.in_ok-source.ensures.ok c.run_show_range.ensures c.passed_on-in-ShowRange.ensures

pub returns-in-Dead : goal.returns-in-Dead
returns-in-Dead g c =
    ran g.S.System.opens g.S.System.refuses g.S.File.Source.seen c.in_ok-source.field-0 c.run_dead.new.source _ _ _ _ _ _ _ c.in-Dead.is
    c.in_ok-source.ensures.ok c.run_dead.ensures c.passed_on-in-Dead.ensures

pub returns-in-Replay : goal.returns-in-Replay
returns-in-Replay g c =
    ran g.S.System.opens g.S.System.refuses g.S.File.Source.seen c.in_ok-source.field-0 c.run_replay.new.source _ _ _ _ _ _ _ c.in-Replay.is
    c.in_ok-source.ensures.ok (c.in_ok-letters-in-Replay.field-0, c.run_replay.new.solution, c.in_ok-letters-in-Replay.ensures.ok, c.run_replay.ensures) c.passed_on-in-Replay.ensures

pub returns-in-Solve : goal.returns-in-Solve
returns-in-Solve g c =
    ran g.S.System.opens g.S.System.refuses g.S.File.Source.seen c.in_ok-source.field-0 c.run_solve_with.new.source _ _ _ _ _ _ _ c.in-Solve.is
    c.in_ok-source.ensures.ok c.run_solve_with.ensures c.passed_on-in-Solve.ensures

pub returns-in-Best : goal.returns-in-Best
returns-in-Best g c =
    ran g.S.System.opens g.S.System.refuses g.S.File.Source.seen c.in_ok-source.field-0 c.run_best.new.source _ _ _ _ _ _ _ c.in-Best.is
    c.in_ok-source.ensures.ok c.run_best.ensures c.passed_on-in-Best.ensures

pub returns-in-BestCollection : goal.returns-in-BestCollection
returns-in-BestCollection g c =
    ran g.S.System.opens g.S.System.refuses g.S.File.Source.seen c.in_ok-source.field-0 c.run_best_collection.new.source _ _ _ _ _ _ _ c.in-BestCollection.is
    c.in_ok-source.ensures.ok c.run_best_collection.ensures c.passed_on-in-BestCollection.ensures

pub returns-in-Prove : goal.returns-in-Prove
returns-in-Prove g c =
    ran g.S.System.opens g.S.System.refuses g.S.File.Source.seen c.in_ok-source.field-0 c.run_prove.new.source _ _ _ _ _ _ _ c.in-Prove.is
    c.in_ok-source.ensures.ok (c.in_ok-letters-in-Prove.field-0, c.run_prove.new.solution, c.in_ok-letters-in-Prove.ensures.ok, c.run_prove.ensures) c.passed_on-in-Prove.ensures

pub returns : goal.returns
returns g c =
    ran g.S.System.opens g.S.System.refuses g.S.File.Source.seen c.in_ok-source.field-0 c.run_prove_collection-ran.new.source _ _ _ _ _ _ _ c.in-ProveCollection.is
    c.in_ok-source.ensures.ok c.run_prove_collection-ran.ensures c.passed_on-in-ProveCollection.ensures

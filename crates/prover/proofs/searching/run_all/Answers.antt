use Rattle.std.proofs.Common.{◌∙◌, refl, subst, sym}
use Rattle.successors.specs.Problems.{Problem}
use Rattle.prices.specs.Timing.{IsLate}
use Rattle.prover.specs.inside.SearchEnds.{IsFloor, Tells}
use Rattle.prover.specs.inside.Working.{IsSearchOnBoard}
use Rattle.prover.proofs.Endings.{tells_beyond}
use Rattle.prover.proofs.searching.run_all.Goals as goal

pub loop-first-init : goal.loop-first-init
loop-first-init g c = record { same = refl; searched = c.requires.searched; floor = c.requires.floor }

pub loop-first-preserved : goal.loop-first-preserved
loop-first-preserved g c =
    let same = sym c.add_tables.ensures in
    record {
      same = c.add_tables.ensures ∙ c.loop-first.invariant.same;
      searched = subst (λ (v : Problem). IsSearchOnBoard v.board v.cap c.run.new.frontier) same c.in_ok-end.ensures.searched;
      floor = subst (λ (v : Problem). IsFloor v.board v.cap c.run.new.reach) same c.in_ok-end.ensures.floor;
    }

pub returns-then-decided-clause-tells : goal.returns-then-decided-clause-tells
returns-then-decided-clause-tells g c =
    let Late = IsLate c.args.seconds (g.P.Progress.told c.run.new.progress) in
    subst (λ (v : Problem). Tells v.board v.cap c.args.limit Late c.run.new.frontier.entries c.in_ok-end.end) c.loop-first.invariant.same
    (tells_beyond _ _ _ c.args.limit Late _ _ (c.is_decided-decided.ensures c.if-decided.true) c.in_ok-end.ensures.tells)

pub returns-then-decided-clause-floor : goal.returns-then-decided-clause-floor
returns-then-decided-clause-floor g c =
    subst (λ (v : Problem). IsFloor v.board v.cap c.run.new.reach) c.loop-first.invariant.same c.run.ensures.floor

pub returns-in_err-end-clause-floor : goal.returns-in_err-end-clause-floor
returns-in_err-end-clause-floor g c =
    subst (λ (v : Problem). IsFloor v.board v.cap c.run.new.reach) c.loop-first.invariant.same c.run.ensures.floor

pub returns-in_err-add_tables-clause-floor : goal.returns-in_err-add_tables-clause-floor
returns-in_err-add_tables-clause-floor g c =
    subst (λ (v : Problem). IsFloor v.board v.cap c.run.new.reach) c.loop-first.invariant.same c.run.ensures.floor

pub returns-clause-floor : goal.returns-clause-floor
returns-clause-floor g c =
    subst (λ (v : Problem). IsFloor v.board v.cap c.run-2.new.reach) c.loop-first.invariant.same c.run-2.ensures.floor

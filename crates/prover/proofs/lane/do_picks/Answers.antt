use Rattle.std.proofs.Common.{arith, ◌≡◌, ℕ, ◌++◌, ◌∙◌, ap, drop, length, sym, subst, take}
use Rattle.std.proofs.Math.Seq.{take-append_seam}
use Rattle.prover.specs.inside.Rounds.{ArePicks}
use Rattle.prover.proofs.lane.do_picks.Goals as goal

pub do_all-requires-clause-picks : goal.do_all-requires-clause-picks
do_all-requires-clause-picks c = subst (ArePicks c.args.pruner.now c.args.frontier.now.entries) (sym c.as_mut_slice.ensures.value) c.requires.lane.picks

pub returns : goal.returns
returns c =
    let new = c.do_all.new.picks in
    let rest = drop (length new) c.args.lane.now.picks.items in
    let long : c.args.lane.now.picks.len ≡ length new = omega (arith, c.args.lane.now.picks.ok.0) in
    record {
      problem = c.do_all.ensures.problem;
      picks = subst (ArePicks c.args.pruner.now c.args.frontier.now.entries) (sym (ap (λ (n : ℕ). take n (new ++ rest)) long ∙ take-append_seam new rest)) c.do_all.ensures.picks;
    }

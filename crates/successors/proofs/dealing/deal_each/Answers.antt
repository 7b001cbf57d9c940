use Rattle.std.proofs.Common.{◌+◌, ◌*◌, ◌<◌, List, ℕ, get_or, set, sym, subst, arith}
use Rattle.successors.specs.declared.dealing.TheConstants.{MOST_DEALT}
use Rattle.successors.proofs.lemmas.Dealt.{AreListed, one_listed}
use Rattle.successors.proofs.dealing.deal_each.Goals as goal

pub loop-place-preserved : goal.loop-place-preserved
loop-place-preserved c =
    let l = c.loop-place in
    let own : c.share_by.result < c.args.shares = omega (arith, c.share_by.ensures, c.requires.some) in
    subst (λ (rows : List ℕ). AreListed c.args.shares (l.place + 1) rows c.put.new.lens c.args.sums.now) (sym c.put.ensures.rows)
    (subst (λ (lens : List ℕ). AreListed c.args.shares (l.place + 1)
    (set l.rows (c.share_by.result * MOST_DEALT + get_or l.lens c.share_by.result 0) l.place) lens c.args.sums.now) (sym c.put.ensures.lens)
    (one_listed c.args.shares l.place c.share_by.result l.rows l.lens c.args.sums.now l.invariant c.requires.shares c.loop-place-test.true c.requires.few
    c.share_by.ensures own))

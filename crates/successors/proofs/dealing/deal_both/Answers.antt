use Rattle.std.proofs.Common.{◌<◌, ◌∷◌, replicate, arith}
use Rattle.successors.proofs.lemmas.Dealt.{all_listed, both_listed}
use Rattle.successors.proofs.dealing.deal_both.Goals as goal

pub loop-place-preserved : goal.loop-place-preserved
loop-place-preserved c =
    let l = c.loop-place in
    let own : c.share_by-share.result < 2 = omega (arith, c.share_by-share.ensures) in (
      both_listed l.place c.share_by-share.result c.len_of-len.result l.evens l.odds l.rows c.args.sums.now (replicate 14 0) l.invariant.0
          c.loop-place-test.true c.requires.few c.share_by-share.ensures own c.len_of-len.ensures,
      omega (arith, l.invariant.1, own),
    )

pub returns : goal.returns
returns c =
    let l = c.loop-place in
    all_listed 2 l.place l.rows (l.evens ∷ l.odds ∷ replicate 14 0) c.args.sums.now l.invariant.0 (omega arith)
    (omega (arith, c.loop-place-test.false, l.auto.place-end)) c.requires.few

use Rattle.std.proofs.Common.{◌≡◌, ◌++◌, drop, length, take, sym, ap, subst, ◌∙◌, arith}
use Rattle.std.proofs.Math.Seq.{take-append_seam}
use Rattle.crew.specs.Lending.{ComeBack}
use Rattle.crew.specs.inside.Iterations.{AreFinished}
use Rattle.crew.proofs.Lending.{come_dealt}
use Rattle.crew.proofs.iteration.finish_lent.Goals as goal

pub finish_all-requires-clause-few : goal.finish_all-requires-clause-few
finish_all-requires-clause-few g c κs within =
    let come : ComeBack c.args.config c.args.layer.now c.as_mut_slice.result.now = subst (ComeBack c.args.config c.args.layer.now)
    (c.as_slice.ensures.value ∙ sym c.as_mut_slice.ensures.value) c.if-not-come_back.ensures in omega (arith, come.all, c.requires.limits.locks)

pub finish_all-requires-clause-working : goal.finish_all-requires-clause-working
finish_all-requires-clause-working g c κs within =
    let come : ComeBack c.args.config c.args.layer.now c.as_mut_slice.result.now = subst (ComeBack c.args.config c.args.layer.now)
    (c.as_slice.ensures.value ∙ sym c.as_mut_slice.ensures.value) c.if-not-come_back.ensures in λ i v at. (come.each i v at).1

pub finish_all-requires-clause-worker : goal.finish_all-requires-clause-worker
finish_all-requires-clause-worker g c κs within =
    let come : ComeBack c.args.config c.args.layer.now c.as_mut_slice.result.now = subst
    (ComeBack c.args.config c.args.layer.now) (c.as_slice.ensures.value ∙ sym c.as_mut_slice.ensures.value) c.if-not-come_back.ensures in
    λ i v at. omega (arith, (come.each i v at).0.2)

pub returns-clause-worked : goal.returns-clause-worked
returns-clause-worked g c =
    let config = c.args.config in let layer = c.args.layer.now in let lent = c.as_mut_slice.result.now in let after = c.finish_all.new.books in
    let back = c.args.back in let come : ComeBack config layer lent = subst (ComeBack config layer) (c.as_slice.ensures.value
    ∙ sym c.as_mut_slice.ensures.value) c.if-not-come_back.ensures in
    let whole : back.len ≡ length after = sym (c.finish_all.auto.books ∙ c.as_mut_slice.ensures.len) in
    let left : take back.len (after ++ drop (length after) back.items) ≡ after = ap (λ n. take n (after ++ drop (length after) back.items)) whole
    ∙ take-append_seam after (drop (length after) back.items) in (
      lent,
      (come_dealt config c.args.search.now layer lent c.requires.level c.requires.limit come).0,
      (come_dealt config c.args.search.now layer lent c.requires.level c.requires.limit come).1,
      subst (AreFinished c.args.search.now.limit lent layer c.in_ok-within.within) (sym left) c.in_ok-within.ensures.finished,
    )

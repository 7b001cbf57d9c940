use Rattle.std.proofs.Common.{◌≡◌, ◌≢◌, ℕ, get_or, sym, subst, ◌∙◌, arith}
use Rattle.std.proofs.lemmas.Bool.{eqb-true, eqb-false, not-true, not-false}
use Rattle.area.specs.declared.spread.TheConstants.{BOX_MARK}
use Rattle.area.specs.inside.Descent.{IsDescending}
use Rattle.area.proofs.Descents.{reached_later, goes_down, descending_more, descending_last}
use Rattle.area.proofs.route.descend.Goals as goal

pub first_down-dir-requires-clause-some : goal.first_down-dir-requires-clause-some
first_down-dir-requires-clause-some c =
    let ne : c.loop-to.square ≢ c.args.to = eqb-false _ _ (not-true _ (sym c.ne.ensures ∙ c.loop-to-test.true)) in
    goes_down c.args.level.now BOX_MARK c.args.to (λ q. get_or c.args.marks.now q 0) c.requires.spread c.loop-to.square c.loop-to.invariant.0 ne

pub loop-to-preserved : goal.loop-to-preserved
loop-to-preserved c =
    let ne : c.loop-to.square ≢ c.args.to = eqb-false _ _ (not-true _ (sym c.ne.ensures ∙ c.loop-to-test.true)) in
    let later = reached_later c.args.level.now BOX_MARK c.args.to
    (λ q. get_or c.args.marks.now q 0) c.requires.spread c.loop-to.square c.loop-to.invariant.0 ne in
    let down = c.first_down-dir.ensures in
    let more = descending_more _ _ _ _ _ _ _ _ _ c.loop-to.invariant.1 (omega (arith, later, down.0)) down in
    rw (c.next-square.ensures, c.in_ok-push.ensures.ok) (omega (arith, later, down.0), more)

pub returns-clause-ok : goal.returns-clause-ok
returns-clause-ok c =
    let e : c.loop-to.square ≡ c.args.to = eqb-true _ _ (not-false _ (sym c.ne.ensures ∙ c.loop-to-test.false)) in
    descending_last _ _ _ _ _ _ _
    (subst (λ (x : ℕ). IsDescending c.args.level.now BOX_MARK c.args.to
    (λ q. get_or c.args.marks.now q 0) c.args.from x c.args.moves.now c.loop-to.moves) e c.loop-to.invariant.1)

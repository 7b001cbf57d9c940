use Rattle.std.proofs.Common.{◌≡◌, ◌+◌, Some, List, inl, inr, not, sym, ap, subst, ◌∙◌, arith}
use Rattle.std.proofs.lemmas.Option.{slice_get-get_or}
use Rattle.std.specs.Prelude.{slice_get}
use Rattle.store.specs.Entries.{Closed}
use Rattle.layers.specs.inside.Merging.{first_origin}
use Rattle.layers.proofs.Rests.{IsLeastSoFar, least_kept, least_passed, least_chosen, least_found}
use Rattle.layers.proofs.merging.least_of.Goals.{in-Some+then-is_none, then-is_none-via-then-is_none, then-is_none-via-else-is_none+then-is_before}
use Rattle.layers.proofs.merging.least_of.Goals.{in-Some+else-is_none+else-is_before, in_default}
use Rattle.layers.proofs.merging.least_of.Goals as goal

pub loop-index-preserved : goal.loop-index-preserved
loop-index-preserved c =
    let rests = c.args.rests.now in let index = c.loop-index.index in
    let list : List Closed = c.index-rests-index.result in
    let at : slice_get rests index ≡ Some list = slice_get-get_or rests index list (omega (arith, c.loop-index-test.true))
    ∙ ap (λ (es : List Closed). Some es) (sym c.index-rests-index.is) in elim c.match-first.branch [
      | in-Some+then-is_none w ↦ (let first : first_origin list ≡ Some w.in-Some.origin = sym c.first.ensures ∙ w.in-Some.is in
          let chosen : IsLeastSoFar rests (index + 1) (Some index) w.in-Some.origin = elim w.then-is_none.branch [
            | then-is_none-via-then-is_none w' ↦ least_chosen rests index list at c.loop-index.least c.loop-index.bound w.in-Some.origin c.loop-index.invariant
                (inl (w.is_none.ensures ∙ ap not w'.if-is_none.true)) first
            | then-is_none-via-else-is_none+then-is_before w' ↦
                least_chosen rests index list at c.loop-index.least c.loop-index.bound w.in-Some.origin c.loop-index.invariant
                (inr (sym w'.is_before.ensures ∙ w'.if-is_before.true)) first
          ] in
          subst (λ l. IsLeastSoFar rests (index + 1) l c.match-first.bound) (sym w.least-is)
          (subst (λ o. IsLeastSoFar rests (index + 1) (Some index) o) (sym w.bound-is) chosen))
      | in-Some+else-is_none+else-is_before w ↦ (let first : first_origin list ≡ Some w.in-Some.origin = sym c.first.ensures ∙ w.in-Some.is in
          let passed = least_passed rests index list at c.loop-index.least c.loop-index.bound w.in-Some.origin c.loop-index.invariant
          (w.is_none.ensures ∙ ap not w.if-is_none.false) first (sym w.is_before.ensures ∙ w.if-is_before.false) in
          subst (λ l. IsLeastSoFar rests (index + 1) l c.match-first.bound) (sym w.least-is)
          (subst (λ o. IsLeastSoFar rests (index + 1) c.loop-index.least o) (sym w.bound-is) passed))
      | in_default w ↦ (let kept = least_kept rests index list at c.loop-index.least c.loop-index.bound c.loop-index.invariant (sym c.first.ensures
          ∙ w.in_default.is) in subst (λ l. IsLeastSoFar rests (index + 1) l c.match-first.bound) (sym w.least-is)
          (subst (λ o. IsLeastSoFar rests (index + 1) c.loop-index.least o) (sym w.bound-is) kept))
    ]

pub returns : goal.returns
returns c = least_found c.args.rests.now c.loop-index.index c.loop-index.least c.loop-index.bound
    (omega (arith, c.loop-index-test.false)) c.loop-index.invariant

use Rattle.std.proofs.Common.{◌≡◌, ◌≢◌, ◌+◌, ◌≤◌, length, sym, ap, subst, ◌∙◌, arith}
use Rattle.std.proofs.lemmas.Bool.{eqb-true, eqb-false}
use Rattle.solo.specs.Answers.{HasNone, IsAnswer}
use Rattle.solo.specs.inside.Searched.{IsLookedAt, SearchView}
use Rattle.solo.proofs.Looking.{look_limit, look_none, look_on}
use Rattle.solo.proofs.search.Search.look.Goals as goal

pub returns-then-positions-from-clause-answer : goal.returns-then-positions-from-clause-answer
returns-then-positions-from-clause-answer c =
    let s = c.args.self.now in
    let looked = subst (λ (v : SearchView). IsLookedAt v.problem v.limit v.trail v.positions) c.self.view_is c.self.invariant.0 in
    look_limit s c.args.layer.now looked c.requires.next c.tell.ensures (omega (
      arith,
      ap (λ (v : SearchView). v.positions) c.self.view_is,
      ap (λ (v : SearchView). v.limit) c.self.view_is,
      c.len.ensures,
      c.from.ensures,
      c.if-positions-from.true,
    ))

pub returns-then-is_empty-clause-answer : goal.returns-then-is_empty-clause-answer
returns-then-is_empty-clause-answer c =
    let s = c.args.self.now in let layer = c.args.layer.now in
    let looked = subst (λ (v : SearchView). IsLookedAt v.problem v.limit v.trail v.positions) c.self.view_is c.self.invariant.0 in
    let none = look_none s layer looked c.requires.next c.tell.ensures (eqb-true _ _ (sym c.is_empty.ensures ∙ c.if-is_empty.true)) in
    let count : s.positions + length layer.places ≡ c.self.inside.positions + c.len.result =
    omega (arith, ap (λ (v : SearchView). v.positions) c.self.view_is, c.len.ensures) in
    subst (λ t. IsAnswer t s.limit c.none_of.result) c.requires.next.0
    (c.none_of.ensures.answer s.limit (subst (λ t. HasNone t s.limit (c.self.inside.positions + c.len.result)) (sym c.requires.next.0)
    (subst (HasNone s.problem s.limit) count none)))

pub returns-clause-onward : goal.returns-clause-onward
returns-clause-onward c =
    let s = c.args.self.now in let layer = c.args.layer.now in
    let looked = subst (λ (v : SearchView). IsLookedAt v.problem v.limit v.trail v.positions) c.self.view_is c.self.invariant.0 in
    let filled : length layer.places ≢ 0 = eqb-false _ _ (sym c.is_empty.ensures ∙ c.if-is_empty.false) in
    let within : s.positions + length layer.places ≤ s.limit = omega (
      arith,
      ap (λ (v : SearchView). v.positions) c.self.view_is,
      ap (λ (v : SearchView). v.limit) c.self.view_is,
      c.len.ensures,
      c.from.ensures,
      c.if-positions-from.false,
    ) in
    look_on s layer looked c.requires.next c.tell.ensures (omega (arith, filled)) c.in_default.ensures within

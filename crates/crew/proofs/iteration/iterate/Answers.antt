use Rattle.std.proofs.Common.{◌≡◌, ◌+◌, refl, sym, ap, subst, ◌∙◌, arith}
use Rattle.std.specs.Prelude.{IfNone, IfSome}
use Rattle.layers.specs.Books.{AreAllShares, IsJoinOf}
use Rattle.solo.specs.inside.Iterations.{GoesOn}
use Rattle.solo.specs.inside.Searched.{IsExamined, SearchView, with_layer}
use Rattle.crew.specs.inside.Iterations.{AreWorkedBy}
use Rattle.crew.proofs.Iterations.{begins, ends_over, goes_on, joinable, next_layer}
use Rattle.crew.proofs.iteration.iterate.Goals as goal

pub last_layer-requires : goal.last_layer-requires
last_layer-requires g c =
    subst AreAllShares (sym c.as_slice.ensures.value)
    (joinable c.args.settings.now.config c.args.state.now.search c.args.books.items c.requires.limits c.requires.paused)

pub look-requires : goal.look-requires
look-requires g c =
    let layer = c.in_ok-layer.layer in
    let join : IsJoinOf c.args.books.items layer = subst (λ bs. IsJoinOf bs layer) c.as_slice.ensures.value c.in_ok-layer.ensures in
    record { next = next_layer c.args.settings.now.config c.args.state.now.search c.args.books.items c.requires.limits c.requires.paused layer join }

pub work_through-requires-clause-level : goal.work_through-requires-clause-level
work_through-requires-clause-level g c κs within =
    let layer = c.in_ok-layer.layer in
    let join : IsJoinOf c.args.books.items layer = subst (λ bs. IsJoinOf bs layer) c.as_slice.ensures.value c.in_ok-layer.ensures in
    (next_layer c.args.settings.now.config c.args.state.now.search c.args.books.items c.requires.limits c.requires.paused layer join).0
    ∙ ap (λ (s : SearchView). s.problem) (sym c.look.ensures.same)

pub work_through-requires-clause-may : goal.work_through-requires-clause-may
work_through-requires-clause-may g c κs within =
    let layer = c.in_ok-layer.layer in
    let join : IsJoinOf c.args.books.items layer = subst (λ bs. IsJoinOf bs layer) c.as_slice.ensures.value c.in_ok-layer.ensures in
    begins c.args.settings.now.config c.args.state.now.search c.args.books.items c.requires.limits c.requires.paused layer join

pub returns-then-not-within-clause-outcome : goal.returns-then-not-within-clause-outcome
returns-then-not-within-clause-outcome g c =
    let config = c.args.settings.now.config in let s = c.args.state.now.search in let layer = c.in_ok-layer.layer in
    let join : IsJoinOf c.args.books.items layer = subst (λ bs. IsJoinOf bs layer) c.as_slice.ensures.value c.in_ok-layer.ensures in
    let next = next_layer config s c.args.books.items c.requires.limits c.requires.paused layer join in
    let after = c.in-Some-2.after.items in
    let examined = subst (λ found. IfNone found (IsExamined s layer)) c.in_default.is c.in_ok-answer.ensures.onward in
    let work : AreWorkedBy config c.look.new.self layer c.in-Some-2.within after =
    subst (λ back. IfSome back (λ b. AreWorkedBy config c.look.new.self layer b.0 b.1.items)) c.in-Some-2.is c.in_ok-within.ensures.worked in
    ends_over config s layer after c.requires.limits next examined
    (subst (λ w. AreWorkedBy config s layer w after) c.if-not-within.true
    (subst (λ v. AreWorkedBy config v layer c.in-Some-2.within after) c.look.ensures.same work))

pub returns-clause-outcome : goal.returns-clause-outcome
returns-clause-outcome g c =
    let config = c.args.settings.now.config in let s = c.args.state.now.search in let layer = c.in_ok-layer.layer in
    let join : IsJoinOf c.args.books.items layer = subst (λ bs. IsJoinOf bs layer) c.as_slice.ensures.value c.in_ok-layer.ensures in
    let next = next_layer config s c.args.books.items c.requires.limits c.requires.paused layer join in
    let after = c.in-Some-2.after.items in
    let examined = subst (λ found. IfNone found (IsExamined s layer)) c.in_default.is c.in_ok-answer.ensures.onward in
    let work : AreWorkedBy config c.look.new.self layer c.in-Some-2.within after =
    subst (λ back. IfSome back (λ b. AreWorkedBy config c.look.new.self layer b.0 b.1.items)) c.in-Some-2.is c.in_ok-within.ensures.worked in
    let grown : c.push.new.self ≡ with_layer s layer = c.in_ok-state.ensures.ok
    ∙ ap (λ (v : SearchView). with_layer v layer) (c.work_through.ensures.same.0 ∙ c.look.ensures.same) in
    subst (λ v. GoesOn s v (config.workers + 1) config.locks after) (sym grown) (
      goes_on config s layer after next
          (subst (λ w. AreWorkedBy config s layer w after) c.if-not-within.false
          (subst (λ v. AreWorkedBy config v layer c.in-Some-2.within after) c.look.ensures.same work)),
      refl,
      refl,
      omega (arith, examined.filled),
      examined.looked.within,
    )

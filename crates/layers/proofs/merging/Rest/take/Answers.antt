use Rattle.std.proofs.Common.{drop, ◌+◌, ◌∙◌, add-one, ap, arith}
use Rattle.layers.proofs.Rests.{drop_first, first_at, first_left}
use Rattle.layers.proofs.merging.Rest.take.Goals as goal

pub invariant_of-self : goal.invariant_of-self
invariant_of-self c =
    let es = c.self.inside.found.now.seen in let p = c.self.inside.index in (
      omega (arith, first_left es p c.args.self.now c.self.view_is c.requires, c.self.invariant.1),
      c.self.invariant.1,
      c.origin_at-self-inside.ensures ∙ first_at es (p + 1),
    )

pub returns : goal.returns
returns c = λ e rest is.
    let es = c.self.inside.found.now.seen in let p = c.self.inside.index in
    let w = drop_first es p e rest (c.self.view_is ∙ is) in
    (ap (λ n. drop n es) (add-one p) ∙ w.1, c.in_ok-copy_at.ensures e w.0)

pub overflow_add-self : goal.overflow_add-self
overflow_add-self c = omega (
  arith,
  first_left c.self.inside.found.now.seen c.self.inside.index c.args.self.now c.self.view_is c.requires,
  c.self.invariant.1,
  c.self.ranges,
)

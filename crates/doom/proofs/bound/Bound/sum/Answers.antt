use Rattle.std.proofs.Common.{◌≡◌, ◌+◌, suc, [], drop, length, get_or, refl, sym, ap, subst, ◌∙◌, arith}
use Rattle.std.proofs.Math.Seq.{drop-cons, drop-length}
use Rattle.std.proofs.lemmas.List.{get_or_read}
use Rattle.doom.specs.Bounds.{IsFar, IsLower}
use Rattle.doom.proofs.bound.Bound.sum.Goals as goal

pub loop-square-preserved : goal.loop-square-preserved
loop-square-preserved c =
    let board = c.args.self.now in
    let boxes = c.args.boxes.now in
    let i = c.loop-square.square-index in
    let a = c.in_ok-distance.field-0 in
    let at = get_or_read boxes i c.square-item.result c.loop-square-test.true c.square-item.is 0 in
    let far : IsFar board (get_or boxes i 0) a = subst (λ q. IsFar board q a) at c.in_ok-distance.ensures in
    let next : i + 1 ≡ suc i = omega arith in
    let split = drop-cons boxes i 0 c.loop-square-test.true in
    record {
      sum = λ b rest. subst (λ n. IsLower board boxes n) (let e : c.loop-square.sum + (a + b) ≡ c.loop-square.sum + c.from.result + b =
          omega (arith, c.from.ensures) in e)
          (c.loop-square.invariant.sum (a + b)
          (subst (λ ys. IsLower board ys (a + b)) (sym split) (a, b, far, subst (λ n. IsLower board (drop n boxes) b) next rest, refl)));
      few = omega (arith, c.from.ensures, c.loop-square.invariant.few);
    }

pub returns : goal.returns
returns c =
    let board = c.args.self.now in
    let boxes = c.args.boxes.now in
    let end : c.loop-square.square-index ≡ length boxes = omega arith in
    let none : drop c.loop-square.square-index boxes ≡ [] = ap (λ n. drop n boxes) end ∙ drop-length boxes in
    subst (λ n. IsLower board boxes n) (let e : c.loop-square.sum + 0 ≡ c.loop-square.sum = omega arith in e)
    (c.loop-square.invariant.sum 0 (subst (λ ys. IsLower board ys 0) (sym none) refl))

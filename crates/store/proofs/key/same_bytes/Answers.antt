use Rattle.std.proofs.Common.{arith, nat_eq, ap, get_or}
use Rattle.std.specs.Cmp.Lexicographic.{pointwise, bytes_decides}
use Rattle.std.proofs.lemmas.Bool.Decides.{same_from_decides}
use Rattle.std.proofs.lemmas.List.{ext_get_or}
use Rattle.store.proofs.key.same_bytes.Goals as goal

pub returns : goal.returns
returns c =
    let xs = c.args.bytes.now in
    let ys = c.args.others.now in
    let known = c.loop-index.invariant in
    let reached = c.loop-index-test.false in
    let at_end = c.loop-index.auto.index-end in
    same_from_decides c.loop-index.same (pointwise nat_eq xs ys) (
      λ same. ext_get_or 0 xs ys known.0 (λ i inside. known.1.0 same i (omega (arith, inside, reached, at_end))),
      λ e. known.1.1 (λ i inside. ap (λ zs. get_or zs i 0) e),
    )
    (bytes_decides xs ys)

use Rattle.std.proofs.Common.{arith, refl}
use Rattle.std.proofs.lemmas.Bool.{false≢true}
use Rattle.doom.proofs.Passes.{other_there, other_nowhere}
use Rattle.doom.proofs.locked.is_other_word.Goals as goal

pub returns-then-members-index-ne0 : goal.returns-then-members-index-ne0
returns-then-members-index-ne0 c =
    let members_fit = c.type_inv.members c.loop-index.index in
    let others_fit = c.type_inv.others c.loop-index.index in (
      λ _. other_there c.args.members.now c.args.others.now c.loop-index.index (omega (arith, members_fit))
          (omega (arith, others_fit)) c.if-members-index-ne0.true,
      λ _. refl,
    )

pub returns : goal.returns
returns c = (
  λ yes. absurd (false≢true yes),
  λ (q, here, off). absurd (other_nowhere c.args.members.now c.args.others.now c.loop-index.index q c.loop-index-test.false
      (λ k. (let fit = c.type_inv.others k in omega (arith, fit))) c.loop-index.invariant here off),
)

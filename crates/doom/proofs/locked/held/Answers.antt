use Rattle.std.proofs.Common.{refl}
use Rattle.doom.proofs.Passes.{held_word}
use Rattle.doom.proofs.locked.held.Goals as goal

pub returns : goal.returns
returns c = λ j lt.
    held_word c.args.fast.now c.args.members.now c.args.index c.args.by c.before-2.result c.after.result j lt
    (λ i e. c.before-2.ensures.there i j lt e) (c.before-2.ensures.none j lt) (c.after.ensures _ j lt refl)

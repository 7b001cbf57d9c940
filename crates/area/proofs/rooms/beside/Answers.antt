use Rattle.std.proofs.Common.{◌+◌, ◌*◌}
use Rattle.grid.specs.declared.masks.TheConstants.{WORD_BITS}
use Rattle.area.proofs.Widening.{beside_bits}
use Rattle.area.proofs.rooms.beside.Goals as goal

pub returns : goal.returns
returns c = λ j lt.
    beside_bits c.args.words.now c.args.cols (WORD_BITS * c.args.index + j) j _ _ _ _
    (λ i e. c.just_before.ensures.there i j lt e) (λ low. c.just_before.ensures.none j lt low) (λ i e. c.just_after.ensures i j lt e)
    (λ i e. c.before-2.ensures.there i j lt e) (λ low. c.before-2.ensures.none j lt low) (λ i e. c.after.ensures i j lt e)

use Rattle.std.proofs.Common.{ℕ, not, eqb, ◌&&◌, List, length, sym, ap, subst, ◌∙◌}
use Rattle.std.proofs.Common.{◌*◌, ◌<◌}
use Rattle.grid.specs.declared.masks.TheConstants.{WORD_BITS}
use Rattle.grid.specs.Masks.{has_bit}
use Rattle.area.proofs.set.SquareSet.copy_without.Goals as goal

pub take_out-requires : goal.take_out-requires
take_out-requires c = subst (λ (ws : List ℕ). c.args.but < WORD_BITS * length ws) (sym c.copy_from.ensures) c.requires.inside

pub returns-clause-out : goal.returns-clause-out
returns-clause-out c = λ q. c.take_out.ensures.out q ∙ ap (λ (ws : List ℕ). has_bit ws q && not (eqb c.args.but q)) c.copy_from.ensures

pub returns-clause-size : goal.returns-clause-size
returns-clause-size c = c.take_out.ensures.size ∙ (ap length c.copy_from.ensures ∙ sym c.requires.room)

use Rattle.std.proofs.Common.{ℕ, ◌+◌, ◌*◌, ◌≤◌, refl, sym, ap, subst, arith}
use Rattle.grid.specs.declared.masks.TheConstants.{WORD_BITS}
use Rattle.doom.proofs.Spared.{spared}
use Rattle.doom.proofs.dangers.danger_at.Goals as goal

pub returns : goal.returns
returns c = λ board fast_r fast_d columns some d j lt.
    spared board c.args.across.now c.args.along.now c.args.boxes.now c.args.index j c.before-left.result c.after-right.result c.before-up.result
    c.after-down.result fast_r fast_d (subst (λ (n : ℕ). 1 ≤ n) (sym columns) some) lt
    (λ i e. c.before-left.ensures.there i j lt e) (c.after-right.ensures _ j lt refl)
    (λ i e. c.before-up.ensures.there i j lt (omega (arith, e, columns)))
    (c.after-down.ensures _ j lt (ap (λ (n : ℕ). WORD_BITS * c.args.index + j + n) columns)) d

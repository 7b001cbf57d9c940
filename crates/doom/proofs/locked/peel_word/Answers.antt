use Rattle.std.proofs.Common.{◌≡◌, ◌*◌, ◌+◌, ◌<◌, ◌↔◌, ℕ, List, true, subst, arith}
use Rattle.grid.specs.declared.masks.TheConstants.{WORD_BITS}
use Rattle.area.specs.Words.{squares_of, word_bit}
use Rattle.doom.specs.inside.Locking.{IsHeldBy}
use Rattle.doom.proofs.Passes.{looked, looked_empty}
use Rattle.doom.proofs.locked.peel_word.Goals as goal

pub returns-then-old-eq0 : goal.returns-then-old-eq0
returns-then-old-eq0 c = looked_empty c.args.holds.now c.args.cols c.args.members.now c.args.index (let e = c.if-old-eq0.true in omega (arith, e))

pub returns : goal.returns
returns c =
    looked c.args.holds.now c.args.cols c.args.members.now c.args.index c.held-across.result c.held-along.result c.requires.index
    (subst (λ (fast : List ℕ). (j : ℕ) → j < WORD_BITS → (word_bit c.held-across.result j ≡ true) ↔
    IsHeldBy fast 1 (squares_of c.args.members.now) (WORD_BITS * c.args.index + j)) c.as_words.ensures c.held-across.ensures)
    (subst (λ (fast : List ℕ). (j : ℕ) → j < WORD_BITS → (word_bit c.held-along.result j ≡ true) ↔
    IsHeldBy fast c.args.cols (squares_of c.args.members.now) (WORD_BITS * c.args.index + j)) c.as_words-2.ensures c.held-along.ensures)

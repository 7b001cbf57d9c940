use Rattle.std.proofs.Common.{◌≡◌, ◌%◌, ℕ, ◌≤◌, ap, subst, ◌∙◌, arith}
use Rattle.grid.specs.declared.masks.TheConstants.{WORD_BITS}
use Rattle.grid.specs.Squares.{Squares}
use Rattle.grid.specs.Board.{Board}
use Rattle.area.specs.Words.{squares_of}
use Rattle.doom.specs.inside.Dangers.{AreDangers}
use Rattle.doom.specs.inside.Holding.{AreHolds}
use Rattle.doom.proofs.dangers.Dangers.find.Goals as goal

pub returns : goal.returns
returns c =
    let same : c.args.level.now.cols ≡ c.cols-cols.result % WORD_BITS = (let e = c.cols-cols.ensures in
    omega (arith, e, c.if-cols-ge-WORD_BITS.false)) in
    subst (λ (bs : Squares). AreDangers c.args.level.now bs c.find_words.new.words.items) (ap squares_of c.as_words-boxes.ensures ∙ c.boxes.ensures.boxes)
    (c.find_words.ensures c.args.level.now (subst (λ (b : Board). AreHolds b c.holds.result.now) c.requires.dead_of_level c.holds.ensures)
    same (subst (λ (n : ℕ). 1 ≤ n) same c.tell.ensures.columns))

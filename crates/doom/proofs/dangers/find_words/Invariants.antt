use Rattle.std.proofs.Common.{◌≡◌, ◌≤◌, length}
use Rattle.grid.specs.Board.{Board}
use Rattle.area.specs.Words.{squares_of}
use Rattle.doom.specs.inside.Dangers.{AreDangers}
use Rattle.doom.specs.inside.Holding.{AreHolds}
use Rattle.doom.proofs.dangers.find_words.Given as goal

abbrev pub invariant-loop-index : goal.invariant-loop-index
invariant-loop-index l = record {
  size : length l.words.items ≡ l.index;
  tell : (board : Board) → AreHolds board l.holds → board.cols ≡ l.cols → 1 ≤ l.cols → AreDangers board (squares_of l.boxes) l.words.items;
}

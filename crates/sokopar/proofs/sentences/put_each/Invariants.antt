-- Each square so far has its sentence.
use Rattle.std.proofs.Common.{◌≡◌, ◌++◌, take}
use Rattle.std.specs.List.{flat_map}
use Rattle.sokopar.specs.Explaining.{sentence_at}
use Rattle.sokopar.proofs.sentences.put_each.Given as goal

abbrev pub invariant-loop-square : goal.invariant-loop-square
invariant-loop-square l =
    l.text ≡ l.fn.text ++ flat_map (sentence_at l.words l.rows.cols l.rows.places.items) (take l.square-index l.squares)

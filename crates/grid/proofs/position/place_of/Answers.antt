use Rattle.std.proofs.Common.{ℕ, ltb, count_by, ap, ◌∙◌}
use Rattle.std.proofs.lemmas.List.{take_all}
use Rattle.grid.proofs.lemmas.Places.{lesser_first}
use Rattle.grid.proofs.position.place_of.Goals as goal

pub returns : goal.returns
returns c =
    let xs = c.args.squares.now in
    c.loop-other.invariant ∙ (ap (count_by (λ (x : ℕ). ltb x c.args.square)) (take_all c.loop-other.other-index xs c.loop-other-test.false) ∙
    lesser_first c.args.square xs c.requires.rising)

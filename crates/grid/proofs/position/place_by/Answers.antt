use Rattle.std.proofs.Common.{sym, ◌∙◌, arith}
use Rattle.std.proofs.lemmas.Bool.{eqb-true}
use Rattle.std.proofs.lemmas.List.{get_or_read}
use Rattle.grid.proofs.lemmas.Places.{place_by}
use Rattle.grid.proofs.position.place_by.Goals as goal

pub returns-then-eq : goal.returns-then-eq
returns-then-eq c =
    let at = get_or_read c.args.squares.now c.args.place c.index-squares-place.result c.if-place-squares.true c.index-squares-place.is 0 in
    let same = eqb-true c.index-squares-place.result c.args.square (sym c.eq.ensures ∙ c.if-eq.true) in
    place_by c.args.squares.now c.args.place c.args.square c.requires.rising c.if-place-squares.true (omega (arith, at, same))

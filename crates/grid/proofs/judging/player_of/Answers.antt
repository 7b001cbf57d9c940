use Rattle.std.proofs.Common.{sym, ◌∙◌}
use Rattle.grid.specs.Board.{player_cell}
use Rattle.grid.proofs.lemmas.Levels.{start_player_is}
use Rattle.grid.proofs.lemmas.Places.{places_more_no}
use Rattle.grid.proofs.judging.player_of.Goals as goal

pub returns-then-has_player : goal.returns-then-has_player
returns-then-has_player c = λ cols.
    sym (start_player_is (record { cols = cols; cells = c.args.cells.now }) c.loop-i.i c.requires.one (sym c.has_player.ensures ∙ c.if-has_player.true))

pub loop-i-preserved : goal.loop-i-preserved
loop-i-preserved c =
    places_more_no player_cell c.args.cells.now c.loop-i.i _ c.loop-i-test.true (sym c.has_player.ensures ∙ c.if-has_player.false) ∙ c.loop-i.invariant

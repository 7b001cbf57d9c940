-- The player is the first of those on the board.
use Rattle.std.proofs.Common.{ap, sym, ◌∙◌, slice_get}
use Rattle.grid.specs.Squares.{Squares}
use Rattle.sokopar.specs.inside.Explaining.{board_in}
use Rattle.sokopar.proofs.Remarks.{first_player, no_way_out, player_on_floor, some_player, way_out}
use Rattle.sokopar.proofs.faulty.exit_of.Goals as goal

pub exit_from-requires-clause-start : goal.exit_from-requires-clause-start
exit_from-requires-clause-start c =
    let is = ap (λ (ps : Squares). slice_get ps 0) (sym (c.as_slice.ensures.value ∙ c.in_ok-players.ensures)) ∙ sym c.first_of.ensures ∙ c.in-Some.is in
    first_player (board_in c.args.rows.now) c.in-Some.player is

pub exit_from-requires-clause-floor : goal.exit_from-requires-clause-floor
exit_from-requires-clause-floor c =
    let is = ap (λ (ps : Squares). slice_get ps 0) (sym (c.as_slice.ensures.value ∙ c.in_ok-players.ensures)) ∙ sym c.first_of.ensures ∙ c.in-Some.is in
    player_on_floor (board_in c.args.rows.now) c.in-Some.player is

pub returns-in_default : goal.returns-in_default
returns-in_default c = no_way_out (board_in c.args.rows.now)
    (ap (λ (ps : Squares). slice_get ps 0) (sym (c.as_slice.ensures.value ∙ c.in_ok-players.ensures)) ∙ sym c.first_of.ensures ∙ c.in_default.is)

pub returns : goal.returns
returns c =
    let is = ap (λ (ps : Squares). slice_get ps 0) (sym (c.as_slice.ensures.value ∙ c.in_ok-players.ensures)) ∙ sym c.first_of.ensures ∙ c.in-Some.is in
    way_out c.exit_from.result (board_in c.args.rows.now) (some_player (board_in c.args.rows.now) c.in-Some.player is) c.exit_from.ensures

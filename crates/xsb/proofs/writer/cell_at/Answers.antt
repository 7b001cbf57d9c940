use Rattle.std.proofs.Common.{◌≡◌, ◌==◌, ap, ◌∙◌}
use Rattle.grid.specs.Board.{start_player}
use Rattle.xsb.proofs.CellsByReaders.{cell_with-level}
use Rattle.xsb.proofs.writer.cell_at.Goals as goal

pub returns : goal.returns
returns c =
    let told = c.eq-is_player.ensures in
    let player = c.player.ensures in
    let is_player : c.eq-is_player.result ≡ (start_player c.args.level.now == c.args.place) = told ∙ ap (λ p. p == c.args.place) player in
    c.cell_with.ensures ∙ cell_with-level c.args.level.now c.args.place c.is_wall.result c.has_box.result c.eq-is_player.result c.is_goal.result
    c.requires.level c.is_wall.ensures c.has_box.ensures is_player c.is_goal.ensures

-- At first the player's square alone is marked and pending.
use Rattle.std.proofs.Common.{ℕ, List, [], ◌∷◌, true, set, sym, subst, arith}
use Rattle.grid.specs.inside.Filling.{IsFilling}
use Rattle.grid.proofs.lemmas.Filling.{fill_start}
use Rattle.grid.proofs.lemmas.Steps.{inside_grid}
use Rattle.sokopar.specs.inside.Explaining.{board_in}
use Rattle.sokopar.proofs.exits.exit_by.Goals as goal

pub bounds-marks-player-inside : goal.bounds-marks-player-inside
bounds-marks-player-inside c =
    let lies = inside_grid (board_in c.args.rows.now) c.args.player c.requires.floor in
    omega (arith, lies, c.requires.size, c.player.view_is)

pub first_exit-requires-clause-filling : goal.first_exit-requires-clause-filling
first_exit-requires-clause-filling c =
    let board = board_in c.args.rows.now in
    let items = c.in_ok-pending.ensures.items_if_clones_equal (λ y e. e) in
    subst (λ (xs : List ℕ). IsFilling board (set c.args.marks.now c.player.inside.0 true) xs) (sym items)
    (subst (λ (q : ℕ). IsFilling board (set c.args.marks.now q true) (c.args.player ∷ [])) (sym c.player.view_is)
    (fill_start board c.args.marks.now c.args.player c.requires.size c.requires.clear c.requires.start c.requires.floor))

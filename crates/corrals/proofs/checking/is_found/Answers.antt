use Rattle.std.proofs.Common.{rules}
use Rattle.corrals.proofs.Looks.{closure_found}
use Rattle.corrals.proofs.checking.is_found.Goals as goal

pub returns-clause-closure : goal.returns-clause-closure
returns-clause-closure c told m allowed =
    closure_found _ c.args.ground.now.scene _ _ c.args.boxes.now c.args.squares.now c.requires.held c.requires.room _
    (cc) (search rules) (search rules) (c.are_ready-ready.ensures.ready told m allowed)

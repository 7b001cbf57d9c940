use Rattle.std.proofs.Common.{subst}
use Rattle.grid.specs.Board.{Board}
use Rattle.doom.specs.inside.Dangers.{AreDangers}
use Rattle.successors.proofs.expander.find_in.Goals as goal

pub returns-clause-dangers : goal.returns-clause-dangers
returns-clause-dangers c =
    subst (λ (b : Board). AreDangers b c.possible_pushes.new.scratch.boxes c.find.new.self.words.items) c.level-2.ensures c.find.ensures

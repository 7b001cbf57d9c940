use Rattle.std.proofs.Common.{◌≡◌, ◌++◌, [], ◌∷◌}
use Rattle.doom.proofs.Pulling.{spread_pop}
use Rattle.doom.proofs.pulls.PullSearch.turn.Goals as goal

pub pull_around-requires : goal.pull_around-requires
pull_around-requires c =
    let due = c.loop-square.self.due.items in
    let due' = c.pop.new.self.items in
    let popped : due ≡ due' ++ c.in-Some.square ∷ [] = c.in-Some.ensures.items in
    record {
      before = spread_pop c.args.level.now c.args.steps c.in-Some.square c.loop-square.self.far.items due due' c.loop-square.self.marked.items popped
          c.loop-square.invariant.filling;
    }

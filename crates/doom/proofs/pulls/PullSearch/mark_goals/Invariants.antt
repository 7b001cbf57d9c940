use Rattle.std.proofs.Common.{◌<◌, ◌≡◌, []}
use Rattle.doom.specs.inside.Pulling.{IsSpread}
use Rattle.doom.proofs.pulls.PullSearch.mark_goals.Given as goal

abbrev pub invariant-loop-index : goal.invariant-loop-index
invariant-loop-index l =
    IsSpread l.level (λ q. q < l.index) (λ _ _. Unit {0}) 0 l.self.far.items [] l.self.marked.items ×
    (l.self.due.items ≡ l.initial.self.due.items)

use Rattle.std.proofs.Common.{◌≡◌, length, sym, subst}
use Rattle.std.specs.Prelude.{MatchOption}
use Rattle.grid.specs.Board.{Scene}
use Rattle.area.specs.After.{IsAreaOf}
use Rattle.area.specs.Reach.{Reach}
use Rattle.doom.specs.Deadlocks.{Undoomed}
use Rattle.doom.specs.inside.Dangers.{AreDangers}
use Rattle.successors.specs.Expanding.{ExpanderView}
use Rattle.successors.specs.Expansion.{IsSuccessor}
use Rattle.successors.proofs.expander.Expander.try_push.Goals as goal

pub push_in-requires-clause-flooded : goal.push_in-requires-clause-flooded
push_in-requires-clause-flooded c =
    subst (λ (v : ExpanderView). IsAreaOf v.problem.board c.args.position.now v.reached) (sym c.self.view_is) c.requires.found.flooded

pub invariant_of-self : goal.invariant_of-self
invariant_of-self c =
    let board = c.self.inside.problem.now.board in
    subst (λ (s : Reach). (s.size ≡ length board.cells) × AreDangers board s.boxes c.self.inside.dangers.words.items)
    (sym c.push_in.ensures.kept) c.self.invariant

pub returns-clause-successor : goal.returns-clause-successor
returns-clause-successor c =
    subst (λ (v : ExpanderView). Undoomed v.problem.board c.args.position.now →
    MatchOption c.push_in.result ((m : Scene) → ¬ (IsSuccessor v.problem.board c.args.position.now c.args.push m))
    (λ after. IsSuccessor v.problem.board c.args.position.now c.args.push after)) c.self.view_is c.push_in.ensures.successor

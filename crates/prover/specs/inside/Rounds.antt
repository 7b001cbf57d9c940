-- Rounds of a search: the positions that are expanded side by side, and what that has found.
use Rattle.std.specs.Prelude.{◌≡◌, ℕ, List, slice_get, Some, IsTrue}
use Rattle.store.specs.Visited.{Node}
use Rattle.successors.specs.Problems.{Problem}
use Rattle.prover.specs.declared.lane.Pick.{Pick}
use Rattle.prover.specs.declared.lane.Lane.{Lane}
use Rattle.prover.specs.declared.rounds.Desk.{Desk}
use Rattle.prover.specs.inside.Working.{IsExpansion, MayBeExpanded}

-- the pick is for a position that can be expanded. Once it is done, it holds what the expansion has opened beside the
-- positions that were found
pub record IsPick (t : Problem) (all : List Node) (pick : Pick) : Type 0 where
  pub ready : MayBeExpanded t.board pick.from
  pub found : IsTrue pick.is_done → IsExpansion t.board t.cap all pick.from pick.opened.items pick.next

abbrev pub ArePicks : Problem → List Node → List Pick → Type 0
ArePicks t all picks = (i : ℕ) (pick : Pick) → slice_get picks i ≡ Some pick → IsPick t all pick

-- a lane for the problem, with picks for it
pub record IsLane (t : Problem) (all : List Node) (lane : Lane) : Type 0 where
  pub problem : lane.workspace.expander.problem ≡ t
  pub picks : ArePicks t all lane.picks.items

abbrev pub AreLanes : Problem → List Node → List Lane → Type 0
AreLanes t all lanes = (i : ℕ) (lane : Lane) → slice_get lanes i ≡ Some lane → IsLane t all lane

-- the memory of a search for the problem
pub record IsDesk (t : Problem) (all : List Node) (desk : Desk) : Type 0 where
  pub problem : desk.workspace.expander.problem ≡ t
  pub lanes : AreLanes t all desk.lanes.items

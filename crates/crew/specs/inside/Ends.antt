-- How a worker is ready for work, and how it ends.
use Rattle.std.specs.Prelude.{◌≡◌, ℕ, Bool, length}
use Rattle.area.specs.Reach.{Reach}
use Rattle.layers.specs.LayerView.{LayerView}
use Rattle.claims.specs.Hands.{DrawerView}
use Rattle.claims.specs.declared.views.Hand.{Hand}
use Rattle.crew.specs.Work.{EndsWith, IsAtPlace, MayEnd, WasAnswered}
use Rattle.crew.specs.declared.end.End.{End}
use Rattle.crew.specs.inside.Sharing.{SharedView}

-- the scratch is for the layer's level, and the drawer has the worker's place in the ledger
pub record IsEquipped (shared : SharedView) (worker : ℕ) (scratch : Reach) (drawer : DrawerView) : Type 0 where
  pub room : scratch.size ≡ length shared.layer.level.board.cells
  pub place : IsAtPlace shared.ledger worker drawer

-- the worker may end so, its drawer is as such an end leaves it, and if a book ended it, a lawful book may have
pub record HasEnded (may_stop : Bool) (layer : LayerView) (workers worker : ℕ) (hand : Hand) (end : End) : Type 0 where
  pub may : MayEnd may_stop end
  pub left : EndsWith worker hand end
  pub answered : WasAnswered layer workers worker end

-- A position that is expanded, and the slots that its successors are written to.
use Rattle.std.specs.Prelude.{◌≡◌, ℕ, ◌≤◌, true, length, take}
use Rattle.grid.specs.States.{FitsLevel}
use Rattle.area.specs.After.{IsAreaOf}
use Rattle.area.specs.Reach.{Reach}
use Rattle.doom.specs.Deadlocks.{Undoomed}
use Rattle.doom.specs.inside.Dangers.{AreDangers}
use Rattle.successors.specs.declared.parcel.Slots.{Slots}
use Rattle.successors.specs.declared.pushing.ParentPosition.{ParentPosition}
use Rattle.successors.specs.inside.Sums.{AreSums}

-- the position may be played on the level, the dead squares are the level's, the last flood was that of the position,
-- the dangers are those of its boxes, and it is not doomed if the field says so
pub record IsReady (parent : ParentPosition) (reach : Reach) : Type 0 where
  pub fits : FitsLevel parent.level.now parent.position.now
  pub dead_of_level : parent.dead.now ≡ parent.level.now
  pub room : reach.size ≡ length parent.level.now.cells
  pub flooded : IsAreaOf parent.level.now parent.position.now reach.reached
  pub boxes : reach.boxes ≡ parent.position.now.boxes
  pub undoomed : parent.is_undoomed ≡ true → Undoomed parent.level.now parent.position.now
  pub dangers : AreDangers parent.level.now reach.boxes parent.dangers.now.words.items

-- the first `count` slots hold successors, each with its sum beside it
pub record AreFilled (count : ℕ) (slots : Slots) : Type 0 where
  pub within : count ≤ length slots.successors.items
  pub sums : AreSums (take count slots.successors.items) (take count slots.sums.items)

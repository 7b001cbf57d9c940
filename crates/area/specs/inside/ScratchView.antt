-- What contracts see of the fields of a scratch, and what the fields keep.
use Rattle.std.specs.Prelude.{◌≡◌, ◌≤◌, length}
use Rattle.grid.specs.declared.limits.TheConstants.{MAX_SQUARES}
use Rattle.grid.specs.Masks.{word_count}
use Rattle.area.specs.declared.scratch.Scratch.TheInside.{Inside}
use Rattle.area.specs.Reach.{Reach}
use Rattle.area.specs.Words.{squares_of}

abbrev pub scratch_view : Inside → Reach
scratch_view a = record { size = a.squares; reached = squares_of a.reached; boxes = squares_of a.boxes }

-- there is a mark and a place in the queue for each square, and each set has room for the squares
pub record IsReady (a : Inside) : Type 0 where
  pub marks : length a.marks.items ≡ a.squares
  pub queue : length a.queue.items ≡ a.squares
  pub small : a.squares ≤ MAX_SQUARES
  pub reached_words : length a.reached ≡ word_count a.squares
  pub boxes_words : length a.boxes ≡ word_count a.squares
  pub spare_words : length a.spare ≡ word_count a.squares
  pub spare_boxes_words : length a.spare_boxes ≡ word_count a.squares

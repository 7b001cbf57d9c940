use Rattle.std.proofs.Common.{◌-◌, ◌≤◌, length, take}
use Rattle.lurd.specs.Text.{IsText}
use Rattle.lurd.proofs.text.parse.Given as goal

-- the bytes so far are a text of the moves so far
abbrev pub invariant-loop-place : goal.invariant-loop-place
invariant-loop-place l = record {
  within : l.place ≤ length l.text;
  text : IsText (take l.place l.text) l.moves;
}

abbrev pub decreases-loop-place : goal.decreases-loop-place
decreases-loop-place l = length l.text - l.place

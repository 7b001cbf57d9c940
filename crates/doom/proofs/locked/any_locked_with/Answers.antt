use Rattle.std.proofs.Common.{ℕ, length, ap, subst, ◌∙◌}
use Rattle.grid.specs.Masks.{word_count}
use Rattle.grid.proofs.lemmas.Steps.{inside_grid}
use Rattle.area.specs.Words.{squares_of}
use Rattle.area.proofs.lemmas.Flooding.{words_enough}
use Rattle.area.proofs.lemmas.Hanging.{hanging_box}
use Rattle.area.proofs.lemmas.WordSets.{bit_member, member_bit}
use Rattle.doom.specs.inside.Locking.{TellsLocked}
use Rattle.doom.proofs.locked.any_locked_with.Goals as goal

pub has_locked-requires-clause-among : goal.has_locked-requires-clause-among
has_locked-requires-clause-among c = λ q h. hanging_box ((c.group_aside-members.ensures.group q).0 (member_bit c.group_aside-members.result.now q h))

pub has_locked-requires-clause-inside : goal.has_locked-requires-clause-inside
has_locked-requires-clause-inside c = λ q there.
    words_enough (length c.args.level.now.cells) (length c.group_aside-members.result.now) q
    (c.group_aside-members.ensures.size ∙ ap word_count c.requires.room) (inside_grid c.args.level.now q (c.requires.clear q there))

pub returns-clause-locked : goal.returns-clause-locked
returns-clause-locked c = (
  squares_of c.group_aside-members.result.now,
  λ q. (
    λ h. (c.group_aside-members.ensures.group q).0 (member_bit c.group_aside-members.result.now q h),
    λ hangs. bit_member c.group_aside-members.result.now q ((c.group_aside-members.ensures.group q).1 hangs),
  ),
  subst (λ (n : ℕ). TellsLocked c.args.holds.now n (squares_of c.group_aside-members.result.now) c.has_locked.result) c.cols.ensures
      c.has_locked.ensures.locked,
)

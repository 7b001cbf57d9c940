use Rattle.std.proofs.Common.{ℕ, length, sym, ap, subst, ◌∙◌}
use Rattle.grid.specs.Masks.{word_count}
use Rattle.area.proofs.lemmas.Flooding.{words_enough}
use Rattle.area.proofs.lemmas.WordSets.{member_bit}
use Rattle.doom.specs.inside.Locking.{TellsLocked}
use Rattle.doom.proofs.Passes.{locked_of_words}
use Rattle.doom.proofs.locked.any_locked.Goals as goal

pub has_locked-requires-clause-among : goal.has_locked-requires-clause-among
has_locked-requires-clause-among c = λ q h. sym (c.boxes_aside.ensures.boxes q) ∙ member_bit c.boxes_aside.result.now q h

pub has_locked-requires-clause-inside : goal.has_locked-requires-clause-inside
has_locked-requires-clause-inside c = λ q there.
    words_enough (length c.args.level.now.cells) (length c.boxes_aside.result.now) q (c.boxes_aside.ensures.size ∙ ap word_count c.requires.room)
    (c.requires.inside q there)

pub returns-clause-locked : goal.returns-clause-locked
returns-clause-locked c = subst (λ (n : ℕ). TellsLocked c.args.holds.now n c.args.boxes.now c.has_locked.result) c.cols.ensures
    (locked_of_words c.args.holds.now c.cols.result c.args.boxes.now c.boxes_aside.result.now c.has_locked.result c.boxes_aside.ensures.boxes
    c.has_locked.ensures.locked)

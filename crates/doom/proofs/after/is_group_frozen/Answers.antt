use Rattle.std.proofs.Common.{rules, ◌≡◌, ◌<◌, ℕ, Bool, List, true, false, not, length, inl, refl, sym, ap, subst, ◌∙◌}
use Rattle.std.proofs.lemmas.Bool.{and_parts, false≢true, not-true}
use Rattle.grid.specs.Board.{Board, is_goal, is_wall}
use Rattle.grid.specs.Masks.{has_bit, word_count}
use Rattle.grid.specs.Squares.{Squares, contains}
use Rattle.grid.proofs.lemmas.Steps.{inside_grid}
use Rattle.area.specs.Words.{squares_of}
use Rattle.area.proofs.lemmas.Flooding.{words_enough}
use Rattle.area.proofs.lemmas.Hanging.{hanging_box}
use Rattle.area.proofs.lemmas.WordSets.{bit_member, member_bit}
use Rattle.doom.specs.Deadlocks.{IsFrozen}
use Rattle.doom.specs.Pushed.{IsGroupFrozen}
use Rattle.doom.specs.inside.Holding.{AreHolds}
use Rattle.doom.specs.declared.holds.Holds.{Holds}
use Rattle.doom.specs.inside.Locking.{AreHeld, AreLocked, HaveRoom, IsLargest, StandInside, TellsLocked}
use Rattle.doom.proofs.Holding.{frozen_as_locked, frozen_told, room_of}
use Rattle.doom.proofs.Parting.{frozen_with, group_told, others_told}
use Rattle.doom.proofs.Passes.{locked_of_words}
use Rattle.doom.proofs.after.is_group_frozen.Goals as goal

pub boxes_aside-left-requires : goal.boxes_aside-left-requires
boxes_aside-left-requires c = record {
  inside = λ q h. subst (λ (n : ℕ). q < n) (sym c.requires.room) (inside_grid c.args.level.now q (c.requires.clear q h));
}

pub has_locked-requires-clause-holds : goal.has_locked-requires-clause-holds
has_locked-requires-clause-holds c =
    subst (λ (n : ℕ). HaveRoom c.holds-holds.result.now n) (sym (c.boxes_aside-left.ensures.size ∙ ap word_count c.requires.room))
    (room_of c.args.level.now c.holds-holds.result.now
    (subst (λ (b : Board). AreHolds b c.holds-holds.result.now) c.requires.dead_of_level c.holds-holds.ensures))

pub has_locked-requires-clause-among : goal.has_locked-requires-clause-among
has_locked-requires-clause-among c = λ q h. sym (c.boxes_aside-left.ensures.boxes q) ∙ member_bit c.boxes_aside-left.result.now q h

pub has_locked-requires-clause-inside : goal.has_locked-requires-clause-inside
has_locked-requires-clause-inside c = λ q there.
    words_enough (length c.args.level.now.cells) (length c.boxes_aside-left.result.now) q
    (c.boxes_aside-left.ensures.size ∙ ap word_count c.requires.room) (inside_grid c.args.level.now q (c.requires.clear q there))

pub any_locked_with-requires-clause-holds : goal.any_locked_with-requires-clause-holds
any_locked_with-requires-clause-holds c = room_of c.args.level.now c.holds-holds.result.now
    (subst (λ (b : Board). AreHolds b c.holds-holds.result.now) c.requires.dead_of_level c.holds-holds.ensures)

module _ (board : Board) (holds : Holds) (are : AreHolds board holds) (boxes : Squares) (clear : (q : ℕ) → contains boxes q ≡ true → is_wall board q ≡ false)
    (cols : ℕ) (same : cols ≡ board.cols) (words : List ℕ) (aside : (q : ℕ) → has_bit words q ≡ contains boxes q) where
  stand : StandInside board boxes
  stand q h = inside_grid board q (clear q h)

  -- what is told of all boxes: if none are frozen, none of them are
  none_frozen : (told : Bool) → TellsLocked holds cols (squares_of words) told → told ≡ false → (members : Squares) → ¬ (IsFrozen board boxes members)
  none_frozen told tells none members frozen =
      false≢true (sym none ∙ (frozen_told board holds are boxes stand told
      (subst (λ (n : ℕ). TellsLocked holds n boxes told) same (locked_of_words holds cols boxes words told aside tells))).1 (members, frozen))

  -- if a box off goal is one of those that hold one another, its group is frozen
  group_frozen : (left : List ℕ) (square : ℕ) → IsLargest holds cols (squares_of words) (squares_of left) → contains boxes square ≡ true →
      has_bit left square ≡ true → is_goal board square ≡ false → IsGroupFrozen board boxes square
  group_frozen left square largest there here off =
      frozen_with board boxes (squares_of left) clear (frozen_as_locked board holds are boxes stand (squares_of left) locked) square
      (bit_member left square here) off
    where
      locked : AreLocked holds board.cols boxes (squares_of left)
      locked = record {
        some = λ q h. sym (aside q) ∙ member_bit words q (largest.some q h);
        off = (square, bit_member left square here, are.goals.right square (stand square there) ∙ off);
        held = subst (λ (n : ℕ). AreHeld holds n (squares_of left)) same largest.held;
      }

pub returns-then-not-has_locked : goal.returns-then-not-has_locked
returns-then-not-has_locked c =
    let none = none_frozen c.args.level.now c.holds-holds.result.now
    (subst (λ (b : Board). AreHolds b c.holds-holds.result.now) c.requires.dead_of_level c.holds-holds.ensures)
    c.args.boxes.now c.requires.clear c.cols.result c.cols.ensures c.boxes_aside-left.result.now
    c.boxes_aside-left.ensures.boxes c.has_locked.result c.has_locked.ensures.locked c.if-not-has_locked.true in
    record {
      group = (λ h. absurd (false≢true h), λ (members, frozen, _). absurd (none members frozen));
      others = λ members frozen. absurd (none members frozen);
      kept = search rules;
    }

pub returns-then-frozen-off : goal.returns-then-frozen-off
returns-then-frozen-off c =
    let both = and_parts c.has-frozen.result (not c.is_goal-off.result) c.if-frozen-off.true in
    let frozen = group_frozen c.args.level.now c.holds-holds.result.now
    (subst (λ (b : Board). AreHolds b c.holds-holds.result.now) c.requires.dead_of_level c.holds-holds.ensures)
    c.args.boxes.now c.requires.clear c.cols.result c.cols.ensures c.boxes_aside-left.result.now
    c.boxes_aside-left.ensures.boxes c.has_locked.new.members c.args.square c.has_locked.ensures.left c.requires.there
    (sym c.has-frozen.ensures ∙ both.0) (sym c.is_goal-off.ensures ∙ not-true c.is_goal-off.result both.1) in
    record { group = (λ _. frozen, λ _. refl); others = λ _ _. inl refl; kept = search rules }

pub returns : goal.returns
returns c =
    let (group, hang, tells) = c.any_locked_with.ensures.locked in
    let inside : StandInside c.args.level.now group =
    λ q h. inside_grid c.args.level.now q (c.requires.clear q (hanging_box ((hang q).0 h))) in
    let told = frozen_told c.args.level.now c.holds-holds.result.now
    (subst (λ (b : Board). AreHolds b c.holds-holds.result.now) c.requires.dead_of_level c.holds-holds.ensures) group
    inside c.any_locked_with.result tells in
    record {
      group = group_told c.args.level.now c.args.boxes.now c.args.square group c.any_locked_with.result hang told;
      others = others_told c.args.level.now c.args.boxes.now c.args.square group c.any_locked_with.result hang told
          c.requires.clear;
      kept = search rules;
    }

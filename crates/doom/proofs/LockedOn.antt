-- Boxes that are locked with one that moved.
use Rattle.std.proofs.Common.{◌≡◌, ◌↔◌, ℕ, Bool, true, false, List, IsTrue, refl, sym, subst, ◌∙◌, inl, inr}
use Rattle.std.proofs.lemmas.Bool.{false≢true}
use Rattle.grid.specs.Board.{Board}
use Rattle.grid.specs.Masks.{has_bit}
use Rattle.grid.specs.Squares.{Squares, contains, insert, remove}
use Rattle.grid.proofs.lemmas.Squares.{contains-insert_cases, contains-remove_parts}
use Rattle.area.specs.Words.{squares_of}
use Rattle.area.proofs.lemmas.WordSets.{bit_member, member_bit}
use Rattle.doom.specs.declared.holds.Holds.{Holds}
use Rattle.doom.specs.Deadlocks.{Doomed, IsDead}
use Rattle.doom.specs.inside.Holding.{AreHolds}
use Rattle.doom.specs.inside.LockedOn.{TellsLockedOn}
use Rattle.doom.specs.inside.Locking.{IsLargest, StandInside}
use Rattle.doom.proofs.Holding.{frozen_as_locked, locked_as_frozen}
use Rattle.doom.proofs.Passes.{IsPeeling, locked_by_bits}

-- a set of just these boxes, from which none is taken out yet
pub peeling_words : (holds : Holds) (cols : ℕ) (boxes : Squares) (words : List ℕ) → ((q : ℕ) → has_bit words q ≡ contains boxes q) →
    IsPeeling holds cols boxes (squares_of words)
peeling_words holds cols boxes words are = record {
  some = λ q h. sym (are q) ∙ member_bit words q h;
  largest = λ others within held q h. bit_member words q (are q ∙ within q h);
}

-- once the box on the square is taken out, none are locked with it
pub told_loose : (holds : Holds) (cols : ℕ) (boxes : Squares) (left : List ℕ) (square : ℕ) → IsPeeling holds cols boxes (squares_of left) →
    has_bit left square ≡ false → TellsLockedOn holds cols boxes square false
told_loose holds cols boxes left square p none = record {
  yes = λ told. absurd (false≢true told);
  no = λ _ part locked here. false≢true (sym none ∙ member_bit left square (p.largest part locked.some locked.held square here));
}

-- once no more can be taken out, the rest tells of all
pub told_locked : (holds : Holds) (cols : ℕ) (boxes : Squares) (left : List ℕ) (square : ℕ) (told : Bool) → IsLargest holds cols boxes (squares_of left) →
    IsTrue told ↔ ((q : ℕ) × (has_bit left q ≡ true) × (has_bit holds.goals q ≡ false)) → TellsLockedOn holds cols boxes square told
told_locked holds cols boxes left square told largest rest =
    let tells = locked_by_bits holds cols boxes left told largest rest in
    record { yes = tells.0; no = λ none part locked here. false≢true (sym none ∙ tells.1 (part, locked)) }

-- a box came to a square that is not dead, among boxes that were not doomed
module _ (board : Board) (holds : Holds) (are : AreHolds board holds) (before after : Squares) (from to : ℕ) (moved : after ≡ insert (remove before from) to)
    (stand : StandInside board after) (live : ¬ (IsDead board to)) (undoomed : ¬ (Doomed board before)) where
  -- another box was there before
  stood : (q : ℕ) → contains after q ≡ true → ¬ (to ≡ q) → contains before q ≡ true
  stood q there other = elim (contains-insert_cases (remove before from) to q (subst (λ (bs : Squares). contains bs q ≡ true) moved there)) [
    | inl same ↦ absurd (other same)
    | inr left ↦ (contains-remove_parts before from q left).1
  ]

  safe : TellsLockedOn holds board.cols after to false → ¬ (Doomed board after)
  safe tells (inl (q, there, dead)) = undoomed (inl (q, stood q there (λ e. live (subst (IsDead board) (sym e) dead)), dead))
  safe tells (inr (members, frozen)) = undoomed (inr (
    members,
    record {
      some = λ q m. stood q (frozen.some q m) (λ e. tells.no refl members (locked_as_frozen board holds are after stand members frozen)
          (subst (λ (x : ℕ). contains members x ≡ true) (sym e) m));
      off_goal = frozen.off_goal;
      blocked = frozen.blocked;
    },
  ))

  bad : TellsLockedOn holds board.cols after to true → Doomed board after
  bad tells = (let (part, locked) = tells.yes refl in inr (part, frozen_as_locked board holds are after stand part locked))

  -- the boxes are doomed exactly where the answer is yes
  pub told_doomed : (told : Bool) → TellsLockedOn holds board.cols after to told → IsTrue told ↔ Doomed board after
  told_doomed true tells = (λ _. bad tells, λ _. refl)
  told_doomed false tells = (λ no. absurd (false≢true no), λ doomed. absurd (safe tells doomed))

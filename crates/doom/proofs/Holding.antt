-- Where walls and dead squares alone hold a box, as sets.
use Rattle.std.proofs.Common.{◌≡◌, ◌≢◌, ◌↔◌, ◌<◌, ◌≤◌, ◌+◌, ℕ, Bool, true, false, eqb, ◌||◌, List, length, refl}
use Rattle.std.proofs.Common.{sym, ap, ◌∙◌, inl, inr, arith, IsTrue}
use Rattle.std.proofs.lemmas.Bool.{false≢true, cases_Bool}
use Rattle.grid.specs.declared.dir.Dir.{Dir}
use Rattle.grid.specs.declared.dir.Dir.TheVariants.{D, R}
use Rattle.grid.specs.Board.{Board, next, opposite}
use Rattle.grid.specs.Masks.{has_bit, word_count}
use Rattle.grid.proofs.lemmas.Steps.{inside_grid}
use Rattle.grid.specs.Squares.{Squares, contains}
use Rattle.grid.proofs.lemmas.Directions.{next_right, next_left, next_below, next_above}
use Rattle.doom.specs.declared.holds.Holds.{Holds}
use Rattle.doom.specs.inside.Locking.{AreLocked, HaveRoom, IsHeldBy, StandInside}
use Rattle.doom.specs.Deadlocks.{IsFrozen, IsHeld}
use Rattle.doom.specs.inside.Holding.{IsFast, AreFast, AreHolds, IsApart}
use Rattle.doom.proofs.Peeling.{blocked_by_axes}
use Rattle.doom.proofs.Beside.{held_fast, held_cases, floor_ahead, floor_behind}

-- ---- how far off the squares beside one are

pub apart_across : (board : Board) → IsApart board R 1
apart_across board q loose = grind (arith, next_right, inside_grid, floor_ahead, next_left, floor_behind)

pub apart_along : (board : Board) (cols : ℕ) → cols ≡ board.cols → IsApart board D cols
apart_along board cols same = grind (arith, next_below, inside_grid, floor_ahead, next_above, floor_behind)

-- the squares beside one that nothing holds fast are others
pub other_beside : (board : Board) (q : ℕ) (d : Dir) (by : ℕ) → 1 ≤ by → IsApart board d by → ¬ (IsFast board q d)
    → (next board q d ≢ q) ×
    (next board q (opposite d) ≢ q)
other_beside board q d by some apart loose = grind arith

-- ---- what holds a box among the members of a set

-- a box is held by what the sets tell where walls, members or dead squares hold it
held_told : (board : Board) (fast : List ℕ) (members : Squares) (q by : ℕ) (d : Dir) → AreFast board d fast
    → IsApart board d by → q < length board.cells
    → IsHeldBy fast by members q ↔ IsHeld board members q d
held_told board fast members q by d are apart inside = elim (cases_Bool (has_bit fast q)) [
  | inl there ↦ (λ _. held_fast board members q d ((are.right q inside).0 there), λ _. inl there)
  | inr none ↦
      (let loose : ¬ (IsFast board q d) = λ f. false≢true (sym none ∙ (are.right q inside).1 f) in
      let (after, before) = apart q loose in (
        λ held. elim held [
          | inl there ↦ absurd (false≢true (sym none ∙ there))
          | inr (inl h) ↦ inl (inr (ap (contains members) after ∙ h))
          | inr (inr (p, e, h)) ↦
              inr
              (inl (inr (ap (contains members) (let same : next board q (opposite d) ≡ p = omega (arith, before, e) in
              same) ∙ h)))
        ],
        λ held. elim (held_cases board members q d loose held) [
          | inl ahead ↦ inr (inl (sym (ap (contains members) after) ∙ ahead))
          | inr behind ↦ inr (inr (next board q (opposite d), before, behind))
        ],
      ))
]

-- the sets have room for all squares
pub room_of : (board : Board) (holds : Holds) → AreHolds board holds → HaveRoom holds (word_count (length board.cells))
room_of board holds are = let a = are.across.size in let b = are.along.size in let c = are.goals.size in
    record { across = omega (arith, a); along = omega (arith, b); goals = omega (arith, c) }

-- so boxes that are locked are frozen, and back
module _ (board : Board) (holds : Holds) (are : AreHolds board holds) (boxes : Squares)
    (stand : StandInside board boxes) where
  pub frozen_as_locked : (part : Squares) → AreLocked holds board.cols boxes part → IsFrozen board boxes part
  frozen_as_locked part locked =
      let (x, here, off) = locked.off in
      record {
        some = locked.some;
        off_goal = (x, here, sym (are.goals.right x (stand x (locked.some x here))) ∙ off);
        blocked = λ q h.
            (let inside = stand q (locked.some q h) in
            let (across, along) = locked.held q h in
            blocked_by_axes board part q
            ((held_told board holds.across part q 1 R are.across (apart_across board) inside).0 across)
            ((held_told board holds.along part q board.cols D are.along (apart_along board board.cols refl) inside).0
            along));
      }

  pub locked_as_frozen : (part : Squares) → IsFrozen board boxes part → AreLocked holds board.cols boxes part
  locked_as_frozen part frozen =
      let (x, here, off) = frozen.off_goal in
      record {
        some = frozen.some;
        off = (x, here, are.goals.right x (stand x (frozen.some x here)) ∙ off);
        held = λ q h.
            (let inside = stand q (frozen.some q h) in (
              (held_told board holds.across part q 1 R are.across (apart_across board) inside).1 (frozen.blocked q h R),
              (held_told board holds.along part q board.cols D are.along (apart_along board board.cols refl) inside).1
                  (frozen.blocked q h D),
            ));
      }

  pub frozen_told : (told : Bool) → IsTrue told ↔ ((part : Squares) × AreLocked holds board.cols boxes part)
      → IsTrue told ↔
      ((part : Squares) × IsFrozen board boxes part)
  frozen_told told tells = (
    λ h. (let (part, locked) = tells.0 h in (part, frozen_as_locked part locked)),
    λ (part, frozen). tells.1 (part, locked_as_frozen part frozen),
  )

-- ---- sets that are filled square by square

-- of the first squares, those that have the property are in the set
abbrev pub IsFilledUpTo : (ℕ → Type 0) → ℕ → List ℕ → Type 0
IsFilledUpTo P n words = (q : ℕ) → (has_bit words q ≡ true) ↔ ((q < n) × P q)

pub filled_none : (P : ℕ → Type 0) (words : List ℕ) → ((q : ℕ) → has_bit words q ≡ false) → IsFilledUpTo P 0 words
filled_none P words none q = (λ h. absurd (false≢true (sym (none q) ∙ h)), λ (lt, p). absurd (omega (arith, lt)))

pub filled_more : (P : ℕ → Type 0) (old new : List ℕ) (n : ℕ) → ((q : ℕ) → has_bit new q ≡ (has_bit old q || eqb n q))
    → P n → IsFilledUpTo P n old
    → IsFilledUpTo P (n + 1) new
filled_more P old new n put p filled q = grind arith

pub filled_less : (P : ℕ → Type 0) (words : List ℕ) (n : ℕ) → ¬ (P n) → IsFilledUpTo P n words
    → IsFilledUpTo P (n + 1) words
filled_less P words n none filled q = grind arith

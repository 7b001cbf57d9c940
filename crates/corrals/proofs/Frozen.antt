-- What a list of boxes, one of which was pushed on, tells of freezing.
use Rattle.std.proofs.Common.{◌≡◌, ◌≢◌, ◌<◌, ◌⊎◌, ℕ, Bool, true, List, length, inl, inr, refl, sym, ap, subst, ◌∙◌, arith}
use Rattle.std.proofs.Common.{get_or, replicate, set}
use Rattle.std.proofs.lemmas.Bool.{cases_eq}
use Rattle.std.proofs.lemmas.List.{get_or-replicate, get_or-set_other, get_or-set_same, length-replicate, length-set}
use Rattle.grid.specs.declared.dir.Dir.{Dir}
use Rattle.grid.specs.Squares.{Squares, contains}
use Rattle.grid.specs.Board.{Board, next}
use Rattle.grid.proofs.lemmas.Squares.{place_of_member}
use Rattle.doom.specs.Deadlocks.{IsFrozen}
use Rattle.corrals.specs.Corrals.{FreezesHeld}
use Rattle.corrals.specs.inside.Freezing.{AreMoved, IsMoved}

-- a list that has the square ahead at each place is a list of moved boxes
pub ahead_alone : (board : Board) (boxes : Squares) (b ahead n : ℕ) → ahead < length board.cells → AreMoved board boxes b ahead (replicate n ahead)
ahead_alone board boxes b ahead n inside i lt =
    let size = length-replicate n ahead in
    let same : get_or (replicate n ahead) i 0 ≡ ahead = get_or-replicate n i ahead 0 (omega (arith, lt, size)) in
    subst (IsMoved board boxes b ahead) (sym same) (inside, inl refl)

pub each_moved : (board : Board) (boxes : Squares) (b ahead q : ℕ) (moved : List ℕ) → AreMoved board boxes b ahead moved → contains moved q ≡ true
    → IsMoved board boxes b ahead q
each_moved board boxes b ahead q moved are there =
    let (i, lt, e) = place_of_member moved q 0 there in
    subst (IsMoved board boxes b ahead) e (are i lt)

-- boxes of such a list that are frozen tell that the push freezes them
pub frozen_among : (board : Board) (boxes : Squares) (b : ℕ) (d : Dir) (moved : List ℕ) → AreMoved board boxes b (next board b d) moved
    → (members : Squares) × IsFrozen board moved members → FreezesHeld board (λ q. contains boxes q) b d
frozen_among board boxes b d moved are frozen = (moved, λ q there. (each_moved board boxes b (next board b d) q moved are there).1, inr frozen)

-- the same of held boxes that are these
pub held_freeze : (board : Board) (held : ℕ → Bool) (boxes : Squares) (b : ℕ) (d : Dir) → ((q : ℕ) → held q ≡ contains boxes q)
    → FreezesHeld board (λ q. contains boxes q) b d → FreezesHeld board held b d
held_freeze board held boxes b d same (squares, among, doomed) = (
  squares,
  λ q there. elim (among q there) [
    | inl e ↦ inl e
    | inr (member, apart) ↦ inr (same q ∙ member, apart)
  ],
  doomed,
)

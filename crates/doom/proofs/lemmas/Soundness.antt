-- From doomed boxes no play ends solved.
use Rattle.std.proofs.Common.{◌≡◌, ℕ, Bool, true, false, ◌∷◌, refl, sym, ap, ◌∙◌, subst, inl, inr}
use Rattle.std.proofs.lemmas.Bool.{false≢true}
use Rattle.std.proofs.lemmas.Bool.Decides.{eqb_tells}
use Rattle.grid.specs.declared.dir.Dir.{Dir}
use Rattle.grid.specs.Squares.{Squares, contains}
use Rattle.grid.specs.Board.{Board, Scene, IsSolved, Pushes, is_wall, next}
use Rattle.grid.specs.States.{IsScene}
use Rattle.grid.specs.Plays.{stay, walk, push}
use Rattle.grid.proofs.lemmas.Steps.{next_back, push_arrived, push_kept, scene_after_walk, scene_after_push}
use Rattle.doom.specs.Deadlocks.{home, onward, IsDead, IsFrozen, Doomed}
use Rattle.doom.specs.Lost.{IsLost, AreLost, LosesBox, SolvesSafely}

-- a box pushed from a dead square lands on a dead square
dead_lands : (board : Board) (s t : Scene) (d : Dir) → IsScene board s → Pushes board s d t → IsDead board (next board s.player d) →
    IsDead board (next board (next board s.player d) d)
dead_lands board s t d scene (there, free, e) dead live =
    let box = scene.boxes _ there in
    let back = next_back board s.player d scene.player.0 box in
    dead (onward d box free.0 (ap (is_wall board) back ∙ scene.player.0) live)

-- a dead box stays dead: it stands still or is pushed onto a dead square
dead_box_stays : (board : Board) (s t : Scene) (d : Dir) (x : ℕ) → IsScene board s → Pushes board s d t → contains s.boxes x ≡ true → IsDead board x →
    Doomed board t.boxes
dead_box_stays board s t d x scene pushed there dead =
    elim (eqb_tells x (next board s.player d)) [
      | inl same ↦ inl (
        next board (next board s.player d) d,
        push_arrived board s d t pushed,
        dead_lands board s t d scene pushed (subst (IsDead board) same.1 dead),
      )
      | inr other ↦ inl (x, push_kept board s d t pushed x (λ e. other.1 (sym e)) there, dead)
    ]

-- a frozen set without the pushed box stays as it is
others_stay : (board : Board) (s t : Scene) (d : Dir) (members : Squares) → Pushes board s d t → IsFrozen board s.boxes members →
    contains members (next board s.player d) ≡ false → Doomed board t.boxes
others_stay board s t d members pushed frozen out =
    inr (
      members,
      record {
        some = λ q member. push_kept board s d t pushed q (λ same. false≢true (sym out ∙ ap (contains members) same ∙ member)) (frozen.some q member);
        off_goal = frozen.off_goal;
        blocked = frozen.blocked;
      },
    )

-- a frozen box that is pushed stands between two dead squares, and lands on one of them
frozen_lands : (board : Board) (s t : Scene) (d : Dir) (members : Squares) → IsScene board s → Pushes board s d t → IsFrozen board s.boxes members →
    contains members (next board s.player d) ≡ true → IsDead board (next board (next board s.player d) d)
frozen_lands board s t d members scene pushed frozen member =
    let back = next_back board s.player d scene.player.0 (scene.boxes _ pushed.0) in
    elim (frozen.blocked _ member d) [
      | inl (inl wall) ↦ absurd (false≢true (sym pushed.1.0 ∙ wall))
      | inl (inr ahead) ↦ absurd (false≢true (sym pushed.1.1 ∙ frozen.some _ ahead))
      | inr (inl (inl wall)) ↦ absurd (false≢true (sym scene.player.0 ∙ sym (ap (is_wall board) back) ∙ wall))
      | inr (inl (inr behind)) ↦ absurd (false≢true (sym scene.player.1 ∙ sym (ap (contains s.boxes) back) ∙ frozen.some _ behind))
      | inr (inr dead) ↦ dead.0
    ]

-- a push leaves a frozen set in place, or brings a box onto a dead square
frozen_stays : (board : Board) (s t : Scene) (d : Dir) (members : Squares) → IsScene board s → Pushes board s d t → IsFrozen board s.boxes members →
    Doomed board t.boxes
frozen_stays board s t d members scene pushed frozen = by_member (contains members (next board s.player d)) refl
  where
    by_member : (b : Bool) → contains members (next board s.player d) ≡ b → Doomed board t.boxes
    by_member true member = inl (
      next board (next board s.player d) d,
      push_arrived board s d t pushed,
      frozen_lands board s t d members scene pushed frozen member,
    )
    by_member false out = others_stay board s t d members pushed frozen out

-- doomed boxes are doomed after a push
pub doomed_stays : (board : Board) (s t : Scene) (d : Dir) → IsScene board s → Pushes board s d t → Doomed board s.boxes → Doomed board t.boxes
doomed_stays board s t d scene pushed (inl (x, there, dead)) = dead_box_stays board s t d x scene pushed there dead
doomed_stays board s t d scene pushed (inr (members, frozen)) = frozen_stays board s t d members scene pushed frozen

-- doomed boxes do not all stand on goals
pub doomed_unsolved : (board : Board) (t : Scene) → Doomed board t.boxes → ¬ (IsSolved board t)
doomed_unsolved board t (inl (x, there, dead)) solved = dead (home (solved x there))
doomed_unsolved board t (inr (members, frozen)) solved =
    let (q, member, off) = frozen.off_goal in
    false≢true (sym off ∙ solved q (frozen.some q member))

-- from doomed boxes no play ends solved
pub doomed_lost : (board : Board) (s : Scene) → IsScene board s → Doomed board s.boxes → IsLost board s
doomed_lost board s scene doomed t ds ps (stay ok) solved = doomed_unsolved board s doomed solved
doomed_lost board s scene doomed t (d ∷ ds) ps (walk {m = m} ok step play) solved =
    doomed_lost board m (scene_after_walk board s d m scene step) (subst (Doomed board) (sym (ap (λ (x : Scene). x.boxes) step.1)) doomed) t ds ps play solved
doomed_lost board s scene doomed t (d ∷ ds) (p ∷ ps) (push {m = m} ok step play) solved =
    doomed_lost board m (scene_after_push board s d m scene step) (doomed_stays board s m d scene step doomed) t ds ps play solved

-- so each state of a play that ends solved is undoomed
pub solution_safe : (board : Board) → SolvesSafely board
solution_safe board s t ds ps scene (stay ok) solved = stay (λ doomed. doomed_unsolved board s doomed solved)
solution_safe board s t (d ∷ ds) ps scene (walk {m = m} ok step play) solved =
    walk (λ doomed. doomed_lost board s scene doomed t (d ∷ ds) ps (walk ok step play) solved) step
    (solution_safe board m t ds ps (scene_after_walk board s d m scene step) play solved)
solution_safe board s t (d ∷ ds) (p ∷ ps) scene (push {m = m} ok step play) solved =
    push (λ doomed. doomed_lost board s scene doomed t (d ∷ ds) _ (push ok step play) solved) step
    (solution_safe board m t ds ps (scene_after_push board s d m scene step) play solved)

-- the same, of a set of boxes and of one box on a dead square
pub doomed_are_lost : (board : Board) (boxes : Squares) → Doomed board boxes → AreLost board boxes
doomed_are_lost board boxes doomed s scene same = doomed_lost board s scene (subst (Doomed board) (sym same) doomed)

pub dead_loses_box : (board : Board) (q : ℕ) → IsDead board q → LosesBox board q
dead_loses_box board q dead s scene there = doomed_lost board s scene (inl (q, there, dead))

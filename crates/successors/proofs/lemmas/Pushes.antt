-- The state after a push that the player can make.
use Rattle.std.proofs.Common.{◌≡◌, ℕ, List, [], ◌∷◌, ◌++◌, refl, sym, ap, subst, ◌∙◌}
use Rattle.grid.specs.declared.dir.Dir.{Dir}
use Rattle.grid.specs.declared.square.Push.{Push}
use Rattle.grid.specs.Squares.{Squares, insert, remove}
use Rattle.grid.specs.Board.{Board, Scene, Pushes, next, opposite}
use Rattle.grid.specs.States.{IsScene}
use Rattle.grid.specs.Plays.{Play, Any, push, push_at}
use Rattle.grid.proofs.lemmas.Steps.{next_back, opposite_twice, same_scene}
use Rattle.grid.proofs.lemmas.Plays.{play-append}
use Rattle.area.specs.After.{IsPushed}
use Rattle.area.specs.Area.{at}
use Rattle.area.specs.Pushes.{CanPush}
use Rattle.area.proofs.lemmas.Norms.{area_scene}
use Rattle.successors.specs.Expansion.{after_push}
use Rattle.successors.proofs.lemmas.Successors.{pushes_on}

module _ (board : Board) (s : Scene) (p : Push) (scene : IsScene board s) (can : CanPush board s p) where
  -- the square from which the push is made
  abbrev behind : ℕ
  behind = next board p.square (opposite p.dir)

  there : next board behind p.dir ≡ p.square
  there = ap (λ (d : Dir). next board behind d) (sym (opposite_twice p.dir)) ∙
      next_back board p.square (opposite p.dir) (scene.boxes p.square can.there)
      (area_scene board s behind scene can.behind).player.0

  -- the push is made behind the box
  named : push_at board (at s behind) p.dir ≡ p
  named = λ i. record { square = there i; dir = p.dir }

  -- a walk behind the box, the push, and a play after it are one play
  pub play_by_push : {es ds : List Dir} {ps : List Push} {t : Scene} → Play board Any s es [] (at s behind) →
      Play board Any (after_push board s p) ds ps t → Play board Any s (es ++ p.dir ∷ ds) (p ∷ ps) t
  play_by_push {ds = ds} {ps = ps} {t = t} walked play = play-append walked
      (subst (λ (q : Push). Play board Any (at s behind) (p.dir ∷ ds) (q ∷ ps) t) named
      (push tt (pushes_on board s scene p can) play))

-- the state after a push is that after a walk and the push
pub is_pushed : (board : Board) (s : Scene) (p : Push) → CanPush board s p → IsPushed board s p (after_push board s p)
is_pushed board s p can = record { there = can.there; behind = can.behind; ahead = can.ahead; after = refl }

-- a push after a walk leads to the state after the push
pub moved : (board : Board) (s b t : Scene) (d : Dir) → b.boxes ≡ s.boxes → Pushes board b d t →
    t ≡ after_push board s (push_at board b d)
moved board s b t d same pushed =
    let q = next board b.player d in
    pushed.2 ∙ same_scene (ap (λ (xs : Squares). insert (remove xs q) (next board q d)) same) refl

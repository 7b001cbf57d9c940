-- What a successor is: a push that the player can make after a walk, to a state that is not doomed.
use Rattle.std.proofs.Common.{◌≡◌, ℕ, List, [], ◌∷◌, ◌++◌, true, false, refl, sym, ap, subst, ◌∙◌}
use Rattle.std.specs.Prelude.{slice_get, Some}
use Rattle.grid.specs.declared.dir.Dir.{Dir}
use Rattle.grid.specs.declared.square.Push.{Push}
use Rattle.grid.specs.Squares.{Squares, contains, insert, remove}
use Rattle.grid.specs.Board.{Board, Scene, IsFree, Pushes, is_wall, next, opposite}
use Rattle.grid.specs.States.{IsScene, FitsLevel}
use Rattle.grid.specs.Plays.{Play, push_at, Any}
use Rattle.grid.specs.Plays.Play.{stay, push}
use Rattle.grid.proofs.lemmas.Steps.{opposite_twice, next_back_to, scene_after_push}
use Rattle.grid.specs.declared.state.Step.TheVariants.{Pushed}
use Rattle.grid.proofs.lemmas.Levels.{fits_after_step}
use Rattle.grid.proofs.lemmas.Plays.{play-append, play_first, play_last, play_any, play_scene, walk_keeps_boxes, walk_of_boxes, push_from, cut_first_push}
use Rattle.area.specs.Area.{at, IsNorm}
use Rattle.area.proofs.lemmas.Norms.{norm_unique, norm_along_walk}
use Rattle.doom.specs.Deadlocks.{Doomed, Undoomed}
use Rattle.successors.specs.Problems.{Problem}
use Rattle.successors.specs.Reaching.{Reaches, IsLayerOf}
use Rattle.successors.specs.Expansion.{IsSuccessor, after_push}
use Rattle.area.specs.Pushes.{CanPush}

module _ (board : Board) (n : Scene) (scene : IsScene board n) (p : Push) where
  -- the state from which the push is made
  abbrev from : Scene
  from = at n (next board p.square (opposite p.dir))

  -- the box's square is no wall
  box_clear : CanPush board n p → is_wall board p.square ≡ false
  box_clear can = scene.boxes p.square can.there

  -- from the square behind, the box is the one next in the push's direction
  faces_box : CanPush board n p → next board from.player p.dir ≡ p.square
  faces_box can =
      let arrived = (play_scene scene can.behind.1).player.0 in
      let back = next_back_to board p.square from.player (opposite p.dir) refl (box_clear can) arrived in
      subst (λ (d : Dir). next board from.player d ≡ p.square) (opposite_twice p.dir) back

  -- the push that the player can make
  pub pushes_on : CanPush board n p → Pushes board from p.dir (after_push board n p)
  pushes_on can =
      let e = faces_box can in
      subst (λ (q : ℕ). (contains n.boxes q ≡ true) × IsFree board n.boxes (next board q p.dir) ×
      (after_push board n p ≡ record { boxes = insert (remove n.boxes q) (next board q p.dir); player = q })) (sym e) (can.there, can.ahead, refl)

  -- so it leads to a state of the level
  pub after_scene : CanPush board n p → IsScene board (after_push board n p)
  after_scene can = scene_after_push board from p.dir (after_push board n p) (play_scene scene can.behind.1) (pushes_on can)

  -- with as many boxes
  pub after_fits : FitsLevel board n → CanPush board n p → FitsLevel board (after_push board n p)
  after_fits fits can = fits_after_step board from p.dir Pushed (after_push board n p) (record { scene = play_scene scene can.behind.1; boxes = fits.boxes })
      (pushes_on can)

  -- where the state after it is not doomed, its normal form is a successor
  pub successor_is : Undoomed board n → CanPush board n p → Undoomed board (after_push board n p) → (m : Scene) → IsNorm board (after_push board n p) m →
      IsSuccessor board n p m
  successor_is safe can after m norm =
      let walked = walk_of_boxes (λ (boxes : Squares). ¬ (Doomed board boxes)) safe can.behind.1 in
      let named : push_at board from p.dir ≡ p = λ i. record { square = faces_box can i; dir = p.dir } in
      let whole = play-append walked (push (play_last walked) (pushes_on can) (stay after)) in (
        can.behind.0 ++ p.dir ∷ [],
        after_push board n p,
        subst (λ (q : Push). Play board (Undoomed board) n (can.behind.0 ++ p.dir ∷ []) (q ∷ []) (after_push board n p)) named whole,
        norm,
      )

  -- a successor is what a push leads to that the player can make, is not doomed there, and is the normal form there
  pub record HasCome (m : Scene) : Type 0 where
    pub can : CanPush board n p
    pub safe : Undoomed board (after_push board n p)
    pub norm : IsNorm board (after_push board n p) m

  pub come_by : (m : Scene) → IsSuccessor board n p m → HasCome m
  come_by m (ds, t, play, norm) =
      let cut = cut_first_push p [] play in
      let there = play_scene scene cut.first in
      let kept : cut.before.boxes ≡ n.boxes = walk_keeps_boxes cut.first in
      let square : p.square ≡ next board cut.before.player p.dir = ap (λ (q : Push). q.square) cut.named in
      let behind : next board p.square (opposite p.dir) ≡ cut.before.player = ap (λ (q : ℕ). next board q (opposite p.dir)) square ∙
      push_from board cut.before p.dir cut.after there cut.pushed in
      let stood : cut.before ≡ from = λ i. record { boxes = kept i; player = sym behind i } in
      let pushed : Pushes board from p.dir cut.after = subst (λ (s : Scene). Pushes board s p.dir cut.after) stood cut.pushed in
      let faced : next board from.player p.dir ≡ p.square = sym (square ∙ ap (λ (s : Scene). next board s.player p.dir) stood) in
      let box : contains n.boxes p.square ≡ true = subst (λ (q : ℕ). contains n.boxes q ≡ true) faced pushed.0 in
      let free : IsFree board n.boxes (next board p.square p.dir) = subst (λ (q : ℕ). IsFree board n.boxes (next board q p.dir)) faced pushed.1 in
      let same : cut.after ≡ after_push board n p =
      subst (λ (q : ℕ). cut.after ≡ record { boxes = insert (remove n.boxes q) (next board q p.dir); player = q }) faced pushed.2 in
      let can : CanPush board n p =
      record { there = box; behind = (cut.early, subst (λ (s : Scene). Play board Any n cut.early [] s) stood (play_any cut.first)); ahead = free } in
      let rest = subst (λ (s : Scene). Play board (Undoomed board) s cut.late [] t) same cut.rest in
      record { can = can; safe = play_first rest; norm = (norm_along_walk m (after_scene can) (play_any rest)).1 norm }

  -- a push leads to one successor
  pub successor_unique : (l m : Scene) → IsSuccessor board n p l → IsSuccessor board n p m → l ≡ m
  successor_unique l m a b = norm_unique board (after_push board n p) l m (come_by l a).norm (come_by m b).norm

-- what is reached is not doomed
pub reached_safe : (board : Board) (ps : List Push) (n : Scene) → Reaches board ps n → Undoomed board n
reached_safe board ps n (ds, t, play, norm) = subst (λ (boxes : Squares). ¬ (Doomed board boxes)) (sym norm.boxes) (play_last play)

-- no position of a layer is doomed
pub layer_safe : (problem : Problem) (k : ℕ) (places : List Scene) → IsLayerOf problem k places → (r : ℕ) (n : Scene) → slice_get places r ≡ Some n →
    Undoomed problem.board n
layer_safe problem k places layer r n here = let lead = (layer.leads r n here).1 in reached_safe problem.board lead.0 n lead.1.reached

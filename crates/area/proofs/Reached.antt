-- What a search that has spread tells about walks.
use Rattle.std.proofs.Common.{◌≡◌, ◌≢◌, ℕ, suc, ◌+◌, ◌<◌, ◌≤◌, true, false, List, [], length, sym, subst, ◌∙◌, arith}
use Rattle.grid.specs.declared.dir.Dir.{Dir}
use Rattle.grid.specs.Board.{Board, Scene, IsFree, next}
use Rattle.grid.specs.States.{IsScene}
use Rattle.grid.specs.Squares.{Squares, contains}
use Rattle.grid.specs.Plays.{Play, Any, stay, walk}
use Rattle.grid.proofs.lemmas.Steps.{walk_player, walk_boxes}
use Rattle.grid.proofs.lemmas.Plays.{play_scene, walk_backwards, walk_keeps_boxes}
use Rattle.area.specs.LeastWalks.{IsWalk}
use Rattle.area.specs.inside.Spread.{IsSpread}

abbrev pub scene_at : Squares → ℕ → Scene
scene_at boxes q = record { boxes = boxes; player = q }

module _ (board : Board) (boxes : Squares) (base from : ℕ) (mark : ℕ → ℕ) (sp : IsSpread board base from mark) (bl : (q : ℕ) →
    (contains boxes q ≡ true → mark q ≡ base) × (contains boxes q ≡ false → mark q ≢ base)) where
  -- a step from a reached square is to a reached square, with one step more at most
  pub reached_step : (q : ℕ) (d : Dir) → base < mark q → IsFree board boxes (next board q d) → (base < mark (next board q d)) ×
      (mark (next board q d) ≤ suc (mark q))
  reached_step q d lt free = sp.closed q lt d free.0 ((bl (next board q d)).1 free.1)

  -- a walk from a reached square ends on a reached square, with no more steps than the walk has
  pub reached_along : {s t : Scene} {ds : List Dir} → s.boxes ≡ boxes → base < mark s.player → Play board Any s ds [] t → (base < mark t.player) ×
      (mark t.player ≤ mark s.player + length ds)
  reached_along same lt (stay o) = (lt, omega arith)
  reached_along {s = s} {t = t} same lt (walk {m = m} {d = d} {ds = ds} o h p) =
      let n : ℕ = next board s.player d in
      let free : IsFree board boxes n = (h.0.0, subst (λ (b : Squares). contains b n ≡ false) same h.0.1) in
      let r = reached_step s.player d lt free in
      let at : m.player ≡ n = walk_player board s d m h in
      let more : base < mark m.player = subst (λ (x : ℕ). base < mark x) (sym at) r.0 in
      let most : mark m.player ≤ suc (mark s.player) = subst (λ (x : ℕ). mark x ≤ suc (mark s.player)) (sym at) r.1 in
      let g = reached_along (walk_boxes board s d m h ∙ same) more p in
      let u : mark t.player ≤ mark m.player + length ds = g.1 in
      (g.0, omega arith)

  -- a reached square has no box
  pub reached_free : (q : ℕ) → base < mark q → IsFree board boxes q
  reached_free q lt = grind arith

  -- whence a walk leads to the start of the search is reached, with no more steps than the walk has
  pub walk_home : {s t : Scene} {ds : List Dir} → s.boxes ≡ boxes → t.player ≡ from → IsScene board s → Play board Any s ds [] t → (base < mark s.player) ×
      (mark s.player ≤ suc base + length ds)
  walk_home {s = s} {t = t} {ds = ds} same at scene p = grind (arith, walk_backwards, reached_along, walk_keeps_boxes)

-- where a walk leads is free
pub walk_free : (board : Board) (s : Scene) (ds : List Dir) (q : ℕ) → IsScene board s → IsWalk board s ds q → IsFree board s.boxes q
walk_free board s ds q scene p = (play_scene scene p).player

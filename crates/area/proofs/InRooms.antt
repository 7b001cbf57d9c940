-- What a flood over the free squares of the player's room finds.
use Rattle.std.proofs.Common.{◌≡◌, ℕ, ◌<◌, Bool, true, false, not, eqb, ◌&&◌, ◌||◌, ◌↔◌, List, length, inl, inr, refl, sym, subst, ◌∙◌, arith}
use Rattle.std.proofs.lemmas.Bool.{or_cases, or_right, eqb-true, eq-eqb}
use Rattle.grid.specs.declared.dir.Dir.{Dir}
use Rattle.grid.specs.declared.dir.Dir.TheVariants.{D, L, R, U}
use Rattle.grid.specs.Board.{Board, Scene, IsFree, next, opposite}
use Rattle.grid.specs.Lawful.{IsLevel, InRoom}
use Rattle.grid.specs.Lawful.InRoom.{beside}
use Rattle.grid.specs.Masks.{has_bit}
use Rattle.grid.specs.RoomMask.{IsRoomMask}
use Rattle.grid.proofs.lemmas.Directions.{next_left, next_right, next_above, next_below}
use Rattle.grid.proofs.lemmas.Rooms.{room_floor, room_inner}
use Rattle.grid.proofs.lemmas.Steps.{inside_grid, next_back_inside}
use Rattle.area.specs.Area.{Area}
use Rattle.area.specs.inside.Flooding.{FloodsFrom}
use Rattle.area.specs.inside.RoomFloods.{AreFree, IsBeside, PassesOver, IsFlooded}
use Rattle.area.proofs.Detours.{area_step, along_walks}
use Rattle.area.proofs.Nearness.{area_test}
use Rattle.area.proofs.lemmas.Norms.{area_here}

-- the free squares are those of the room's mask that are not barred
pub are_free : (board : Board) (barred room free : List ℕ) → IsRoomMask board room → ((q : ℕ) → has_bit free q ≡ (has_bit room q && not (has_bit barred q))) →
    AreFree board barred free
are_free board barred room free mask bits q = grind arith

module _ (board : Board) (q : ℕ) where
  -- the next square has a number beside this one
  near_next : (d : Dir) → next board q d < length board.cells → IsBeside board.cols q (next board q d)
  near_next R lt = let s = next_right board q lt in inl (inl (omega (arith, s)))
  near_next L lt = let s = next_left board q lt in inl (inr (omega (arith, s)))
  near_next D lt = let s = next_below board q lt in inr (inl (omega (arith, s)))
  near_next U lt = let s = next_above board q lt in inr (inr (omega (arith, s)))

  -- and where all next squares are in the grid, no other square has one
  next_near : (p : ℕ) → ((d : Dir) → next board q d < length board.cells) → IsBeside board.cols p q → (d : Dir) × (next board q d ≡ p)
  next_near p inner (inl (inl e)) = (L, let s = next_left board q (inner L) in omega (arith, s, e))
  next_near p inner (inl (inr e)) = (R, let s = next_right board q (inner R) in omega (arith, s, e))
  next_near p inner (inr (inl e)) = (U, let s = next_above board q (inner U) in omega (arith, s, e))
  next_near p inner (inr (inr e)) = (D, let s = next_below board q (inner D) in omega (arith, s, e))

-- a flood of the player's room from the player's square finds the area
pub flood_found : (board : Board) (s : Scene) (from : ℕ) (barred old begun new : List ℕ) → IsLevel board → InRoom board from → FloodsFrom board s from barred old →
    ((q : ℕ) → has_bit begun q ≡ (has_bit old q || eqb from q)) → IsFlooded board barred begun new → (q : ℕ) → (has_bit new q ≡ true) ↔ Area board s q
flood_found board s from barred old begun new level room f put found q = (
  λ h. (test.1 q).0 (found.widened.sound test.0 passes first q h),
  λ w. (along_walks board s.boxes (λ (x : ℕ). (has_bit new x ≡ true) × InRoom board x) step refl
      (start, subst (InRoom board) (sym f.player) room) w.1).0,
)
  where
    test : (p : ℕ → Bool) × ((x : ℕ) → (p x ≡ true) ↔ Area board s x)
    test = area_test board s f.scene

    free_at : (x : ℕ) → InRoom board x → has_bit barred x ≡ false → IsFree board s.boxes x
    free_at x r clear = (room_floor board level r, sym (f.boxes x (room_floor board level r)) ∙ clear)

    passes : PassesOver board.cols found.free test.0
    passes p x near vacant there =
        let w = (found.are_free x).0 vacant in
        let d = next_near board x p (λ e. room_inner board level x e w.0) near in
        let back : next board p (opposite d.0) ≡ x = subst (λ (y : ℕ). next board y (opposite d.0) ≡ x) d.1
        (next_back_inside board x d.0 (inside_grid board x (room_floor board level w.0)) (room_inner board level x d.0 w.0)) in
        (test.1 x).1 (subst (Area board s) back (area_step board s p (opposite d.0) ((test.1 p).0 there)
        (subst (IsFree board s.boxes) (sym back) (free_at x w.0 w.1))))

    first : (x : ℕ) → has_bit begun x ≡ true → test.0 x ≡ true
    first x h = (test.1 x).1 (elim (or_cases (has_bit old x) (eqb from x) (sym (put x) ∙ h)) [
      | inl known ↦ f.within x known
      | inr own ↦ subst (Area board s) (f.player ∙ eqb-true from x own) (area_here board s)
    ])

    start : has_bit new s.player ≡ true
    start = found.widened.kept s.player (put s.player ∙ or_right (has_bit old s.player) (eqb from s.player) (eq-eqb from s.player (sym f.player)))

    step : (x : ℕ) (d : Dir) → (has_bit new x ≡ true) × InRoom board x → IsFree board s.boxes (next board x d) →
        (has_bit new (next board x d) ≡ true) × InRoom board (next board x d)
    step x d here free =
        let n : ℕ = next board x d in
        let r : InRoom board n = beside d here.1 free.0 in
        (found.whole x n (near_next board x d (inside_grid board n free.0)) ((found.are_free n).1 (r, f.boxes n free.0 ∙ free.1)) here.0, r)

-- What a flood by steps finds: the area.
use Rattle.std.proofs.Common.{◌≡◌, ◌≢◌, ℕ, zero, suc, ◌<◌, ◌≤◌, true, false, not, cond, ◌&&◌, ◌↔◌, inl, inr, List, get_or, refl}
use Rattle.std.proofs.Common.{sym, ap, subst, ◌∙◌, arith}
use Rattle.grid.specs.Board.{Board, Scene, IsFree, is_wall}
use Rattle.grid.specs.Masks.{has_bit}
use Rattle.grid.specs.Squares.{contains}
use Rattle.area.specs.Area.{Area}
use Rattle.area.specs.declared.spread.TheConstants.{BOX_MARK}
use Rattle.area.specs.inside.Flooding.{FloodsFrom}
use Rattle.area.specs.inside.Spread.{IsSpread, KeepsBlocked}
use Rattle.area.proofs.Detours.{area_step}
use Rattle.area.proofs.Reached.{reached_free, reached_along}
use Rattle.area.proofs.lemmas.Norms.{area_here}

module _ (board : Board) (s : Scene) (from : ℕ) (barred old marks begun : List ℕ) (f : FloodsFrom board s from barred old)
    (bar : (q : ℕ) → get_or begun q 0 ≡ cond (has_bit barred q && not (is_wall board q)) BOX_MARK 0) (keeps : KeepsBlocked BOX_MARK begun marks)
    (sp : IsSpread board BOX_MARK from (λ q. get_or marks q 0)) where
  -- the boxes have their mark, and nothing else has
  blocked : (q : ℕ) → (contains s.boxes q ≡ true → get_or marks q 0 ≡ BOX_MARK) × (contains s.boxes q ≡ false → get_or marks q 0 ≢ BOX_MARK)
  blocked q = grind arith

  -- a square with a greater mark is of the area
  marked_area : (most q : ℕ) → get_or marks q 0 ≤ most → BOX_MARK < get_or marks q 0 → Area board s q
  marked_area zero q le lt = absurd (omega (arith, le, lt))
  marked_area (suc most) q le lt = elim (sp.came q lt) [
    | inl first ↦ subst (Area board s) (f.player ∙ sym first) (area_here board s)
    | inr h ↦
        (let one = h.4 in
        subst (Area board s) h.3 (area_step board s h.0 h.1 (marked_area most h.0 (omega (arith, le, one)) h.2)
        (subst (IsFree board s.boxes) (sym h.3) (reached_free board s.boxes BOX_MARK from (λ x. get_or marks x 0) sp blocked q lt))))
  ]

  -- so the marks tell the area
  pub steps_found : (q : ℕ) → (BOX_MARK < get_or marks q 0) ↔ Area board s q
  steps_found q = (
    λ lt. marked_area (get_or marks q 0) q (omega arith) lt,
    λ w. (reached_along board s.boxes BOX_MARK from (λ x. get_or marks x 0) sp blocked refl
        (let e = ap (λ (x : ℕ). get_or marks x 0) f.player in let start = sp.start in omega (arith, e, start)) w.1).0,
  )

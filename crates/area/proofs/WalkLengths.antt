-- The lengths of shortest walks, by the marks of a search from the player's square.
use Rattle.std.proofs.Common.{◌≡◌, ℕ, zero, suc, ◌+◌, ◌<◌, ◌≤◌, true, false, inl, inr, List, [], ◌∷◌, ◌++◌, length}
use Rattle.std.proofs.Common.{◌≢◌, ◌||◌, eqb, take, get_or, set, refl, sym, ap, subst, ◌∙◌, arith}
use Rattle.std.proofs.Math.Bool.{or-false}
use Rattle.std.proofs.lemmas.Bool.{cases_eq, eq-eqb, ne_eqb, or_right, true≢false}
use Rattle.std.proofs.lemmas.List.{get_or-set_same, get_or-set_other, length-append, take_more}
use Rattle.grid.specs.declared.dir.Dir.{Dir}
use Rattle.grid.specs.Board.{Board, Scene, IsFree, next}
use Rattle.grid.specs.Squares.{Squares, contains}
use Rattle.grid.specs.Plays.{stay}
use Rattle.grid.proofs.lemmas.Plays.{play_walk_on}
use Rattle.grid.proofs.lemmas.Squares.{contains-push}
use Rattle.grid.proofs.lemmas.Steps.{walk_to}
use Rattle.area.specs.Area.{at}
use Rattle.area.specs.LeastWalks.{IsWalk}
use Rattle.area.specs.WalkLengths.{AreWalkLengths}
use Rattle.area.specs.declared.spread.TheConstants.{BOX_MARK}
use Rattle.area.specs.inside.Spread.{AreBlocked, IsSpread, KeepsBlocked}
use Rattle.area.proofs.Reached.{reached_along, reached_free}

-- one box more has its mark
pub blocked_more : (boxes : Squares) (marks : List ℕ) (i q : ℕ) → i < length boxes → q ≡ get_or boxes i 0 →
    q < length marks → AreBlocked BOX_MARK (take i boxes) marks →
    AreBlocked BOX_MARK (take (i + 1) boxes) (set marks q BOX_MARK)
blocked_more boxes marks i q lt is inside before r = elim (cases_eq q r) [
  | inl same ↦
      let mark : get_or (set marks q BOX_MARK) r 0 ≡ BOX_MARK =
      ap (λ x. get_or (set marks q BOX_MARK) x 0) (sym same) ∙ get_or-set_same marks q BOX_MARK 0 inside in
      (λ there. mark, λ none. absurd (true≢false (sym (now r ∙ or_right _ _ (eq-eqb q r same)) ∙ none)))
  | inr apart ↦
      let mark : get_or (set marks q BOX_MARK) r 0 ≡ get_or marks r 0 = get_or-set_other marks q r BOX_MARK 0 (λ e. apart (sym e)) in
      let old : contains (take (i + 1) boxes) r ≡ contains (take i boxes) r = now r ∙ without r apart in (
        λ there. mark ∙ (before r).0 (sym old ∙ there),
        λ none. (let less = (before r).1 (sym old ∙ none) in omega (arith, mark, less)),
      )
]
  where
    now : (r : ℕ) → contains (take (i + 1) boxes) r ≡ (contains (take i boxes) r || eqb q r)
    now r = ap (λ xs. contains xs r) (take_more boxes i 0 lt) ∙ (contains-push (take i boxes) (get_or boxes i 0) r ∙
        ap (λ x. contains (take i boxes) r || eqb x r) (sym is))

    without : (r : ℕ) → q ≢ r → (contains (take i boxes) r || eqb q r) ≡ contains (take i boxes) r
    without r apart = rw (ne_eqb q r apart) (or-false (contains (take i boxes) r))

-- after a search the boxes still have their mark, and nothing else has it
pub still_blocked : (boxes : Squares) (old new : List ℕ) → AreBlocked BOX_MARK boxes old → KeepsBlocked BOX_MARK old new →
    (q : ℕ) → (contains boxes q ≡ true → get_or new q 0 ≡ BOX_MARK) × (contains boxes q ≡ false → get_or new q 0 ≢ BOX_MARK)
still_blocked boxes old new before keeps q = grind arith

module _ (board : Board) (s : Scene) (marks : List ℕ) (sp : IsSpread board BOX_MARK s.player (λ q. get_or marks q 0))
    (bl : (q : ℕ) → (contains s.boxes q ≡ true → get_or marks q 0 ≡ BOX_MARK) ×
    (contains s.boxes q ≡ false → get_or marks q 0 ≢ BOX_MARK)) where
  -- a walk of as many steps as the mark says leads to each square that is reached
  marked_walk : (most q : ℕ) → get_or marks q 0 ≤ most → BOX_MARK < get_or marks q 0 →
      (ds : List Dir) × IsWalk board s ds q × (BOX_MARK + 1 + length ds ≡ get_or marks q 0)
  marked_walk zero q le lt = absurd (omega (arith, le, lt))
  marked_walk (suc most) q le lt = elim (sp.came q lt) [
    | inl first ↦
        let here : IsWalk board s [] q = subst (IsWalk board s []) (sym first) (stay tt) in
        let mark = ap (λ x. get_or marks x 0) first ∙ sp.start in
        ([], here, omega (arith, mark))
    | inr (m, d, above, there, one) ↦
        let (ds, walked, long) = marked_walk most m (omega (arith, le, one)) above in
        let free : IsFree board s.boxes (next board m d) = subst (IsFree board s.boxes) (sym there)
        (reached_free board s.boxes BOX_MARK s.player (λ x. get_or marks x 0) sp bl q lt) in
        let more = length-append ds (d ∷ []) in (
          ds ++ d ∷ [],
          subst (IsWalk board s (ds ++ d ∷ [])) there (play_walk_on d walked (walk_to board (at s m) d free) tt),
          omega (arith, long, one, more),
        )
  ]

  pub lengths_marked : AreWalkLengths board s marks
  lengths_marked q (es, walked) =
      let along : (fs : List Dir) → IsWalk board s fs q →
      (BOX_MARK < get_or marks q 0) × (get_or marks q 0 ≤ get_or marks s.player 0 + length fs) =
      λ fs walk. reached_along board s.boxes BOX_MARK s.player (λ x. get_or marks x 0) sp bl refl
      (let start = sp.start in omega (arith, start)) walk in
      let (ds, least, long) = marked_walk (get_or marks q 0) q (omega arith) (along es walked).0 in
      let start = sp.start in
      record {
        some = (ds, least, omega (arith, long));
        least = λ fs walk. (let most = (along fs walk).1 in omega (arith, most, start));
      }

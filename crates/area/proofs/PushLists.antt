-- How the list of the pushes that a flood allows grows, square by square and direction by direction.
use Rattle.std.proofs.Common.{◌≡◌, ℕ, suc, ◌+◌, ◌<◌, ◌≤◌, true, List, [], ◌∷◌, ◌++◌, length, inl, inr, refl, sym, ap, subst, ◌∙◌, arith}
use Rattle.std.proofs.lemmas.Bool.{cases_lt, false≢true}
use Rattle.std.specs.declared.cmp.Ordering.{Ordering}
use Rattle.std.specs.declared.cmp.Ordering.TheVariants.{Less}
use Rattle.std.specs.Ordering.{ordering_then}
use Rattle.grid.specs.declared.dir.Dir.{Dir}
use Rattle.grid.specs.declared.square.Push.{Push}
use Rattle.grid.specs.Rising.{is_rising, rises_from}
use Rattle.grid.specs.Squares.{Squares, contains}
use Rattle.grid.specs.Board.{Board, Scene, IsFree, next, opposite, dir_number, dir_cmp, push_cmp}
use Rattle.grid.specs.States.{IsScene}
use Rattle.area.specs.Reach.{Reach}
use Rattle.grid.proofs.lemmas.Orders.{nat_cmp-less}
use Rattle.grid.proofs.lemmas.Squares.{contains-from, rises_from-parts, rises_from-cons}
use Rattle.grid.proofs.lemmas.Steps.{inside_grid}
use Rattle.area.specs.After.{IsAreaOf}
use Rattle.area.specs.Pushes.{ArePushes}
use Rattle.area.specs.inside.PushLists.{AllowsPush, IsBefore, AreAllowedBefore, IsListing}
use Rattle.grid.proofs.lemmas.Directions.{dir_same}
use Rattle.area.proofs.lemmas.PushOrder.{all_same, all_push}

-- ---- the pushes of one box

-- a push of a lesser square, or of the same one and in an earlier direction, comes first
less_since_before : (p q : Push) → IsBefore q.square (dir_number q.dir) p → push_cmp p q ≡ Less
less_since_before p q (inl lt) =
    ap (λ (o : Ordering). ordering_then o (dir_cmp p.dir q.dir)) (nat_cmp-less p.square q.square lt)
less_since_before p q (inr (same, lt)) = grind arith

module _ (board : Board) (reach : Reach) (square : ℕ) where
  -- past the last direction
  pub past_last : (ps : List Push) → AreAllowedBefore board reach square 4 ps
      → AreAllowedBefore board reach (square + 1) 0 ps
  past_last ps all = grind arith

  -- past squares of which nothing is allowed
  past_none : (ps : List Push) (to : ℕ) → square ≤ to
      → ((p : Push) → AllowsPush board reach p → square ≤ p.square → p.square < to → ⊥)
      → AreAllowedBefore board reach square 0 ps → AreAllowedBefore board reach to 0 ps
  past_none ps to le none all = grind arith

  -- the push in the next direction can be made
  pub before_more : (ps : List Push) (seen : ℕ) (d : Dir) → dir_number d ≡ seen
      → AreAllowedBefore board reach square seen ps
      → AllowsPush board reach (record { square = square; dir = d })
      → AreAllowedBefore board reach square (seen + 1) (ps ++ record { square = square; dir = d } ∷ [])
  before_more ps seen d at all can =
      let new : Push = record { square = square; dir = d } in
      all_push (λ p. AllowsPush board reach p × IsBefore square seen p)
      (λ p. AllowsPush board reach p × IsBefore square (seen + 1) p) ps new all
      (can, inr (refl, omega (arith, at)))
      (λ p h. (h.0, elim h.1 [ inl lt ↦ inl lt | inr e ↦ inr (e.0, omega (arith, e.1)) ]))
      (λ p h. elim h.1 [
        | inl lt ↦ inl (h.0, inl lt)
        | inr e ↦ elim (cases_lt (dir_number p.dir) seen) [
          | inl lt ↦ inl (h.0, inr (e.0, lt))
          | inr le ↦ inr (let f = dir_same p.dir d (omega (arith, e.1, le, at)) in
              λ i. record { square = e.0 i; dir = f i })
        ]
      ])
      (λ p h. less_since_before p new (subst (λ (k : ℕ). IsBefore square k p) (sym at) h.1))

  -- and where it cannot, nothing is to be added
  pub before_same : (ps : List Push) (seen : ℕ) (d : Dir) → dir_number d ≡ seen
      → AreAllowedBefore board reach square seen ps
      → ¬ (AllowsPush board reach (record { square = square; dir = d })) → AreAllowedBefore board reach square (seen + 1) ps
  before_same ps seen d at all cannot = grind arith

-- ---- the pushes of the boxes

-- a flood of a position allows the pushes that the position does
all_allowed : (board : Board) (n : Scene) (reach : Reach) (end : ℕ) (ps : List Push) → IsScene board n
    → reach.boxes ≡ n.boxes
    → IsAreaOf board n reach.reached → length board.cells ≤ end → AreAllowedBefore board reach end 0 ps
    → ArePushes board n ps
all_allowed board n reach end ps scene same area long all = all_same _ _ ps all
    (λ p h. record {
      there = sym (ap (λ (b : Squares). contains b p.square) same) ∙ h.0.there;
      behind = (area (next board p.square (opposite p.dir))).0 h.0.behind;
      ahead = subst (λ (b : Squares). IsFree board b (next board p.square p.dir)) same h.0.ahead;
    })
    (λ p can. (
      record {
        there = ap (λ (b : Squares). contains b p.square) same ∙ can.there;
        behind = (area (next board p.square (opposite p.dir))).1 can.behind;
        ahead = subst (λ (b : Squares). IsFree board b (next board p.square p.dir)) (sym same) can.ahead;
      },
      inl (let lt = inside_grid board p.square (scene.boxes p.square can.there) in omega (arith, lt, long)),
    ))

-- before the first box
pub listing_first : (board : Board) (reach : Reach) (boxes : Squares) (ps : List Push) → is_rising boxes ≡ true → reach.boxes ≡ boxes → ps ≡ [] →
    IsListing board reach boxes 0 ps
listing_first board reach boxes ps rising same none = grind arith

module _ (board : Board) (reach : Reach) (x : ℕ) (left others : Squares) (before : ℕ) (ps : List Push) (split : left ≡ x ∷ others)
    (now : IsListing board reach left before ps) where
  parts : (now.seen ≤ x) × (rises_from (suc x) others ≡ true)
  parts = rises_from-parts now.seen x others (ap (rises_from now.seen) (sym split) ∙ now.rising)

  -- the pushes of all boxes before the next one are listed
  pub listing_here : AreAllowedBefore board reach x 0 ps
  listing_here = grind (arith, past_none, parts, contains-from, rises_from-cons)

  -- with those of the next one
  pub listing_next : (qs : List Push) → AreAllowedBefore board reach (x + 1) 0 qs → length qs ≤ length ps + 4 → IsListing board reach others (before + 1) qs
  listing_next qs more longer = grind arith

-- after the last box the list has all pushes of the position
pub listing_last : (board : Board) (n : Scene) (reach : Reach) (left : Squares) (before : ℕ) (ps : List Push) → IsScene board n → reach.boxes ≡ n.boxes →
    IsAreaOf board n reach.reached → left ≡ [] → IsListing board reach left before ps → ArePushes board n ps
listing_last board n reach left before ps scene same area none now =
    all_allowed board n reach (now.seen + length board.cells) ps scene same area (omega arith)
    (past_none board reach now.seen ps (now.seen + length board.cells) (omega arith)
    (λ p can ge lt. false≢true (ap (λ (b : Squares). contains b p.square) (sym none) ∙ now.rest p.square ge can.there)) now.listed)

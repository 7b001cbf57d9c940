-- What the rows of squares round one tell: which squares they are, and that those next to it stay joined.
use Rattle.std.proofs.Common.{◌≡◌, ℕ, suc, ◌+◌, ◌-◌, ◌%◌, ◌<◌, ◌≤◌, Bool, true, false, not, eqb, ◌||◌, ◌⊎◌, List}
use Rattle.std.proofs.Common.{length, inl, inr, refl, sym, ap, subst, ◌∙◌, arith}
use Rattle.std.proofs.lemmas.Bool.{and_parts, or_cases, not-true, true≢false, eqb-false}
use Rattle.grid.specs.declared.dir.Dir.{Dir}
use Rattle.grid.specs.declared.dir.Dir.TheVariants.{D, L, R, U}
use Rattle.grid.specs.Squares.{Squares, contains}
use Rattle.grid.specs.Masks.{has_bit}
use Rattle.grid.specs.Board.{Board, next, opposite}
use Rattle.grid.specs.Lawful.{IsLevel, InRoom}
use Rattle.grid.proofs.lemmas.Steps.{next_back_inside, opposite_twice}
use Rattle.grid.proofs.lemmas.Rooms.{room_inner}
use Rattle.grid.proofs.lemmas.Directions.{next_below, next_above, not_first}
use Rattle.area.specs.declared.ring.Flank.{Flank}
use Rattle.area.specs.declared.ring.Ring.{Ring}
use Rattle.area.specs.declared.ring.Turned.{Turned}
use Rattle.area.specs.inside.Detours.{across, IsAcross, IsJoined, StaysJoined, GoesPast}
use Rattle.area.specs.inside.RingBits.{IsRing, IsAround, IsFlankOf, IsTurned, side_bit, corner_bit, goes_past}
use Rattle.area.specs.inside.RingBits.{keeps_side, goes_round, keeps_each, joins}
use Rattle.area.proofs.Rings.{across_each, across_back, crossed, round_all_joined, sides_all_joined, same_column}
use Rattle.area.proofs.Rings.{row_below, left_is, right_is, down_to, up_to, left_to, right_to}

-- ---- which squares the rows have

module _ (board : Board) (level : IsLevel board) (q : ℕ) (room : InRoom board q) where
  down_inside : next board q D < length board.cells
  down_inside = room_inner board level q D room

  up_inside : next board q U < length board.cells
  up_inside = room_inner board level q U room

  left_inside : next board q L < length board.cells
  left_inside = room_inner board level q L room

  right_inside : next board q R < length board.cells
  right_inside = room_inner board level q R room

  -- the square above is none of the first column
  above_right_of : suc (next board q U - 1) ≡ next board q U
  above_right_of = not_first board.cols (next board q U)
      (same_column board.cols (next board q U) q (next_above board q up_inside) (left_is board q left_inside).0)

  -- so a whole row lies before the square, and one more
  pub room_after_row : board.cols < q
  room_after_row = let a = next_above board q up_inside in let b = above_right_of in omega (arith, a, b)

  -- the one below it is none of the last, so the grid goes on after it
  below_right_inside : q + board.cols + 1 < length board.cells
  below_right_inside =
      let down = next_below board q down_inside in
      let lt = down_inside in
      let test = row_below board.cols (suc q) (suc q + board.cols) refl (right_is board q right_inside).0 in
      let ne : suc q + board.cols ≡ length board.cells → ⊥ =
      λ e. eqb-false ((suc q + board.cols) % board.cols) 0 test (ap (λ (x : ℕ). x % board.cols) e ∙ level.whole) in
      omega (arith, down, lt, ne)

  module _ (set : Squares) (words : List ℕ) (ring : Ring) (same : (r : ℕ) → has_bit words r ≡ contains set r)
      (rows : IsRing board.cols words q ring) where
    named : (bit : Bool) (r s : ℕ) → bit ≡ has_bit words r → s ≡ r → bit ≡ contains set s
    named bit r s told at = told ∙ (same r ∙ ap (contains set) (sym at))

    ring_sides : (d : Dir) → side_bit ring d ≡ contains set (next board q d)
    ring_sides D = let a = next_below board q down_inside in
        named _ (q + board.cols) _ (rows.below _ 1 (omega arith) (omega arith)) a
    ring_sides L = let a = (left_is board q left_inside).1 in
        named _ (next board q L) _ (rows.beside _ 0 (omega arith) (omega (arith, a))) refl
    ring_sides R = let a = (right_is board q right_inside).1 in
        named _ (suc q) _ (rows.beside _ 2 (omega arith) (omega arith)) a
    ring_sides U = let a = next_above board q up_inside in
        named _ (next board q U) _ (rows.above _ 1 (omega arith) (omega (arith, a))) refl

    abbrev TellsCorner : Dir → Dir → Type 0
    TellsCorner d e = corner_bit ring d e ≡ contains set (next board (next board q d) e)

    ring_corners : (d e : Dir) → IsAcross d e → TellsCorner d e
    ring_corners = crossed TellsCorner down_left down_right left_down left_up right_down right_up up_left up_right
      where
        before : (eqb (q % board.cols) 0 ≡ false) × (suc (next board q L) ≡ q)
        before = left_is board q left_inside

        after : (eqb (suc q % board.cols) 0 ≡ false) × (next board q R ≡ suc q)
        after = right_is board q right_inside

        down_left : TellsCorner D L
        down_left =
            let a = next_below board q down_inside in
            let b = before.1 in
            named _ (next board q L + board.cols) _ (rows.below _ 0 (omega arith) (omega (arith, b)))
            (left_to board (next board q D) _ (row_below board.cols q _ (sym a) before.0) (omega (arith, a, b)))

        down_right : TellsCorner D R
        down_right =
            let a = next_below board q down_inside in
            named _ (suc q + board.cols) _ (rows.below _ 2 (omega arith) (omega arith))
            (right_to board (next board q D) _ (row_below board.cols (suc q) _ (omega (arith, a)) after.0)
            (omega (arith, a)))

        up_left : TellsCorner U L
        up_left =
            let a = next_above board q up_inside in
            let b = above_right_of in
            named _ (next board q U - 1) _ (rows.above _ 0 (omega arith) (omega (arith, a, b)))
            (left_to board (next board q U) _ (same_column board.cols _ q a before.0) b)

        up_right : TellsCorner U R
        up_right =
            let a = next_above board q up_inside in
            named _ (suc (next board q U)) _ (rows.above _ 2 (omega arith) (omega (arith, a)))
            (right_to board (next board q U) _ (same_column board.cols _ (suc q) (omega (arith, a)) after.0) refl)

        left_down : TellsCorner L D
        left_down =
            let b = before.1 in
            let lt = below_right_inside in
            named _ (next board q L + board.cols) _ (rows.below _ 0 (omega arith) (omega (arith, b)))
            (down_to board (next board q L) _ refl (omega (arith, b, lt)))

        left_up : TellsCorner L U
        left_up =
            let a = next_above board q up_inside in
            let b = before.1 in
            let e = above_right_of in
            named _ (next board q U - 1) _ (rows.above _ 0 (omega arith) (omega (arith, a, e)))
            (up_to board (next board q L) _ (omega (arith, a, b, e)))

        right_down : TellsCorner R D
        right_down =
            let b = after.1 in
            let lt = below_right_inside in
            named _ (suc q + board.cols) _ (rows.below _ 2 (omega arith) (omega arith))
            (down_to board (next board q R) _ (omega (arith, b)) (omega (arith, lt)))

        right_up : TellsCorner R U
        right_up =
            let a = next_above board q up_inside in
            let b = after.1 in
            named _ (suc (next board q U)) _ (rows.above _ 2 (omega arith) (omega (arith, a)))
            (up_to board (next board q R) _ (omega (arith, a, b)))

    pub ring_around : IsAround board set q ring
    ring_around = grind (arith, named, ring_sides, ring_corners)

-- ---- what is joined

-- a corner is come to in either order
corner_same : (ring : Ring) (d e : Dir) → IsAcross d e → corner_bit ring d e ≡ corner_bit ring e d
corner_same ring = crossed (λ d e. corner_bit ring d e ≡ corner_bit ring e d) refl refl refl refl refl refl refl refl

across_behind : (d e : Dir) → IsAcross d e → IsAcross (opposite d) e
across_behind d e side = across_each e (opposite d) (across_back e d (across_each d e side))

-- the corner behind the square that a box comes to is beside the one that it comes from
pub corner_behind : (board : Board) (set : Squares) (ring : Ring) (q : ℕ) (d e : Dir) → q < length board.cells
    → next board q d < length board.cells
    → IsAround board set (next board q d) ring → IsAcross d e
    → corner_bit ring (opposite d) e ≡ contains set (next board q e)
corner_behind board set ring q d e inside ahead_inside around side = grind (arith, across_behind, next_back_inside)

-- a box comes from the square `q` to the next in the direction `d`, which has the ring
module _ (board : Board) (set : Squares) (columns : 1 ≤ board.cols) (within : (x : ℕ) → contains set x ≡ true →
    x < length board.cells) (ring : Ring) (q : ℕ) (d : Dir) (inside : q < length board.cells)
    (ahead_inside : next board q d <
    length board.cells) (around : IsAround board set (next board q d) ring) where
  abbrev c : ℕ
  c = next board q d

  behind : (e : Dir) → IsAcross d e → corner_bit ring (opposite d) e ≡ contains set (next board q e)
  behind e side = corner_behind board set ring q d e inside ahead_inside around side

  past_by : (e : Dir) (flank : Flank) → IsAcross d e → IsFlankOf ring d e flank → goes_past flank ≡ true
      → GoesPast board set q c d e
  past_by e flank side of h = grind (arith, and_parts, behind, across_each)

  kept_by : (e : Dir) (flank : Flank) → IsAcross d e → IsFlankOf ring d e flank → keeps_side flank ≡ true →
      (contains set (next board q e) ≡ true) ⊎ (contains set (next board c e) ≡ false)
  kept_by e flank side of h = grind (arith, or_cases, behind, not-true)

  -- the corner in front of the other flank ends a way round
  front_by : (e : Dir) (flank : Flank) → IsAcross d e → IsFlankOf ring d e flank → flank.front ≡ true
      → contains set (next board (next board c d) e) ≡ true
  front_by e flank side of h = sym (around.corners d e side) ∙ (corner_same ring d e side ∙ (sym of.at_front ∙ h))

  module _ (view : Turned) (turned : IsTurned ring d view) where
    beyond_is : view.beyond ≡ contains set (next board c d)
    beyond_is = turned.to_beyond ∙ around.sides d

    by_round : goes_round view ≡ true → (x : Dir) → IsJoined board set c q x
    by_round h = let both = and_parts _ _ h in elim (or_cases _ _ both.0) [
      | inr second ↦
          (let way = and_parts _ _ second in
          round_all_joined board set columns within q c d (across d) inside refl ahead_inside (inl refl) (record {
            past = past_by (across d) view.other (inl refl) turned.to_other way.0;
            beyond = sym beyond_is ∙ both.1;
            fifth = front_by (opposite (across d)) view.one (inr refl) turned.to_one way.1;
          }))
      | inl first ↦
          (let way = and_parts _ _ first in
          round_all_joined board set columns within q c d (opposite (across d)) inside refl ahead_inside (inr refl)
          (record {
            past = past_by (opposite (across d)) view.one (inr refl) turned.to_one way.0;
            beyond = sym beyond_is ∙ both.1;
            fifth = subst (λ (x : Dir). contains set (next board (next board c d) x) ≡ true)
                (sym (opposite_twice (across d)))
                (front_by (across d) view.other (inl refl) turned.to_other way.1);
          }))
    ]

    beyond_by : ((not view.beyond || goes_past view.one) || goes_past view.other) ≡ true →
        (contains set (next board c d) ≡ false) ⊎ (GoesPast board set q c d (across d) ⊎ GoesPast board set q c d
        (opposite (across d)))
    beyond_by h = grind (arith, or_cases, past_by, beyond_is, not-true)

    by_each : keeps_each view ≡ true → (x : Dir) → IsJoined board set c q x
    by_each h = grind (arith, and_parts, sides_all_joined, kept_by, beyond_by)

    pub view_joins : joins view ≡ true → StaysJoined board set c q
    view_joins h there = grind (arith, or_cases, true≢false, not-true, by_round, by_each)

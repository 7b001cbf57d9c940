-- The squares round one: which of them are the same, and how one comes round by them.
use Rattle.std.proofs.Common.{◌≡◌, ◌≢◌, ℕ, suc, ◌+◌, ◌%◌, ◌<◌, ◌≤◌, Bool, true, false, ◌⊎◌, eqb, cond}
use Rattle.std.proofs.Common.{length, inl, inr, refl, sym, ap, subst, ◌∙◌, arith}
use Rattle.std.proofs.Math.Nat.{add-mod_right}
use Rattle.std.proofs.lemmas.Bool.{eqb-false, lt-ltb, le-ltb, true≢false}
use Rattle.grid.specs.declared.dir.Dir.{Dir}
use Rattle.grid.specs.declared.dir.Dir.TheVariants.{D, L, R, U}
use Rattle.grid.specs.Squares.{Squares, contains}
use Rattle.grid.specs.Board.{Board, next, opposite}
use Rattle.grid.proofs.lemmas.Steps.{next_back_inside, opposite_twice}
use Rattle.grid.proofs.lemmas.Directions.{next_below, next_above}
use Rattle.area.specs.inside.Detours.{across, IsAcross, Skirts, IsJoined, GoesPast, GoesRound}
use Rattle.area.specs.inside.Detours.Skirts.{here}
use Rattle.area.proofs.Detours.{all_round, skirt_on}

-- ---- directions across

-- what is so for each two directions across each other
pub crossed : (P : Dir → Dir → Type 0) → P D L → P D R → P L D → P L U → P R D → P R U → P U L → P U R → (d e : Dir)
    → IsAcross d e → P d e
crossed P dl dr ld lu rd ru ul ur D e (inl f) = subst (P D) (sym f) dr
crossed P dl dr ld lu rd ru ul ur D e (inr f) = subst (P D) (sym f) dl
crossed P dl dr ld lu rd ru ul ur L e (inl f) = subst (P L) (sym f) ld
crossed P dl dr ld lu rd ru ul ur L e (inr f) = subst (P L) (sym f) lu
crossed P dl dr ld lu rd ru ul ur R e (inl f) = subst (P R) (sym f) rd
crossed P dl dr ld lu rd ru ul ur R e (inr f) = subst (P R) (sym f) ru
crossed P dl dr ld lu rd ru ul ur U e (inl f) = subst (P U) (sym f) ur
crossed P dl dr ld lu rd ru ul ur U e (inr f) = subst (P U) (sym f) ul

-- of two directions across each other either is across the other, and so is the opposite
pub across_each : (d e : Dir) → IsAcross d e → IsAcross e d
across_each = crossed (λ d e. IsAcross e d) (inl refl) (inl refl) (inr refl) (inr refl) (inl refl) (inl refl) (inr refl)
    (inr refl)

pub across_back : (d e : Dir) → IsAcross d e → IsAcross d (opposite e)
across_back = crossed (λ d e. IsAcross d (opposite e)) (inl refl) (inr refl) (inr refl) (inl refl) (inr refl) (inl refl)
    (inl refl) (inr refl)

-- a direction and one across, and those back, are all
pub all_across : (P : Dir → Type 0) (d e : Dir) → IsAcross d e → P d → P (opposite d) → P e → P (opposite e) → (x : Dir)
    → P x
all_across P d e (inl f) ahead back side other =
    all_round P d ahead back (subst P f side) (subst P (ap opposite f) other)
all_across P d e (inr f) ahead back side other =
    all_round P d ahead back (subst P (ap opposite f ∙ opposite_twice (across d)) other) (subst P f side)

-- ---- the next square by its number

left_over : (n a : ℕ) (b : Bool) → cond b n a < n → (b ≡ false) × (cond b n a ≡ a)
left_over n a true lt = absurd (omega arith)
left_over n a false lt = (refl, refl)

module _ (board : Board) (q : ℕ) where
  pub left_is : next board q L < length board.cells → (eqb (q % board.cols) 0 ≡ false) × (suc (next board q L) ≡ q)
  unfolding next
  left_is lt = grind arith

  pub right_is : next board q R < length board.cells → (eqb (suc q % board.cols) 0 ≡ false) × (next board q R ≡ suc q)
  unfolding next
  right_is lt = left_over (length board.cells) (suc q) (eqb (suc q % board.cols) 0) lt

  pub down_to : (r : ℕ) → r ≡ q + board.cols → r < length board.cells → next board q D ≡ r
  unfolding next
  down_to r e lt = rw (lt-ltb (q + board.cols) (length board.cells) (omega (arith, e, lt))) (sym e)

  pub up_to : (r : ℕ) → r + board.cols ≡ q → next board q U ≡ r
  unfolding next
  up_to r e = rw (le-ltb q board.cols (omega (arith, e))) (omega (arith, e))

  pub left_to : (r : ℕ) → eqb (q % board.cols) 0 ≡ false → suc r ≡ q → next board q L ≡ r
  unfolding next
  left_to r test e = rw test (omega (arith, e))

  pub right_to : (r : ℕ) → eqb (suc q % board.cols) 0 ≡ false → suc q ≡ r → next board q R ≡ r
  unfolding next
  right_to r test e = rw test e

-- a row more or less changes no remainder
pub same_column : (cols a b : ℕ) → a + cols ≡ b → eqb (b % cols) 0 ≡ false → eqb (a % cols) 0 ≡ false
same_column cols a b e test = ap (λ (x : ℕ). eqb x 0) (sym (add-mod_right a cols) ∙ ap (λ (x : ℕ). x % cols) e) ∙ test

pub row_below : (cols a b : ℕ) → a + cols ≡ b → eqb (a % cols) 0 ≡ false → eqb (b % cols) 0 ≡ false
row_below cols a b e test = ap (λ (x : ℕ). eqb x 0) (sym (ap (λ (x : ℕ). x % cols) e) ∙ add-mod_right a cols) ∙ test

-- where rows have one square, each begins a row
narrow : (cols q : ℕ) → cols ≡ 1 → eqb (q % cols) 0 ≡ false → ⊥
narrow cols q e test = eqb-false (q % cols) 0 test (ap (λ (x : ℕ). q % x) e ∙ omega arith)

-- the next square is another one
pub next_other : (board : Board) (q : ℕ) (d : Dir) → 1 ≤ board.cols → next board q d < length board.cells
    → next board q d ≢ q
next_other board q D columns lt = λ e. let f = next_below board q lt in omega (arith, columns, e, f)
next_other board q L columns lt = λ e. let f = (left_is board q lt).1 in omega (arith, e, f)
next_other board q R columns lt = λ e. let f = (right_is board q lt).1 in omega (arith, e, f)
next_other board q U columns lt = λ e. let f = next_above board q lt in omega (arith, columns, e, f)

-- the next squares in two directions across each other are not the same
abbrev pub GoApart : Board → Dir → Dir → Type 0
GoApart board d e = (q : ℕ) → next board q d < length board.cells → next board q e < length board.cells
    → next board q d ≢ next board q e

turned : (board : Board) (d e : Dir) → GoApart board d e → GoApart board e d
turned board d e apart q f g same = apart q g f (sym same)

pub next_apart : (board : Board) → 1 ≤ board.cols → (d e : Dir) → IsAcross d e → GoApart board d e
next_apart board columns = crossed (GoApart board) down_left down_right (turned board D L down_left)
    (turned board U L up_left) (turned board D R down_right)
    (turned board U R up_right) up_left up_right
  where
    down_left : GoApart board D L
    down_left q f g e = let a = next_below board q f in let b = (left_is board q g).1 in omega (arith, columns, e, a, b)

    down_right : GoApart board D R
    down_right q f g e =
        let a = next_below board q f in
        let b = right_is board q g in
        let h = b.1 in
        narrow board.cols (suc q) (omega (arith, e, a, h)) b.0

    up_left : GoApart board U L
    up_left q f g e =
        let a = next_above board q f in
        let b = left_is board q g in
        let h = b.1 in
        narrow board.cols q (omega (arith, e, a, h)) b.0

    up_right : GoApart board U R
    up_right q f g e = let a = next_above board q f in let b = (right_is board q g).1 in omega (arith, columns, e, a, b)

-- one comes to the same square by a step in one direction and one across, in either order
abbrev pub IsCorner : Board → Dir → Dir → Type 0
IsCorner board d e = (q : ℕ) → next board q d < length board.cells → next board q e < length board.cells → next board
    (next board q d) e < length board.cells →
    next board (next board q e) d ≡ next board (next board q d) e

pub next_corner : (board : Board) → (d e : Dir) → IsAcross d e → IsCorner board d e
next_corner board = crossed (IsCorner board) down_left down_right left_down left_up right_down right_up up_left up_right
  where
    down_left : IsCorner board D L
    down_left q f g h =
        let a = next_below board q f in
        let b = (left_is board q g).1 in
        let t = (left_is board (next board q D) h).1 in
        down_to board (next board q L) _ (omega (arith, a, b, t)) h

    down_right : IsCorner board D R
    down_right q f g h =
        let a = next_below board q f in
        let b = (right_is board q g).1 in
        let t = (right_is board (next board q D) h).1 in
        down_to board (next board q R) _ (omega (arith, a, b, t)) h

    up_left : IsCorner board U L
    up_left q f g h =
        let a = next_above board q f in
        let b = (left_is board q g).1 in
        let t = (left_is board (next board q U) h).1 in
        up_to board (next board q L) _ (omega (arith, a, b, t))

    up_right : IsCorner board U R
    up_right q f g h =
        let a = next_above board q f in
        let b = (right_is board q g).1 in
        let t = (right_is board (next board q U) h).1 in
        up_to board (next board q R) _ (omega (arith, a, b, t))

    left_down : IsCorner board L D
    left_down q f g h =
        let a = left_is board q f in
        let e = a.1 in
        let b = next_below board q g in
        let t = next_below board (next board q L) h in
        left_to board (next board q D) _ (row_below board.cols q _ (sym b) a.0) (omega (arith, e, b, t))

    left_up : IsCorner board L U
    left_up q f g h =
        let a = left_is board q f in
        let e = a.1 in
        let b = next_above board q g in
        let t = next_above board (next board q L) h in
        left_to board (next board q U) _ (same_column board.cols _ q b a.0) (omega (arith, e, b, t))

    right_down : IsCorner board R D
    right_down q f g h =
        let a = right_is board q f in
        let e = a.1 in
        let b = next_below board q g in
        let t = next_below board (next board q R) h in
        right_to board (next board q D) _ (row_below board.cols (suc q) _ (omega (arith, b)) a.0)
        (omega (arith, e, b, t))

    right_up : IsCorner board R U
    right_up q f g h =
        let a = right_is board q f in
        let e = a.1 in
        let b = next_above board q g in
        let t = next_above board (next board q R) h in
        right_to board (next board q U) _ (same_column board.cols _ (suc q) (omega (arith, b)) a.0)
        (omega (arith, e, b, t))

-- ---- the way round the square ahead

-- from the square `q` one looks at `c`, the next in the direction `d`, and goes round it on the side `e`
module _ (board : Board) (set : Squares) (columns : 1 ≤ board.cols) (within : (x : ℕ) → contains set x ≡ true →
    x < length board.cells) (q c : ℕ) (d e : Dir) (inside : q < length board.cells) (ahead : c ≡ next board q d)
    (ahead_inside : c < length board.cells) (side :
    IsAcross d e) where
  -- back from the square ahead
  pub back_joined : IsJoined board set c q (opposite d)
  back_joined there =
      let e : next board c (opposite d) ≡ q = ap (λ (x : ℕ). next board x (opposite d)) ahead ∙
      next_back_inside board q d inside (subst (λ (x : ℕ). x < length board.cells) ahead ahead_inside) in
      subst (λ (x : ℕ). Skirts board set c q x) (sym e) here

  -- to the square on that side of it
  pub side_joined : contains set (next board q e) ≡ true → IsJoined board set c q e
  side_joined first there =
      let a : next board q d < length board.cells = subst (λ (x : ℕ). x < length board.cells) ahead ahead_inside in
      let corner : next board (next board q e) d ≡ next board c e =
      next_corner board d e side q a (within _ first)
      (subst (λ (x : ℕ). next board x e < length board.cells) ahead (within _ there)) ∙
      sym (ap (λ (x : ℕ). next board x e) ahead) in
      let one = skirt_on board set c q q (next board q e) e here refl first
      (λ f. next_apart board columns d e side q a (within _ first) (sym ahead ∙ sym f)) in
      skirt_on board set c q (next board q e) (next board c e) d one (sym corner) there
      (next_other board c e columns (within _ there))

  -- to the square beyond it
  pub beyond_joined : contains set (next board q e) ≡ true → contains set (next board c e) ≡ true
      → contains set (next board (next board c e) d) ≡ true
      → IsJoined board set c q d
  beyond_joined first second third there =
      let two = side_joined first second in
      let home : next board (next board c e) (opposite e) ≡ c =
      next_back_inside board c e ahead_inside (within _ second) in
      let three = skirt_on board set c q (next board c e) (next board (next board c e) d) d two refl third (λ f.
      next_apart board columns d (opposite e) (across_back d e side) (next board c e) (within _ third)
      (subst (λ (x : ℕ). x < length board.cells) (sym home) ahead_inside) (f ∙ sym home)) in
      let corner : next board (next board c d) e ≡ next board (next board c e) d =
      next_corner board e d (across_each d e side) c (within _ second) (within _ there) (within _ third) in
      let back : next board (next board (next board c e) d) (opposite e) ≡ next board c d =
      sym (ap (λ (x : ℕ). next board x (opposite e)) corner) ∙
      next_back_inside board (next board c d) e (within _ there)
      (subst (λ (x : ℕ). x < length board.cells) (sym corner) (within _ third)) in
      skirt_on board set c q (next board (next board c e) d) (next board c d) (opposite e) three (sym back) there
      (next_other board c d columns (within _ there))

  -- to the square on its other side
  pub round_joined : Skirts board set c q (next board c d) → contains set (next board c d) ≡ true
      → contains set (next board (next board c d) (opposite e)) ≡
      true → IsJoined board set c q (opposite e)
  round_joined far fourth fifth there =
      let home : next board (next board c d) (opposite d) ≡ c =
      next_back_inside board c d ahead_inside (within _ fourth) in
      let around = across_each (opposite e) (opposite d)
      (across_back (opposite e) d (across_each d (opposite e) (across_back d e side))) in
      let five = skirt_on board set c q (next board c d) (next board (next board c d) (opposite e))
      (opposite e) far refl fifth (λ f.
      next_apart board columns (opposite d) (opposite e) around (next board c d)
      (subst (λ (x : ℕ). x < length board.cells) (sym home) ahead_inside)
      (within _ fifth) (home ∙ sym f)) in
      let corner : next board (next board c (opposite e)) d ≡ next board (next board c d) (opposite e) =
      next_corner board d (opposite e) (across_back d e side) c (within _ fourth) (within _ there) (within _ fifth) in
      let back : next board (next board (next board c d) (opposite e)) (opposite d) ≡ next board c (opposite e) =
      sym (ap (λ (x : ℕ). next board x (opposite d)) corner) ∙
      next_back_inside board (next board c (opposite e)) d (within _ there)
      (subst (λ (x : ℕ). x < length board.cells) (sym corner) (within _ fifth)) in
      skirt_on board set c q (next board (next board c d) (opposite e)) (next board c (opposite e)) (opposite d) five
      (sym back) there
      (next_other board c (opposite e) columns (within _ there))

  -- past it on that side
  pub past_joined : GoesPast board set q c d e → IsJoined board set c q d
  past_joined past = beyond_joined past.first past.beside past.third

  -- where one goes round it, all that is beside it is joined
  pub round_all_joined : GoesRound board set q c d e → (x : Dir) → IsJoined board set c q x
  round_all_joined round =
      let far = past_joined round.past in
      all_across (λ x. IsJoined board set c q x) d e side far back_joined (side_joined round.past.first)
      (round_joined (far round.beyond) round.beyond round.fifth)

  -- the square on that side, where it is of the set
  pub either_joined : (contains set (next board q e) ≡ true) ⊎ (contains set (next board c e) ≡ false)
      → IsJoined board set c q e
  either_joined (inl first) there = side_joined first there
  either_joined (inr not_there) there = absurd (true≢false (sym there ∙ not_there))

-- where the squares on both sides are joined, and one goes past on one of them to the square beyond, all are
pub sides_all_joined : (board : Board) (set : Squares) (columns : 1 ≤ board.cols) (within : (x : ℕ)
    → contains set x ≡ true
    → x < length board.cells) (q c : ℕ) (d e : Dir) (inside : q < length board.cells) (ahead : c ≡ next board q d)
    (ahead_inside : c < length board.cells) (side :
    IsAcross d e)
    → (contains set (next board q e) ≡ true) ⊎ (contains set (next board c e) ≡ false)
    → (contains set (next board q (opposite e)) ≡ true) ⊎ (contains set (next board c (opposite e)) ≡ false)
    → (contains set (next board c d) ≡ false) ⊎ (GoesPast board set q c d e ⊎ GoesPast board set q c d (opposite e))
    → (x : Dir) → IsJoined board set c q x
sides_all_joined board set columns within q c d e inside ahead ahead_inside side first second third =
    all_across (λ x. IsJoined board set c q x) d e side
    (beyond third)
    (back_joined board set columns within q c d e inside ahead ahead_inside side)
    (either_joined board set columns within q c d e inside ahead ahead_inside side first)
    (either_joined board set columns within q c d (opposite e) inside ahead ahead_inside (across_back d e side) second)
  where
    beyond : (contains set (next board c d) ≡ false) ⊎ (GoesPast board set q c d e ⊎ GoesPast board set q c d
        (opposite e)) → IsJoined board set c q d
    beyond (inl not_there) = λ there. absurd (true≢false (sym there ∙ not_there))
    beyond (inr (inl past)) = past_joined board set columns within q c d e inside ahead ahead_inside side past
    beyond (inr (inr past)) = past_joined board set columns within q c d (opposite e) inside ahead ahead_inside
        (across_back d e side) past

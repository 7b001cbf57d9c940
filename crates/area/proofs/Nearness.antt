-- Whether a square is in the area is decided by looking ever farther from the player, until nothing new comes.
use Rattle.std.proofs.Common.{◌≡◌, ℕ, zero, suc, ◌+◌, ◌<◌, ◌≤◌, Bool, true, false, not, cond, eqb, ◌&&◌, ◌||◌, ◌⊎◌, ◌↔◌}
use Rattle.std.proofs.Common.{inl, inr, List, [], ◌∷◌, ◌++◌, length, refl, sym, ap, subst, ◌∙◌, arith}
use Rattle.std.proofs.lemmas.Bool.{cases_lt, cases_Bool, eqb-true, eq-eqb, and_parts, and_from, or_cases, or_left}
use Rattle.std.proofs.lemmas.Bool.{or_right, true≢false, false≢true}
use Rattle.grid.specs.declared.dir.Dir.{Dir}
use Rattle.grid.specs.declared.dir.Dir.TheVariants.{D, L, R, U}
use Rattle.grid.specs.Board.{Board, Scene, IsFree, Walks, is_wall, next, opposite}
use Rattle.grid.specs.States.{IsScene}
use Rattle.grid.specs.Squares.{Squares, contains}
use Rattle.grid.specs.Plays.{Play, Any, stay, walk}
use Rattle.grid.proofs.lemmas.Steps.{wall_outside, next_back, next_back_to, walk_player, walk_boxes, scene_after_walk}
use Rattle.grid.proofs.lemmas.Plays.{play_walk_on}
use Rattle.area.specs.Area.{Area}

-- ---- tests of the numbers below n

-- how many numbers below n pass a test
tally : (ℕ → Bool) → ℕ → ℕ
tally test zero = 0
tally test (suc n) = cond (test n) 1 0 + tally test n

-- one more test adds at most one
pub tally_one : (b : Bool) (m n : ℕ) → m ≤ n → cond b 1 0 + m ≤ suc n
tally_one true m n le = omega arith
tally_one false m n le = omega arith

tally_bound : (test : ℕ → Bool) (n : ℕ) → tally test n ≤ n
unfolding tally
tally_bound test zero = omega arith
tally_bound test (suc n) = tally_one (test n) (tally test n) n (tally_bound test n)

tally_grows : (a b : Bool) (m n : ℕ) → (a ≡ true → b ≡ true) → m < n → cond a 1 0 + m < cond b 1 0 + n
tally_grows true true m n le h = omega arith
tally_grows true false m n le h = absurd (false≢true (le refl))
tally_grows false true m n le h = omega arith
tally_grows false false m n le h = omega arith

tally_new : (a b : Bool) (m n : ℕ) → (a ≡ true → b ≡ true) → m ≤ n → (a ≡ b) ⊎ (cond a 1 0 + m < cond b 1 0 + n)
tally_new true true m n le h = inl refl
tally_new true false m n le h = absurd (false≢true (le refl))
tally_new false true m n le h = inr (omega arith)
tally_new false false m n le h = inl refl

tally_keeps : (a b : Bool) (m n : ℕ) → (a ≡ true → b ≡ true) → m ≤ n → cond a 1 0 + m ≤ cond b 1 0 + n
tally_keeps true true m n le h = omega arith
tally_keeps true false m n le h = absurd (false≢true (le refl))
tally_keeps false true m n le h = omega arith
tally_keeps false false m n le h = omega arith

tally_le : (p q : ℕ → Bool) (n : ℕ) → ((x : ℕ) → p x ≡ true → q x ≡ true) → tally p n ≤ tally q n
unfolding tally
tally_le p q zero le = omega arith
tally_le p q (suc n) le = tally_keeps (p n) (q n) (tally p n) (tally q n) (le n) (tally_le p q n le)

-- a test that more numbers pass passes the same ones below n, or more of them
same_or_more : (p q : ℕ → Bool) (n : ℕ) → ((x : ℕ) → p x ≡ true → q x ≡ true)
    → ((x : ℕ) → x < n → p x ≡ q x) ⊎ (tally p n < tally q n)
unfolding tally
same_or_more p q zero le = inl (λ x lt. absurd (omega arith))
same_or_more p q (suc n) le = grind (arith, same_or_more p q n le, tally_grows, tally, tally_new, tally_le, cases_lt)

-- the first number below n that passes a test
first_or_none : (test : ℕ → Bool) (n : ℕ)
    → ((x : ℕ) → x < n → test x ≡ false) ⊎ ((m : ℕ) × (test m ≡ true) × ((x : ℕ) → x < m → test x ≡ false))
first_or_none test zero = inl (λ x lt. absurd (omega arith))
first_or_none test (suc n) = elim (first_or_none test n) [
  | inr found ↦ inr found
  | inl none ↦ elim (cases_Bool (test n)) [
    | inl holds ↦ inr (n, holds, none)
    | inr fails ↦ inl (λ x lt. elim (cases_lt x n) [
      | inl below ↦ none x below
      | inr above ↦ (let e : n ≡ x = omega arith in subst (λ (y : ℕ). test y ≡ false) e fails)
    ])
  ]
]

-- a test that some number passes has a least one
pub least_passing : (test : ℕ → Bool) (some : ℕ) → test some ≡ true
    → (m : ℕ) × (test m ≡ true) × ((x : ℕ) → test x ≡ true → m ≤ x)
least_passing test some holds = elim (first_or_none test (suc some)) [
  | inl none ↦ absurd (true≢false (sym holds ∙ none some (omega arith)))
  | inr found ↦ (
    found.0,
    found.1,
    λ x h. elim (cases_lt x found.0) [
      | inl below ↦ absurd (true≢false (sym h ∙ found.2 x below))
      | inr le ↦ le
    ],
  )
]

-- ---- squares that walks of at most so many steps reach

is_free : Board → Squares → ℕ → Bool
is_free board boxes q = not (is_wall board q) && not (contains boxes q)

is_free-true : (board : Board) (boxes : Squares) (q : ℕ) → is_free board boxes q ≡ true → IsFree board boxes q
unfolding is_free
is_free-true board boxes q h = grind arith

free_is : (board : Board) (boxes : Squares) (q : ℕ) → IsFree board boxes q → is_free board boxes q ≡ true
unfolding is_free
free_is board boxes q h = and_from (not (is_wall board q)) (not (contains boxes q)) (rw h.0 refl) (rw h.1 refl)

beside : Board → (ℕ → Bool) → ℕ → Bool
beside board test q =
    test (next board q D) || (test (next board q L) || (test (next board q R) || test (next board q U)))

beside_some : (board : Board) (test : ℕ → Bool) (q : ℕ) → beside board test q ≡ true
    → (d : Dir) × (test (next board q d) ≡ true)
unfolding beside
beside_some board test q h = grind arith

beside_at : (board : Board) (test : ℕ → Bool) (q : ℕ) (d : Dir) → test (next board q d) ≡ true
    → beside board test q ≡ true
unfolding beside
beside_at board test q D h = or_left (test (next board q D)) _ h
beside_at board test q L h = or_right (test (next board q D)) _ (or_left (test (next board q L)) _ h)
beside_at board test q R h = or_right (test (next board q D)) _
    (or_right (test (next board q L)) _ (or_left (test (next board q R)) _ h))
beside_at board test q U h = or_right (test (next board q D)) _
    (or_right (test (next board q L)) _ (or_right (test (next board q R)) _ h))

beside_same : (board : Board) (p r : ℕ → Bool) (q : ℕ) → ((x : ℕ) → p x ≡ r x) → beside board p q ≡ beside board r q
unfolding beside
beside_same board p r q same =
    rw (same (next board q D), same (next board q L), same (next board q R), same (next board q U)) refl

near : Board → Squares → ℕ → ℕ → ℕ → Bool
near board boxes from zero q = eqb q from
near board boxes from (suc k) q =
    near board boxes from k q || (is_free board boxes q && beside board (near board boxes from k) q)

near_more : (board : Board) (boxes : Squares) (from k q : ℕ) → near board boxes from k q ≡ true
    → near board boxes from (suc k) q ≡ true
unfolding near
near_more board boxes from k q h = or_left (near board boxes from k q) _ h

near_free : (board : Board) (boxes : Squares) (from k q : ℕ) → IsFree board boxes from
    → near board boxes from k q ≡ true → IsFree board boxes q
unfolding near
near_free board boxes from zero q free h = subst (λ (x : ℕ). IsFree board boxes x) (sym (eqb-true q from h)) free
near_free board boxes from (suc k) q free h = elim (or_cases (near board boxes from k q) _ h) [
  | inl old ↦ near_free board boxes from k q free old
  | inr new ↦ is_free-true board boxes q (and_parts (is_free board boxes q) _ new).0
]

abbrev pub set_down : Squares → ℕ → Scene
set_down boxes q = record { boxes = boxes; player = q }

-- a walk leads to a square that is near
near_walk : (board : Board) (boxes : Squares) (from k q : ℕ) → IsFree board boxes from
    → near board boxes from k q ≡ true → (ds : List Dir) ×
    Play board Any (set_down boxes from) ds [] (set_down boxes q)
unfolding near
near_walk board boxes from zero q free h = (
  [],
  subst (λ (x : ℕ). Play board Any (set_down boxes from) [] [] (set_down boxes x)) (sym (eqb-true q from h))
      (stay tt),
)
near_walk board boxes from (suc k) q free h = elim (or_cases (near board boxes from k q) _ h) [
  | inl old ↦ near_walk board boxes from k q free old
  | inr new ↦
      (let p = and_parts (is_free board boxes q) _ new in
      let here : IsFree board boxes q = is_free-true board boxes q p.0 in
      let b = beside_some board (near board boxes from k) q p.1 in
      let there : IsFree board boxes (next board q b.0) = near_free board boxes from k (next board q b.0) free b.1 in
      let w = near_walk board boxes from k (next board q b.0) free b.1 in
      let back : next board (next board q b.0) (opposite b.0) ≡ q = next_back board q b.0 here.0 there.0 in
      let step : Walks board (set_down boxes (next board q b.0)) (opposite b.0) (set_down boxes q) =
      (subst (λ (x : ℕ). IsFree board boxes x) (sym back) here, ap (set_down boxes) (sym back)) in
      (w.0 ++ opposite b.0 ∷ [], play_walk_on (opposite b.0) w.1 step tt))
]

near_step : (board : Board) (boxes : Squares) (from k q : ℕ) (d : Dir) → IsFree board boxes q
    → near board boxes from k (next board q d) ≡ true
    → near board boxes from (suc k) q ≡ true
unfolding near
near_step board boxes from k q d free h = grind (arith, or_right, near, and_from, is_free, free_is, beside_at)

-- where a walk leads from a near square is near, with its steps more
near_along : (board : Board) (boxes : Squares) (from k : ℕ) {s t : Scene} {ds : List Dir} → s.boxes ≡ boxes
    → IsScene board s
    → near board boxes from k s.player ≡ true → Play board Any s ds [] t
    → (j : ℕ) × (near board boxes from j t.player ≡ true)
near_along board boxes from k same scene h (stay o) = (k, h)
near_along board boxes from k {s = s} same scene h (walk {m = m} {d = d} o w p) =
    let scene' : IsScene board m = scene_after_walk board s d m scene w in
    let same' : m.boxes ≡ boxes = walk_boxes board s d m w ∙ same in
    let back : next board m.player (opposite d) ≡ s.player =
    next_back_to board s.player m.player d (sym (walk_player board s d m w)) scene.player.0 scene'.player.0 in
    let free : IsFree board boxes m.player =
    (scene'.player.0, subst (λ (b : Squares). contains b m.player ≡ false) same' scene'.player.1) in
    near_along board boxes from (suc k) {s = m} same' scene'
    (near_step board boxes from k m.player (opposite d) free
    (subst (λ (x : ℕ). near board boxes from k x ≡ true) (sym back) h)) p

-- once one step more brings nothing new, no number of steps does
near_stable : (board : Board) (boxes : Squares) (from k : ℕ)
    → ((q : ℕ) → near board boxes from k q ≡ near board boxes from (suc k) q) → (j q : ℕ)
    → near board boxes from (j + k) q ≡ near board boxes from k q
unfolding near
near_stable board boxes from k stable zero q = ap (λ n. near board boxes from n q) (let e : 0 + k ≡ k = omega arith in
    e)
near_stable board boxes from k stable (suc j) q =
    ap (λ n. near board boxes from n q) (let e : suc j + k ≡ suc (j + k) = omega arith in e)
    ∙ (rw (
      near_stable board boxes from k stable j q,
      beside_same board (near board boxes from (j + k)) (near board boxes from k) q
          (near_stable board boxes from k stable j),
    ) refl ∙ sym (stable q))

near_up : (board : Board) (boxes : Squares) (from j k q : ℕ) → near board boxes from k q ≡ true
    → near board boxes from (j + k) q ≡ true
near_up board boxes from zero k q h =
    subst (λ (n : ℕ). near board boxes from n q ≡ true) (let e : k ≡ 0 + k = omega arith in e) h
near_up board boxes from (suc j) k q h =
    subst (λ (n : ℕ). near board boxes from n q ≡ true) (let e : suc (j + k) ≡ suc j + k = omega arith in
    e) (near_more board boxes from (j + k) q (near_up board boxes from j k q h))

near_inside : (board : Board) (boxes : Squares) (from k q : ℕ) → IsFree board boxes from → length board.cells ≤ q
    → near board boxes from k q ≡ false
near_inside board boxes from k q free out = grind (arith, cases_Bool, near, true≢false, wall_outside, near_free)

stable_from : (board : Board) (boxes : Squares) (from : ℕ) → IsFree board boxes from → (fuel k : ℕ) →
    length board.cells < tally (near board boxes from k) (length board.cells) + fuel → (j : ℕ) ×
    ((q : ℕ) → near board boxes from j q ≡ near board boxes from (suc j) q)
stable_from board boxes from free zero k more =
    absurd (let b = tally_bound (near board boxes from k) (length board.cells) in omega arith)
stable_from board boxes from free (suc fuel) k more =
    elim (same_or_more (near board boxes from k) (near board boxes from (suc k)) (length board.cells)
    (λ q h. near_more board boxes from k q h)) [
      | inr grown ↦ stable_from board boxes from free fuel (suc k) (omega arith)
      | inl same ↦ (
        k,
        λ q. elim (cases_lt q (length board.cells)) [
          | inl inside ↦ same q inside
          | inr out ↦ near_inside board boxes from k q free out ∙ sym (near_inside board boxes from (suc k) q free out)
        ],
      )
    ]

near_here : (board : Board) (boxes : Squares) (from : ℕ) → near board boxes from 0 from ≡ true
unfolding near
near_here board boxes from = eq-eqb from from refl

-- a test tells which squares are in the area
pub area_test : (board : Board) (s : Scene) → IsScene board s
    → (test : ℕ → Bool) × ((q : ℕ) → (test q ≡ true) ↔ Area board s q)
area_test board s scene =
    let n : ℕ = length board.cells in
    let k = stable_from board s.boxes s.player scene.player (suc n) 0 (omega arith) in (
      near board s.boxes s.player k.0,
      λ q. (
        λ h. near_walk board s.boxes s.player k.0 q scene.player h,
        λ w. (let a = near_along board s.boxes s.player 0 {s = s} refl scene (near_here board s.boxes s.player) w.1 in
            sym (near_stable board s.boxes s.player k.0 k.1 a.0 q) ∙
            subst (λ (j : ℕ). near board s.boxes s.player j q ≡ true) (let e : k.0 + a.0 ≡ a.0 + k.0 = omega arith in
            e) (near_up board s.boxes s.player k.0 a.0 q a.1)),
      ),
    )

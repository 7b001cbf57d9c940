-- Pulls from the goals, turn after turn, find exactly the least numbers of pushes.
use Rattle.std.proofs.Common.{◌≡◌, ◌≢◌, ◌<◌, ◌≤◌, ◌+◌, ◌++◌, ℕ, zero, suc, true, is_some, Option, Some, None}
use Rattle.std.proofs.Common.{List, [], ◌∷◌, length, set, replicate, refl, sym, ap, subst, ◌∙◌, ◌⊎◌, inl, inr, arith}
use Rattle.std.proofs.Common.{length-append, length-set, get_or-set_other, get_or-set_same}
use Rattle.std.proofs.lemmas.List.{length-replicate}
use Rattle.std.proofs.lemmas.Bool.{false≢true}
use Rattle.std.proofs.lemmas.Bool.Decides.{eqb_tells}
use Rattle.grid.specs.declared.dir.Dir.{Dir}
use Rattle.grid.specs.Squares.{contains}
use Rattle.grid.specs.Board.{Board, is_goal, next, dir_number}
use Rattle.grid.proofs.lemmas.Steps.{inside_grid}
use Rattle.grid.proofs.lemmas.Directions.{dir_same}
use Rattle.grid.proofs.lemmas.Squares.{contains-push_cases, contains-push_kept, contains-push_last}
use Rattle.doom.specs.inside.Pulling.{far_at, CanPull, Marks, Pulls, HasWay, IsKnownWithin, IsSpread, IsFilling, DueBut}
use Rattle.doom.specs.inside.Pulling.{IsDue, unknown}
use Rattle.doom.proofs.Ways.{goal_floor, way_pulled, some_injective, none_not_some}

-- ---- a square is marked

-- it was known, and nothing changes, or it was not
abbrev IsSplit : ℕ → ℕ → List (Option ℕ) → List (Option ℕ) → List ℕ → List ℕ → Type 0
IsSplit k q far far' marked marked' =
    ((n : ℕ) × (far_at far q ≡ Some n) × (far' ≡ far) × (marked' ≡ marked)) ⊎
    ((far_at far q ≡ None) × (far' ≡ set far q (Some k)) × (marked' ≡ marked ++ q ∷ []))

marks_split : (k q : ℕ) (far far' : List (Option ℕ)) (marked marked' : List ℕ) → Marks k q far marked far' marked'
    → IsSplit k q far far' marked marked'
marks_split k q far far' marked marked' (a, p) = grind arith

-- what a list reads where an entry was set
set_here : (far : List (Option ℕ)) (q k : ℕ) → q < length far → far_at (set far q (Some k)) q ≡ Some k
set_here far q k lt = get_or-set_same far q (Some k) None lt

set_kept : (far : List (Option ℕ)) (q k x n : ℕ) → far_at far q ≡ None → far_at far x ≡ Some n
    → far_at (set far q (Some k)) x ≡ Some n
set_kept far q k x n none at = elim (eqb_tells x q) [
  | inl same ↦ absurd (none_not_some far q n none (sym (ap (far_at far) same.1) ∙ at))
  | inr other ↦ get_or-set_other far q x (Some k) None other.1 ∙ at
]

set_cases : (far : List (Option ℕ)) (q k x n : ℕ) → q < length far → far_at (set far q (Some k)) x ≡ Some n
    → ((x ≡ q) × (n ≡ k)) ⊎ (far_at far x ≡ Some n)
set_cases far q k x n lt at = elim (eqb_tells x q) [
  | inl same ↦
      inl (
        same.1,
        some_injective (set far q (Some k)) q n k (sym (ap (far_at (set far q (Some k))) same.1) ∙ at)
            (set_here far q k lt),
      )
  | inr other ↦ inr (sym (get_or-set_other far q x (Some k) None other.1) ∙ at)
]

module _ (board : Board) (Asked : ℕ → Type 0) (Due : ℕ → Dir → Type 0) (k q : ℕ) (far : List (Option ℕ))
    (due marked : List ℕ) (lt : q < length far) (spread : IsSpread board Asked Due k far due marked) where
  kept : far_at far q ≡ None → (x n : ℕ) → far_at far x ≡ Some n → far_at (set far q (Some k)) x ≡ Some n
  kept none x n at = set_kept far q k x n none at

  spread_set : HasWay board q k → far_at far q ≡ None
      → IsSpread board Asked Due k (set far q (Some k)) due (marked ++ q ∷ [])
  spread_set way none = record {
    size = length-set far q (Some k) ∙ spread.size;
    sound = λ x n at. elim (set_cases far q k x n lt at) [
      | inl same ↦ subst (λ y. HasWay board y n) (sym same.0) (subst (HasWay board q) (sym same.1) way)
      | inr old ↦ spread.sound x n old
    ];
    goals = λ x asked goal. kept none x 0 (spread.goals x asked goal);
    most = λ x n at. elim (set_cases far q k x n lt at) [
      | inl same ↦ omega (arith, same.1)
      | inr old ↦ spread.most x n old
    ];
    before = λ x there. let (n, at, e) = spread.before x there in (n, kept none x n at, e);
    last = λ x there. elim (contains-push_cases marked q x there) [
      | inl old ↦ kept none x k (spread.last x old)
      | inr same ↦ subst (λ y. far_at (set far q (Some k)) y ≡ Some k) same (set_here far q k lt)
    ];
    closed = λ x n at. elim (set_cases far q k x n lt at) [
      | inl same ↦
          inr (inl (subst (λ y. contains (marked ++ q ∷ []) y ≡ true) (sym same.0) (contains-push_last marked q)))
      | inr old ↦ elim (spread.closed x n old) [
        | inl there ↦ inl there
        | inr (inl there) ↦ inr (inl (contains-push_kept marked q x there))
        | inr (inr pulled) ↦ inr (inr (λ d asked pull. let (m, known, le) = pulled d asked pull in
            (m, kept none (next board x d) m known, le)))
      ]
    ];
  }

  module _ (far' : List (Option ℕ)) (marked' : List ℕ) (marks : Marks k q far marked far' marked') where
    -- marking a square that has a way of k pushes keeps what a turn keeps
    pub spread_mark : HasWay board q k → IsSpread board Asked Due k far' due marked'
    spread_mark way = grind (arith, marks_split, spread_set)

    -- and the square is known then
    pub marks_here : IsKnownWithin far' q k
    marks_here = grind (arith, marks_split, set_here)

unknown_less : (far : List (Option ℕ)) (q k : ℕ) → q < length far → far_at far q ≡ None
    → suc (unknown (set far q (Some k))) ≡ unknown far
unknown_less [] q k lt none = absurd (omega arith)
unknown_less (Some n ∷ far) zero k lt none = absurd (false≢true (ap is_some (sym none)))
unknown_less (None ∷ far) zero k lt none = refl
unknown_less (Some n ∷ far) (suc q) k lt none = unknown_less far q k (omega arith) none
unknown_less (None ∷ far) (suc q) k lt none = ap suc (unknown_less far q k (omega arith) none)

marks_count : (k q : ℕ) (far far' : List (Option ℕ)) (marked marked' : List ℕ) → q < length far
    → Marks k q far marked far' marked'
    → length marked' + unknown far' ≤ length marked + unknown far
marks_count k q far far' marked marked' lt marks =
    elim (marks_split k q far far' marked marked' marks) [
      | inl (n, at, same, still) ↦ rw (same, still) (omega arith)
      | inr (none, same, still) ↦ rw (same, still)
          (omega (arith, unknown_less far q k lt none, length-append marked (q ∷ [])))
    ]

-- ---- the goals

-- what has a property that no number has is no number
pub only_none : (P : Option ℕ → Type 0) → ((n : ℕ) → P (Some n) → ⊥) → (y : Option ℕ) → P y → y ≡ None
only_none P never None p = refl
only_none P never (Some n) p = absurd (never n p)

-- at the start nothing is known
pub spread_none : (board : Board)
    → IsSpread board (λ q. q < 0) (λ _ _. Unit {0}) 0 (replicate (length board.cells) None) [] []
spread_none board = record {
  size = length-replicate (length board.cells) None;
  sound = λ q n at. absurd (none (length board.cells) q n at);
  goals = λ q asked goal. absurd (omega arith);
  most = λ q n at. absurd (none (length board.cells) q n at);
  before = λ q there. absurd (false≢true there);
  last = λ q there. absurd (false≢true there);
  closed = λ q n at. absurd (none (length board.cells) q n at);
}
  where
    none : (size q n : ℕ) → ¬ (far_at (replicate size None) q ≡ Some n)
    none zero q n at = false≢true (ap is_some at)
    none (suc size) zero n at = false≢true (ap is_some at)
    none (suc size) (suc q) n at = none size q n at

below_last : (m n : ℕ) → m < n + 1 → m ≢ n → m < n
below_last m n lt ne = omega arith

-- one more square was asked for
pub spread_more : (board : Board) (i : ℕ) (far : List (Option ℕ)) (marked : List ℕ)
    → (is_goal board i ≡ true → IsKnownWithin far i 0)
    → IsSpread board (λ q. q < i) (λ _ _. Unit {0}) 0 far [] marked
    → IsSpread board (λ q. q < i + 1) (λ _ _. Unit {0}) 0 far [] marked
spread_more board i far marked here spread = grind arith

-- all squares were asked for
pub spread_goals : (board : Board) (i : ℕ) (far : List (Option ℕ)) (marked : List ℕ) → length board.cells ≤ i →
    IsSpread board (λ q. q < i) (λ _ _. Unit {0}) 0 far [] marked → IsFilling board 0 far [] marked
spread_goals board i far marked all spread =
    let goals : (q : ℕ) → Unit {0} → is_goal board q ≡ true → far_at far q ≡ Some 0 = λ q asked goal.
    let lt = inside_grid board q (goal_floor board q goal) in spread.goals q (omega arith) goal in
    search

-- with a goal marked, fewer squares are unknown than there are
pub few_unknown : (board : Board) (far : List (Option ℕ)) (marked : List ℕ) → IsFilling board 0 far [] marked
    → unknown far ≤ length board.cells
few_unknown board far marked filling = subst (λ n. unknown far ≤ n) filling.size (at_most far)
  where
    at_most : (xs : List (Option ℕ)) → unknown xs ≤ length xs
    at_most [] = omega arith
    at_most (Some n ∷ xs) = let le = at_most xs in omega (arith, le)
    at_most (None ∷ xs) = let le = at_most xs in omega (arith, le)

-- ---- a turn

-- a square that is due is taken up
pub spread_pop : (board : Board) (k s : ℕ) (far : List (Option ℕ)) (due due' marked : List ℕ) → due ≡ due' ++ s ∷ []
    → IsFilling board k far due marked
    → IsDue board k s 0 far due' marked
spread_pop board k s far due due' marked popped spread =
    grind (arith, contains-push_last, contains-push_kept, contains-push_cases)

-- one direction more, where a box cannot be pulled or was
spread_due : (board : Board) (k s i : ℕ) (d : Dir) (far : List (Option ℕ)) (due marked : List ℕ) → dir_number d ≡ i →
    (CanPull board s d → IsKnownWithin far (next board s d) k) → IsDue board k s i far due marked
    → IsDue board k s (i + 1) far due marked
spread_due board k s i d far due marked number done before =
    let closed : (q n : ℕ) → far_at far q ≡ Some n → (contains due q ≡ true) ⊎ ((contains marked q ≡ true) ⊎
    ((e : Dir) → DueBut s (i + 1) q e → CanPull board q e → IsKnownWithin far (next board q e) (suc n))) =
    λ q n at. elim (before.spread.closed q n at) [
      | inl there ↦ inl there
      | inr (inl there) ↦ inr (inl there)
      | inr (inr pulled) ↦ inr (inr (λ e due pull. elim (eqb_tells q s) [
        | inl same ↦ elim (eqb_tells (dir_number e) i) [
          | inl last ↦
              let turned = dir_same e d (last.1 ∙ sym number) in
              let known = done (subst (λ p. CanPull board s p) turned (subst (λ p. CanPull board p e) same.1 pull)) in
              subst (λ p. IsKnownWithin far p (suc n))
              (sym (ap (λ p. next board p e) same.1 ∙ ap (next board s) turned))
              (subst (IsKnownWithin far (next board s d))
              (steps n (subst (λ y. far_at far y ≡ Some n) same.1 at)) known)
          | inr early ↦ pulled e (λ _. below_last (dir_number e) i (due same.1) early.1) pull
        ]
        | inr other ↦ pulled e (λ same. absurd (other.1 same)) pull
      ]))
    ] in
    search
  where
    steps : (n : ℕ) → far_at far s ≡ Some n → k ≡ suc n
    steps n at = let (j, known, e) = before.here in sym e ∙ ap suc (some_injective far s j n known at)

-- the square that is due keeps its distance where another is marked
here_kept : (k q s : ℕ) (far far' : List (Option ℕ)) (marked marked' : List ℕ) → Marks k q far marked far' marked'
    → (n : ℕ) × (far_at far s ≡ Some n) ×
    (suc n ≡ k) → (n : ℕ) × (far_at far' s ≡ Some n) × (suc n ≡ k)
here_kept k q s far far' marked marked' marks (n, at, e) = grind (arith, marks_split, set_kept)

-- a pull in the next direction
pub spread_pull : (board : Board) (k s i : ℕ) (d : Dir) (far far' : List (Option ℕ)) (due marked marked' : List ℕ)
    → dir_number d ≡ i
    → Pulls board k s d far marked far' marked' → IsDue board k s i far due marked
    → IsDue board k s (i + 1) far' due marked'
spread_pull board k s i d far far' due marked marked' number (inl (pull, marks)) before =
    let lt : next board s d < length far =
    subst (λ n. next board s d < n) (sym before.spread.size) (inside_grid board (next board s d) pull.0) in
    let (n, at, e) = before.here in
    let way : HasWay board (next board s d) k =
    subst (HasWay board (next board s d)) e (way_pulled board s n d (before.spread.sound s n at) pull) in
    spread_due board k s i d far' due marked' number
    (λ _. marks_here board (λ _. Unit {0}) (DueBut s i) k (next board s d) far due marked lt before.spread far' marked'
    marks)
    (record {
      here = here_kept k (next board s d) s far far' marked marked' marks before.here;
      spread = spread_mark board (λ _. Unit {0}) (DueBut s i) k (next board s d) far due marked lt before.spread far'
          marked' marks way;
    })
spread_pull board k s i d far far' due marked marked' number (inr (stuck, same, still)) before =
    rw (same, still) (spread_due board k s i d far due marked number (λ pull. absurd (stuck pull)) before)

pub pull_count : (board : Board) (k s : ℕ) (d : Dir) (far far' : List (Option ℕ)) (marked marked' : List ℕ)
    → length far ≡ length board.cells
    → Pulls board k s d far marked far' marked' → length marked' + unknown far' ≤ length marked + unknown far
pull_count board k s d far far' marked marked' size (inl (pull, marks)) = grind (arith, marks_count, inside_grid)
pull_count board k s d far far' marked marked' size (inr (stuck, same, still)) = rw (same, still) (omega arith)

-- Filling the player's room: marks grow until they are closed under steps.
use Rattle.std.proofs.Common.{◌≡◌, ℕ, suc, ◌<◌, ◌≤◌, Bool, true, false, not, cond, eqb, List, [], ◌∷◌, ◌++◌, length, get_or}
use Rattle.std.proofs.Common.{set, ◌⊎◌, ◌↔◌, inl, inr, refl, sym, subst, ◌∙◌, arith}
use Rattle.std.proofs.lemmas.Bool.{eqb-true, eq-eqb, cases_eq, cases_lt, or_cases, or_left, or_right, false≢true}
use Rattle.std.proofs.lemmas.List.{get_or_past, get_or-set_same, get_or-set_other, length-append, length-set}
use Rattle.std.proofs.lemmas.List.Sums.{sum_by-set}
use Rattle.grid.specs.declared.dir.Dir.{Dir}
use Rattle.grid.specs.Board.{Board, dir_number, is_wall, next, start_player}
use Rattle.grid.specs.Lawful.{InRoom, IsOpen}
use Rattle.grid.specs.Lawful.InRoom.{here, beside}
use Rattle.grid.specs.Squares.{contains}
use Rattle.grid.specs.inside.Filling.{IsFilling, IsLook, IsMarked, IsSeen, work}
use Rattle.grid.specs.inside.Filling.IsLook.{passes, takes}
use Rattle.grid.proofs.lemmas.Directions.{dir_number-lt, more_dirs}
use Rattle.grid.proofs.lemmas.Steps.{inside_grid}
use Rattle.grid.proofs.lemmas.Squares.{contains-push_cases, contains-push_kept, contains-push_last}

-- ---- one look

-- in the midst of the looks round a square: the squares beside it in the first directions were seen
pub record IsLooking (board : Board) (marks : List Bool) (pending : List ℕ) (p seen : ℕ) : Type 0 where
  pub filling : IsFilling board marks (p ∷ pending)
  pub seen_to : (d : Dir) → dir_number d < seen → IsSeen board marks (next board p d)

-- before the first look
pub unseen : (board : Board) (marks : List Bool) (pending : List ℕ) (p : ℕ) → IsFilling board marks (p ∷ pending)
    → IsLooking board marks pending p 0
unseen board marks pending p f = record { filling = f; seen_to = λ d lt. absurd (omega arith) }

-- a square that is pending first is of the room
pub first_in_room : (board : Board) (marks : List Bool) (p : ℕ) (xs : List ℕ) → IsFilling board marks (p ∷ xs)
    → InRoom board p
first_in_room board marks p xs f = f.inside p (f.waits p (or_left (eqb p p) (contains xs p) (eq-eqb p p refl)))

-- and of the grid
pub first_inside : (board : Board) (marks : List Bool) (p : ℕ) (xs : List ℕ) → IsFilling board marks (p ∷ xs)
    → p < length board.cells
first_inside board marks p xs f = elim (cases_lt p (length marks)) [
  | inl lt ↦ omega (arith, lt, f.size)
  | inr le ↦ absurd (false≢true (sym (get_or_past marks p false le) ∙
      f.waits p (or_left (eqb p p) (contains xs p) (eq-eqb p p refl))))
]

-- where a step from there leads past the grid, the room is open
pub open_at : (board : Board) (marks : List Bool) (p n : ℕ) (d : Dir) (xs : List ℕ) → IsFilling board marks (p ∷ xs)
    → next board p d ≡ n → n ≡ length board.cells → IsOpen board
open_at board marks p n d xs f at past = (p, d, first_in_room board marks p xs f, at ∙ past)

-- after a look at the next square
pub looked : (board : Board) (old : List Bool) (before : List ℕ) (p seen : ℕ) (d : Dir) (n : ℕ) {new : List Bool}
    {later : List ℕ} → IsLooking board old before p seen → dir_number d ≡ seen → next board p d ≡ n
    → IsLook board n old before new later
    → IsLooking board new later p (suc seen) × (work new later ≤ work old before)
looked board old before p seen d n k at is (passes here_seen) = (
  record {
    filling = k.filling;
    seen_to = λ e lt. elim (more_dirs seen d e at lt) [
      | inl less ↦ k.seen_to e less
      | inr same ↦ subst (λ (x : Dir). IsSeen board old (next board p x)) same
          (subst (IsSeen board old) (sym is) here_seen)
    ];
  },
  omega arith,
)
looked board old before p seen d n k at is (takes floor free) = (record { filling = filling; seen_to = seen_to }, less)
  where
    inside : n < length board.cells
    inside = inside_grid board n floor

    lies : n < length old
    lies = omega (arith, inside, k.filling.size)

    itself : IsMarked (set old n true) n
    itself = get_or-set_same old n true false lies

    kept : (q : ℕ) → IsMarked old q → IsMarked (set old n true) q
    kept q h = elim (cases_eq q n) [
      | inl e ↦ subst (λ (x : ℕ). IsMarked (set old n true) x) (sym e) itself
      | inr ne ↦ get_or-set_other old n q true false ne ∙ h
    ]

    fresh : (q : ℕ) → IsMarked (set old n true) q → (q ≡ n) ⊎ IsMarked old q
    fresh q h = elim (cases_eq q n) [
      | inl e ↦ inl e
      | inr ne ↦ inr (sym (get_or-set_other old n q true false ne) ∙ h)
    ]

    still : (q : ℕ) → IsSeen board old q → IsSeen board (set old n true) q
    still q s = (s.0, λ clear. kept q (s.1 clear))

    in_room : InRoom board n
    in_room = subst (λ (x : ℕ). is_wall board x ≡ false → InRoom board x) is
        (λ clear. beside d (first_in_room board old p before k.filling) clear) floor

    more : (q : ℕ) → contains (p ∷ before) q ≡ true → contains (p ∷ (before ++ n ∷ [])) q ≡ true
    more q h = elim (or_cases (eqb p q) (contains before q) h) [
      | inl e ↦ or_left (eqb p q) (contains (before ++ n ∷ []) q) e
      | inr e ↦ or_right (eqb p q) (contains (before ++ n ∷ []) q) (contains-push_kept before n q e)
    ]

    filling : IsFilling board (set old n true) (p ∷ (before ++ n ∷ []))
    filling = record {
      size = length-set old n true ∙ k.filling.size;
      start = kept (start_player board) k.filling.start;
      inside = λ q h. elim (fresh q h) [
        | inl e ↦ subst (InRoom board) (sym e) in_room
        | inr was ↦ k.filling.inside q was
      ];
      waits = λ q h. elim (or_cases (eqb p q) (contains (before ++ n ∷ []) q) h) [
        | inl e ↦ kept q (k.filling.waits q (or_left (eqb p q) (contains before q) e))
        | inr there ↦ elim (contains-push_cases before n q there) [
          | inl e ↦ kept q (k.filling.waits q (or_right (eqb p q) (contains before q) e))
          | inr e ↦ subst (λ (x : ℕ). IsMarked (set old n true) x) e itself
        ]
      ];
      done = λ q h. elim (fresh q h) [
        | inl e ↦ inl (subst (λ (x : ℕ). contains (p ∷ (before ++ n ∷ [])) x ≡ true) (sym e)
            (or_right (eqb p n) (contains (before ++ n ∷ []) n) (contains-push_last before n)))
        | inr was ↦ elim (k.filling.done q was) [
          | inl e ↦ inl (more q e)
          | inr all ↦ inr (λ e. still (next board q e) (all e))
        ]
      ];
    }

    seen_to : (e : Dir) → dir_number e < suc seen → IsSeen board (set old n true) (next board p e)
    seen_to e lt = elim (more_dirs seen d e at lt) [
      | inl less ↦ still (next board p e) (k.seen_to e less)
      | inr same ↦ subst (λ (x : Dir). IsSeen board (set old n true) (next board p x)) same
          (subst (IsSeen board (set old n true)) (sym is) (λ past. omega (arith, past, inside), λ _. itself))
    ]

    less : work (set old n true) (before ++ n ∷ []) ≤ work old before
    less =
        let e = sum_by-set (λ x. cond (not x) 1 0) old n true false lies in
        let g : ◌≡◌ {A = ℕ} (cond (not (get_or old n false)) 1 0) 1 = rw free refl in
        omega (arith, e, g, length-append before (n ∷ []))

-- after the look at the last one the square is no longer pending
pub all_seen : (board : Board) (marks : List Bool) (pending : List ℕ) (p : ℕ) → IsLooking board marks pending p 4
    → IsFilling board marks pending
all_seen board marks pending p k = record {
  size = k.filling.size;
  start = k.filling.start;
  inside = k.filling.inside;
  waits = λ q h. k.filling.waits q (or_right (eqb p q) (contains pending q) h);
  done = λ q h. elim (k.filling.done q h) [
    | inl e ↦ elim (or_cases (eqb p q) (contains pending q) e) [
      | inl same ↦ inr (subst (λ (x : ℕ). (d : Dir) → IsSeen board marks (next board x d)) (eqb-true p q same)
          (λ d. k.seen_to d (dir_number-lt d)))
      | inr there ↦ inl there
    ]
    | inr all ↦ inr all
  ];
}

-- ---- the beginning and the end

-- the player's square is marked and pending
pub fill_start : (board : Board) (clear : List Bool) (p : ℕ) → length clear ≡ length board.cells
    → ((q : ℕ) → IsMarked clear q → ⊥) → p ≡ start_player board → is_wall board p ≡ false
    → IsFilling board (set clear p true) (p ∷ [])
fill_start board clear p sized none is floor = record {
  size = length-set clear p true ∙ sized;
  start = subst (IsMarked (set clear p true)) is itself;
  inside = λ q h. subst (InRoom board) (sym is ∙ sym (only q h)) here;
  waits = λ q there. elim (or_cases (eqb p q) false there) [
    | inl e ↦ subst (IsMarked (set clear p true)) (eqb-true p q e) itself
    | inr e ↦ absurd (false≢true e)
  ];
  done = λ q h. inl (or_left (eqb p q) false (eq-eqb p q (sym (only q h))));
}
  where
    itself : IsMarked (set clear p true) p
    itself = get_or-set_same clear p true false (omega (arith, inside_grid board p floor, sized))

    only : (q : ℕ) → IsMarked (set clear p true) q → q ≡ p
    only q h = elim (cases_eq q p) [
      | inl e ↦ e
      | inr ne ↦ absurd (none q (sym (get_or-set_other clear p q true false ne) ∙ h))
    ]

-- the last of those that are pending may come first
pub last_first : (board : Board) (marks : List Bool) (xs : List ℕ) (p : ℕ) → IsFilling board marks (xs ++ p ∷ [])
    → IsFilling board marks (p ∷ xs)
last_first board marks xs p f = record {
  size = f.size;
  start = f.start;
  inside = f.inside;
  waits = λ q h. elim (or_cases (eqb p q) (contains xs q) h) [
    | inl e ↦ f.waits q (subst (λ (y : ℕ). contains (xs ++ p ∷ []) y ≡ true) (eqb-true p q e) (contains-push_last xs p))
    | inr e ↦ f.waits q (contains-push_kept xs p q e)
  ];
  done = λ q h. elim (f.done q h) [
    | inl there ↦ elim (contains-push_cases xs p q there) [
      | inl e ↦ inl (or_right (eqb p q) (contains xs q) e)
      | inr e ↦ inl (or_left (eqb p q) (contains xs q) (eq-eqb p q e))
    ]
    | inr all ↦ inr all
  ];
}

module _ (board : Board) (marks : List Bool) (f : IsFilling board marks []) where
  -- nothing is pending: all squares beside a marked one were seen
  seen_beside : (q : ℕ) (d : Dir) → IsMarked marks q → IsSeen board marks (next board q d)
  seen_beside q d h = elim (f.done q h) [ inl e ↦ absurd (false≢true e) | inr all ↦ all d ]

  -- so the marks are the room
  pub fill_done : (q : ℕ) → IsMarked marks q ↔ InRoom board q
  fill_done q = (f.inside q, reached)
    where
      reached : {x : ℕ} → InRoom board x → IsMarked marks x
      reached here = f.start
      reached (beside {q} d r floor) = (seen_beside q d (reached r)).1 floor

  -- and the room is closed
  pub fill_closed : IsOpen board → ⊥
  fill_closed gap = (seen_beside gap.0 gap.1 ((fill_done gap.0).1 gap.2)).0 gap.3

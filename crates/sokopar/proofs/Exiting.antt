-- Squares that steps lead to from the player, boxes ignored: each square is looked round from in turn.
use Rattle.std.proofs.Common.{◌≡◌, ℕ, suc, ◌+◌, ◌<◌, ◌≤◌, Bool, true, set, List, [], ◌∷◌, length, drop}
use Rattle.std.proofs.Common.{Option, Some, None, inl, inr, sym, ap, ◌∙◌, subst, slice_get, arith, length-append, drop-cons}
use Rattle.std.proofs.lemmas.Bool.{cases_lt}
use Rattle.std.proofs.lemmas.List.{drop-append-le}
use Rattle.std.proofs.lemmas.Option.{get_or_from_slice_get, slice_get_cases, slice_get_within}
use Rattle.std.proofs.Math.ListN.{drop_of_length-le}
use Rattle.grid.specs.declared.dir.Dir.{Dir}
use Rattle.grid.specs.Board.{Board, dir_number, next}
use Rattle.grid.specs.Lawful.{IsOpen}
use Rattle.grid.specs.Squares.{Squares}
use Rattle.grid.specs.inside.Filling.{IsFilling, IsLook, work}
use Rattle.grid.specs.inside.Filling.IsLook.{passes, takes}
use Rattle.grid.proofs.lemmas.Filling.{IsLooking, all_seen, fill_closed, first_inside, looked}
use Rattle.grid.proofs.lemmas.Steps.{next_bound}
use Rattle.sokopar.specs.inside.Explaining.{HasTurned}

-- a look at a square, in the pending squares from some place on
look_from : (board : Board) (n : ℕ) (marks new : List Bool) (pending later : Squares) (k : ℕ) → k ≤ length pending →
    IsLook board n marks pending new later → IsLook board n marks (drop k pending) new (drop k later)
look_from board n marks new pending later k few (passes seen) = passes seen
look_from board n marks new pending later k few (takes floor free) =
    subst (λ xs. IsLook board n marks (drop k pending) (set marks n true) xs) (sym (drop-append-le k pending (n ∷ []) few))
    (takes floor free)

look_longer : (board : Board) (n : ℕ) (marks new : List Bool) (pending later : Squares) (k : ℕ) → k ≤ length pending →
    IsLook board n marks pending new later → k ≤ length later
look_longer board n marks new pending later k few (passes seen) = few
look_longer board n marks new pending later k few (takes floor free) = let long = length-append pending (n ∷ []) in omega (arith, long)

-- in the midst of the looks round a square: those beside it in the first directions were looked at
pub record IsTurning (board : Board) (from square seen : ℕ) (marks : List Bool) (pending : Squares) (new : List Bool) (later : Squares) : Type 0 where
  pub long : from ≤ length later
  pub looking : IsLooking board new (drop from later) square seen
  pub less : work new (drop from later) ≤ work marks (drop from pending)

module _ (board : Board) (from square seen : ℕ) (d : Dir) (marks old : List Bool) (pending before : Squares)
    (turning : IsTurning board from square seen marks pending old before) where
  -- the square beside it is in the grid, or the grid ends there
  pub beside_inside : (n : ℕ) → n ≡ next board square d → (n ≡ length board.cells → ⊥) → n < length board.cells
  beside_inside n beside inside =
      let lies = first_inside board old square (drop from before) turning.looking.filling in
      let bound = next_bound board square d lies in elim (cases_lt n (length board.cells)) [
        | inl less ↦ less
        | inr past ↦ absurd (inside (omega (arith, past, bound, beside)))
      ]

  -- after one look more
  pub turning_more : (n more : ℕ) (new : List Bool) (later : Squares) → dir_number d ≡ seen → n ≡ next board square d → more ≡ seen + 1 →
      IsLook board n old before new later → IsTurning board from square more marks pending new later
  turning_more n more new later at beside one look =
      let after = looked board old (drop from before) square seen d n turning.looking at (sym beside)
      (look_from board n old new before later from turning.long look) in
      let less = turning.less in
      let same : suc seen ≡ more = omega (arith, one) in record {
        long = look_longer board n old new before later from turning.long look;
        looking = subst (λ k. IsLooking board new (drop from later) square k) same after.0;
        less = omega (arith, after.1, less);
      }

-- after the last look
pub turned : (board : Board) (from square seen : ℕ) (marks new : List Bool) (pending later : Squares) →
    IsTurning board from square seen marks pending new later → seen ≡ 4 → HasTurned board from marks pending new later
turned board from square seen marks new pending later turning all = record {
  filling = all_seen board new (drop from later) square
      (subst (λ k. IsLooking board new (drop from later) square k) all turning.looking);
  less = turning.less;
}

-- ---- from turn to turn

pub none_past : (pending : Squares) (turn : ℕ) → slice_get pending turn ≡ None → length pending ≤ turn
none_past pending turn none = elim ((slice_get_cases pending turn).1) [
  | inl has ↦ absurd (let no : ◌≡◌ {A = Option ℕ} (Some has.0) None = sym has.2 ∙ none in cc)
  | inr past ↦ past.0
]

pub next_below : (pending : Squares) (turn square : ℕ) → slice_get pending turn ≡ Some square → turn + 1 ≤ length pending
next_below pending turn square is = let below = slice_get_within pending turn square is in omega (arith, below)

module _ (board : Board) (turn : ℕ) (marks : List Bool) (pending : Squares) (filling : IsFilling board marks (drop turn pending)) where
  -- a square is next
  pub next_split : (square : ℕ) → slice_get pending turn ≡ Some square → drop turn pending ≡ square ∷ drop (turn + 1) pending
  next_split square is =
      let below = slice_get_within pending turn square is in
      let next : suc turn ≡ turn + 1 = omega arith in
      drop-cons pending turn 0 below ∙ ap (λ q. q ∷ drop (suc turn) pending) (get_or_from_slice_get pending turn square 0 is)
      ∙ ap (λ k. square ∷ drop k pending) next

  pub next_filling : (square : ℕ) → slice_get pending turn ≡ Some square → IsFilling board marks (square ∷ drop (turn + 1) pending)
  next_filling square is = subst (IsFilling board marks) (next_split square is) filling

  -- then less is left
  pub next_less : (square : ℕ) (new : List Bool) (later : Squares) → slice_get pending turn ≡ Some square →
      HasTurned board (turn + 1) marks pending new later → work new (drop (turn + 1) later) < work marks (drop turn pending)
  next_less square new later is has =
      let one = ap length (next_split square is) in let less = has.less in omega (arith, one, less)

  -- or none is, and the board is closed
  pub no_exit : slice_get pending turn ≡ None → IsOpen board → ⊥
  no_exit none gap =
      fill_closed board marks (subst (IsFilling board marks) (drop_of_length-le pending (none_past pending turn none)) filling) gap

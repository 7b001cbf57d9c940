-- What the check of a corral tells.
use Rattle.std.proofs.Common.{◌≡◌, ◌<◌, ◌≤◌, ◌+◌, ℕ, Some, arith, Bool, true, false, not, eqb, ◌&&◌, ◌||◌, [], ◌∷◌, ◌⊎◌}
use Rattle.std.proofs.Common.{length, inl, inr, refl, sym, ap, subst, ◌∙◌}
use Rattle.std.specs.Prelude.{◌*◌, nat_lt, slice_get}
use Rattle.std.specs.List.{list_all, list_any}
use Rattle.std.proofs.lemmas.Option.{same_Some, slice_get_read}
use Rattle.std.proofs.lemmas.Bool.{false≢true, and_parts, or_cases, or_right, eqb-true, cases_lt, ltb-true, not-true}
use Rattle.grid.specs.declared.dir.Dir.{Dir}
use Rattle.grid.specs.declared.dir.Dir.TheVariants.{D, L, R, U}
use Rattle.grid.specs.Squares.{Squares, contains}
use Rattle.grid.specs.declared.masks.TheConstants.{WORD_BITS}
use Rattle.grid.specs.Masks.{word_count}
use Rattle.grid.specs.Board.{Board, Scene, is_wall, is_goal, next}
use Rattle.grid.proofs.lemmas.Squares.{contains_head, place_of_member}
use Rattle.area.proofs.lemmas.Flooding.{words_enough}
use Rattle.corrals.specs.Corrals.{HasToChange, IsClosure}
use Rattle.corrals.specs.inside.Checking.{IsReadyBox, are_inside, shut_beside, shut_round, has_to_change}

pub all_pass : (test : ℕ → Bool) (xs : Squares) (q : ℕ) → list_all test xs ≡ true → contains xs q ≡ true → test q ≡ true
all_pass test [] q all here = absurd (false≢true here)
all_pass test (x ∷ xs) q all here =
    let parts = and_parts (test x) (list_all test xs) all in
    elim (or_cases (eqb x q) (contains xs q) here) [
      | inl e ↦ subst (λ (z : ℕ). test z ≡ true) (eqb-true x q e) parts.0
      | inr there ↦ all_pass test xs q parts.1 there
    ]

some_passes : (test : ℕ → Bool) (xs : Squares) → list_any test xs ≡ true
    → (q : ℕ) × (contains xs q ≡ true) × (test q ≡ true)
some_passes test [] h = absurd (false≢true h)
some_passes test (x ∷ xs) h = by_head (or_cases (test x) (list_any test xs) h) (some_passes test xs)
  where
    by_head : (test x ≡ true) ⊎ (list_any test xs ≡ true)
        → (list_any test xs ≡ true → (q : ℕ) × (contains xs q ≡ true) × (test q ≡ true))
        → (q : ℕ) × (contains (x ∷ xs) q ≡ true) × (test q ≡ true)
    by_head (inl e) rest = (x, contains_head x xs, e)
    by_head (inr h) rest = let (q, there, e) = rest h in (q, or_right (eqb x q) (contains xs q) there, e)

in_each : (P : Dir → Bool) → (P D && (P L && (P R && P U))) ≡ true → (d : Dir) → P d ≡ true
in_each P all D = (and_parts (P D) (P L && (P R && P U)) all).0
in_each P all L = (and_parts (P L) (P R && P U) (and_parts (P D) (P L && (P R && P U)) all).1).0
in_each P all R =
    (and_parts (P R) (P U) (and_parts (P L) (P R && P U) (and_parts (P D) (P L && (P R && P U)) all).1).1).0
in_each P all U =
    (and_parts (P R) (P U) (and_parts (P L) (P R && P U) (and_parts (P D) (P L && (P R && P U)) all).1).1).1

-- squares of the level are within sets with room for all of them
pub inside_words : (board : Board) (xs : Squares) (words q : ℕ) → are_inside board xs ≡ true →
    words ≡ word_count (length board.cells) → contains xs q ≡ true → q < WORD_BITS * words
inside_words board xs words q all room there = let size = length board.cells in
    words_enough size words q room (ltb-true q size (all_pass (λ x. nat_lt x size) xs q all there))

module _ (board : Board) (s : Scene) (held room : ℕ → Bool) (boxes squares : Squares)
    (held_are : (q : ℕ) → held q ≡ contains boxes q) (room_is : (q : ℕ) →
    room q ≡ contains squares q) where
  listed_box : (q : ℕ) → held q ≡ true → contains boxes q ≡ true
  listed_box q member = sym (held_are q) ∙ member

  listed_square : (q : ℕ) → room q ≡ true → contains squares q ≡ true
  listed_square q inside = sym (room_is q) ∙ inside

  changes : has_to_change board boxes squares ≡ true → HasToChange board held room
  changes h = elim (or_cases (list_any (λ q. not (is_goal board q)) boxes)
      (list_any (λ q. is_goal board q) squares) h) [
        | inl off ↦ (let (q, there, e) = some_passes (λ q. not (is_goal board q)) boxes off in
            inl (q, held_are q ∙ there, not-true (is_goal board q) e))
        | inr on ↦ (let (q, there, e) = some_passes (λ q. is_goal board q) squares on in inr (q, room_is q ∙ there, e))
      ]

  beside : (q : ℕ) (d : Dir) → shut_beside board held room q d ≡ true
      → (is_wall board (next board q d) ≡ true) ⊎ ((held (next board q d) ≡ true) ⊎ (room (next board q d) ≡ true))
  beside q d e = elim (or_cases (is_wall board (next board q d)) (room (next board q d) || held (next board q d)) e) [
    | inl wall ↦ inl wall
    | inr in_set ↦ elim (or_cases (room (next board q d)) (held (next board q d)) in_set) [
      | inl inside ↦ inr (inr inside)
      | inr member ↦ inr (inl member)
    ]
  ]

  shut_at : (q : ℕ) → shut_round board s.boxes held room q ≡ true
      → (contains s.boxes q ≡ false) × ((d : Dir) → shut_beside board held room q d ≡ true)
  shut_at q e =
      let parts = and_parts _ _ (and_parts _ _ e).1 in
      (not-true (contains s.boxes q) parts.0, in_each (λ d. shut_beside board held room q d) parts.1)

  pub closure_found : (m : ℕ) → room s.player ≡ false → has_to_change board boxes squares ≡ true
      → list_all (λ q. shut_round board s.boxes held room q) squares ≡ true
      → ((b : ℕ) → contains boxes b ≡ true → IsReadyBox board m held room s b)
      → IsClosure board m held room s
  closure_found m out change shut ready =
      let at = λ (q : ℕ) (inside : room q ≡ true). shut_at q
      (all_pass (λ x. shut_round board s.boxes held room x) squares q shut (listed_square q inside)) in
      record {
        corral = record {
          stands = λ q member. (ready q (listed_box q member)).0;
          clear = λ q inside. (at q inside).0;
          outside = out;
          shut = λ q d inside. beside q d ((at q inside).1 d);
        };
        change = changes change;
        ready = λ b d member. (ready b (listed_box b member)).1 d;
      }

-- what holds at each place before the end holds of each member
pub each_member : (P : ℕ → Type 0) (xs : Squares) (count : ℕ) → length xs ≤ count
    → ((i x : ℕ) → i < count → slice_get xs i ≡ Some x → P x)
    → (q : ℕ) → contains xs q ≡ true → P q
each_member P xs count whole before q there =
    let (i, lt, e) = place_of_member xs q q there in
    before i q (omega (arith, lt, whole)) (slice_get_read xs (length xs) i q refl lt (sym e))

-- and where it held before a place and holds there, it holds up to it
pub one_more : (P : ℕ → Type 0) (xs : Squares) (count y : ℕ) → ((i x : ℕ) → i < count → slice_get xs i ≡ Some x → P x)
    → slice_get xs count ≡ Some y → P y
    → (i x : ℕ) → i < count + 1 → slice_get xs i ≡ Some x → P x
one_more P xs count y before here holds i x lt at = elim (cases_lt i count) [
  | inl less ↦ before i x less at
  | inr ge ↦ (let same : i ≡ count = omega (arith, lt, ge) in
      subst P (same_Some y x (sym here ∙ (ap (λ (j : ℕ). slice_get xs j) (sym same) ∙ at))) holds)
]

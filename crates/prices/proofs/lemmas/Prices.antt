-- No play that ends solved has fewer pushes than the boxes need above the tolls of the goals.
use Rattle.std.proofs.Common.{◌≡◌, ℕ, suc, ◌+◌, ◌≤◌, min, Bool, true, false, cond, nat_lt, eqb, ◌||◌, List, [], ◌∷◌}
use Rattle.std.proofs.Common.{length, refl, sym, ap, subst, ◌∙◌, arith}
use Rattle.std.proofs.lemmas.Bool.{false≢true, true≢false, eqb-true, or_parts}
use Rattle.grid.specs.declared.dir.Dir.{Dir}
use Rattle.grid.specs.declared.square.Push.{Push}
use Rattle.grid.specs.Squares.{Squares, contains, insert, remove}
use Rattle.grid.specs.Rising.{rises_from, is_rising}
use Rattle.grid.specs.Board.{Board, Scene, IsSolved, Walks, Pushes, next}
use Rattle.grid.specs.States.{IsScene}
use Rattle.grid.specs.Plays.{Play, Any, stay, walk, push}
use Rattle.grid.proofs.lemmas.Squares.{contains_head, contains-remove_out, contains-remove_parts, contains-remove_other}
use Rattle.grid.proofs.lemmas.Squares.{contains-below, contains-from, remove_out, rises_from-parts, is_rising-remove}
use Rattle.grid.proofs.lemmas.Squares.{contains_tail}
use Rattle.grid.proofs.lemmas.Steps.{scene_after_walk, scene_after_push}
use Rattle.prices.specs.Prices.{goals_of, sum_over, CanStand, IsNeed, total_need, NeedsHold, NeedsRefuse, least_of}
use Rattle.prices.specs.Prices.{TollsAreFree}
use Rattle.prices.proofs.lemmas.Goals.{contains-goals, is_rising-goals}
pub use Rattle.grid.proofs.lemmas.Squares.{contains_tail as in_tail}

-- ---- sums over squares

-- one square more adds its number
pub sum_inserted : (f : ℕ → ℕ) (xs : Squares) (r : ℕ) → contains xs r ≡ false
    → sum_over f (insert xs r) ≡ f r + sum_over f xs
sum_inserted f [] r out = refl
sum_inserted f (x ∷ xs) r out =
    let parts = or_parts (eqb x r) (contains xs r) out in
    at_head (sum_inserted f xs r parts.1) (nat_lt r x) (eqb x r) parts.0
  where
    at_head : sum_over f (insert xs r) ≡ f r + sum_over f xs → (lt eq : Bool) → eq ≡ false
        → sum_over f (cond lt (r ∷ x ∷ xs) (cond eq (x ∷ xs) (x ∷ insert xs r))) ≡ f r + (f x + sum_over f xs)
    at_head tail true eq apart = refl
    at_head tail false true apart = absurd (true≢false apart)
    at_head tail false false apart = omega (arith, tail)

-- one square less takes its number away
pub sum_put_back : (f : ℕ → ℕ) (k : ℕ) (xs : Squares) (q : ℕ) → rises_from k xs ≡ true → contains xs q ≡ true
    → sum_over f xs ≡ f q + sum_over f (remove xs q)
sum_put_back f k [] q rises here = absurd (false≢true here)
sum_put_back f k (x ∷ xs) q rises here =
    let parts = rises_from-parts k x xs rises in
    at_head (λ there. sum_put_back f (suc x) xs q parts.1 there)
    (λ same. remove_out xs q (contains-below (suc x) xs q parts.1 (omega (arith, same)))) (eqb x q) (eqb-true x q) here
  where
    at_head : (contains xs q ≡ true → sum_over f xs ≡ f q + sum_over f (remove xs q)) → (x ≡ q → remove xs q ≡ xs)
        → (eq : Bool) → (eq ≡ true → x ≡ q)
        → (eq || contains xs q) ≡ true
        → f x + sum_over f xs ≡ f q + sum_over f (cond eq (remove xs q) (x ∷ remove xs q))
    at_head tail gone true same there =
        let e = same refl in
        let a : f x ≡ f q = ap f e in
        let b : sum_over f (remove xs q) ≡ sum_over f xs = ap (λ (ys : Squares). sum_over f ys) (gone e) in
        omega (arith, a, b)
    at_head tail gone false same there = let e = tail there in omega (arith, e)

-- lesser numbers have a lesser sum
pub sum_le : (f g : ℕ → ℕ) (xs : Squares) → ((q : ℕ) → contains xs q ≡ true → f q ≤ g q) → sum_over f xs ≤ sum_over g xs
sum_le f g [] le = omega arith
sum_le f g (x ∷ xs) le =
    let here = le x (contains_head x xs) in
    let rest = sum_le f g xs (λ q there. le q (contains_tail x xs q there)) in
    omega (arith, here, rest)

-- and so have fewer squares
pub sum_within : (f : ℕ → ℕ) (k : ℕ) (xs ys : Squares) → rises_from k xs ≡ true → is_rising ys ≡ true
    → ((q : ℕ) → contains xs q ≡ true → contains ys q ≡ true) → sum_over f xs ≤ sum_over f ys
sum_within f k [] ys rises rising within = omega arith
sum_within f k (x ∷ xs) ys rises rising within =
    let parts = rises_from-parts k x xs rises in
    let rest = sum_within f (suc x) xs (remove ys x) parts.1 (is_rising-remove ys x rising)
    (λ q there. contains-remove_other ys x q (let ge = contains-from (suc x) xs q parts.1 there in
    λ e. omega (arith, e, ge)) ∙
    within q (contains_tail x xs q there)) in
    let put = sum_put_back f 0 ys x rising (within x (contains_head x xs)) in
    omega (arith, rest, put)

-- ---- a step, and a play

-- a box and the player of a state stand on floor, apart
pub can_stand : (board : Board) (s : Scene) (b : ℕ) → IsScene board s → contains s.boxes b ≡ true
    → CanStand board b s.player
can_stand board s b scene there = record {
  floor = scene.boxes b there;
  player = scene.player.0;
  apart = λ e. false≢true (sym scene.player.1 ∙ (ap (λ (x : ℕ). contains s.boxes x) e ∙ there));
}

module _ (board : Board) (toll : ℕ → ℕ) (need : ℕ → ℕ → ℕ) (is : IsNeed board toll need) where
  need_after_walk : (s t : Scene) (d : Dir) → IsScene board s → Walks board s d t
      → total_need need s ≤ total_need need t
  need_after_walk s t d scene step =
      let q = next board s.player d in
      let here : Scene = record { boxes = s.boxes; player = q } in
      let still : IsScene board here = subst (IsScene board) step.1 (scene_after_walk board s d t scene step) in
      let le = sum_le (λ b. need b s.player) (λ b. need b q) s.boxes
      (λ b there. is.walk b s.player d (can_stand board s b scene there) (can_stand board here b still there)) in
      subst (λ (x : Scene). total_need need s ≤ total_need need x) (sym step.1) le

  need_after_push : (s t : Scene) (d : Dir) → IsScene board s → Pushes board s d t
      → total_need need s ≤ suc (total_need need t)
  need_after_push s t d scene step =
      let q = next board s.player d in
      let r = next board q d in
      let floor = scene.boxes q step.0 in
      let before = sum_put_back (λ b. need b s.player) 0 s.boxes q scene.rising step.0 in
      let after = sum_inserted (λ b. need b q) (remove s.boxes q) r (contains-remove_out s.boxes q r step.1.1) in
      let ahead : CanStand board r q = record {
        floor = step.1.0;
        player = floor;
        apart = λ e. false≢true (sym step.1.1 ∙ (ap (λ (x : ℕ). contains s.boxes x) (sym e) ∙ step.0));
      } in
      let moved = is.push s.player d (can_stand board s q scene step.0) ahead in
      let others = sum_le (λ b. need b s.player) (λ b. need b q) (remove s.boxes q) (λ b there. (
      let parts = contains-remove_parts s.boxes q b there in
      is.walk b s.player d (can_stand board s b scene parts.1)
      (record { floor = scene.boxes b parts.1; player = floor; apart = parts.0 })
      )) in
      subst (λ (x : Scene). total_need need s ≤ suc (total_need need x)) (sym step.2)
      (omega (arith, before, after, moved, others))

  need_solved : (s : Scene) → IsScene board s → IsSolved board s → total_need need s ≤ sum_over toll (goals_of board)
  need_solved s scene solved =
      let pay = sum_le (λ b. need b s.player) toll s.boxes
      (λ b there. is.home b s.player (solved b there) (can_stand board s b scene there)) in
      let within = sum_within toll 0 s.boxes (goals_of board) scene.rising (is_rising-goals board)
      (λ b there. contains-goals board b ∙ solved b there) in
      omega (arith, pay, within)

  need_played : (s t : Scene) (ds : List Dir) (ps : List Push) → IsScene board s → Play board Any s ds ps t
      → IsSolved board t
      → total_need need s ≤ length ps + sum_over toll (goals_of board)
  need_played s t ds ps scene (stay ok) solved = let e = need_solved s scene solved in omega (arith, e)
  need_played s t (d ∷ ds) ps scene (walk {m = m} ok step play) solved =
      let rest = need_played m t ds ps (scene_after_walk board s d m scene step) play solved in
      let le = need_after_walk s m d scene step in
      omega (arith, rest, le)
  need_played s t (d ∷ ds) (p ∷ ps) scene (push {m = m} ok step play) solved =
      let rest = need_played m t ds ps (scene_after_push board s d m scene step) play solved in
      let le = need_after_push s m d scene step in
      omega (arith, rest, le)

pub needs_hold : (board : Board) → NeedsHold board
needs_hold board toll need is s t ds ps scene play solved = need_played board toll need is s t ds ps scene play solved

pub needs_refuse : (board : Board) → NeedsRefuse board
needs_refuse board toll need m s is scene more ds ps t play solved =
    let le = need_played board toll need is s t ds ps scene play solved in
    omega (arith, more, le)

-- ---- the least over the goals

pub least_le : (cost : ℕ → ℕ) (cap : ℕ) (gs : List ℕ) (g : ℕ) → contains gs g ≡ true → least_of cost cap gs ≤ cost g
least_le cost cap [] g there = absurd (false≢true there)
least_le cost cap (x ∷ gs) g there = by_eq (eqb x g) (eqb-true x g) (least_le cost cap gs g) there
  where
    by_eq : (b : Bool) → (b ≡ true → x ≡ g) → (contains gs g ≡ true → least_of cost cap gs ≤ cost g)
        → (b || contains gs g) ≡ true
        → min (cost x) (least_of cost cap gs) ≤ cost g
    by_eq true same tail h = let e : cost x ≡ cost g = ap cost (same refl) in omega (arith, e)
    by_eq false same tail h = let le = tail h in omega (arith, le)

least_less : (n : ℕ) (cost other : ℕ → ℕ) (cap : ℕ) (gs : List ℕ) → ((g : ℕ) → cost g ≤ n + other g)
    → least_of cost cap gs ≤ n + least_of other cap gs
least_less n cost other cap [] le = omega arith
least_less n cost other cap (x ∷ gs) le =
    let here = le x in
    let rest = least_less n cost other cap gs le in
    omega (arith, here, rest)

pub tolls_are_free : (board : Board) → TollsAreFree board
tolls_are_free board far toll cap are = record {
  home = λ g p goal stands. (
      let le = least_le (λ x. far x g p + toll x) cap (goals_of board) g (contains-goals board g ∙ goal) in
      let none = are.home g p goal stands in
      omega (arith, le, none)
      );
  walk = λ b p d here there. (
      let q = next board p d in
      let le = least_less 0 (λ x. far x b p + toll x) (λ x. far x b q + toll x) cap (goals_of board)
      (λ x. (let e = are.walk x b p d here there in omega (arith, e))) in
      omega (arith, le)
      );
  push = λ p d here ahead. (
      let q = next board p d in
      let r = next board q d in
      let le = least_less 1 (λ x. far x q p + toll x) (λ x. far x r q + toll x) cap (goals_of board)
      (λ x. (let e = are.push x p d here ahead in omega (arith, e))) in
      omega (arith, le)
      );
}

-- needs are lower bounds
pub ruleset bounds = (needs_hold, needs_refuse, tolls_are_free)

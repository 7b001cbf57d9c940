-- The least numbers of pushes of lone boxes, and what a push does to their sum.
use Rattle.std.proofs.Common.{◌≡◌, ◌<◌, ◌≤◌, ◌+◌, ℕ, zero, suc, Bool, true, false, cond, nat_lt, eqb, ◌||◌, List, [], ◌∷◌, length, refl, sym, ap, subst, ◌∙◌}
use Rattle.std.proofs.Common.{◌⊎◌, inl, inr, arith}
use Rattle.std.proofs.lemmas.Bool.{false≢true, true≢false, cases_lt, eqb-true, or_parts, or_right}
use Rattle.grid.specs.declared.dir.Dir.{Dir}
use Rattle.grid.specs.declared.dir.Dir.TheVariants.{D, L, R, U}
use Rattle.grid.specs.declared.square.Push.{Push}
use Rattle.grid.specs.Squares.{Squares, contains, insert, remove}
use Rattle.grid.specs.Rising.{rises_from}
use Rattle.grid.specs.Board.{Board, Scene, IsSolved, is_wall, is_goal, next, opposite}
use Rattle.grid.specs.States.{IsScene}
use Rattle.grid.specs.Plays.{Play, Any, stay, walk, push}
use Rattle.grid.proofs.lemmas.Squares.{contains_head, contains-remove_out, contains-below, remove_out, rises_from-parts}
use Rattle.grid.proofs.lemmas.Steps.{next_back, push_boxes, scene_after_walk, scene_after_push}
use Rattle.doom.specs.Deadlocks.{Live, home, onward}
use Rattle.doom.specs.Bounds.{IsFar, IsLower, pushes_of}
use Rattle.doom.specs.Sums.{NeedAtLeast, HaveOneSum, HaveDead, LessenByOne, PushLessensByOne, SolvedNeedNone}
use Rattle.doom.specs.inside.Pulling.{HasWay}
use Rattle.doom.specs.Lost.{AreLost}
use Rattle.doom.proofs.lemmas.Soundness.{dead_loses_box}

-- and so boxes have one sum
pub lower_once : (board : Board) → HaveOneSum board
lower_once board [] m n one other = one ∙ sym other
lower_once board (q ∷ qs) m n (a, b, far, rest, sum) (a', b', far', rest', sum') =
    grind (arith, lower_once board qs b b' rest rest')

-- ---- there is a way of so many pushes, or there is none

is_open : (b : Bool) → (b ≡ false) ⊎ ¬ (b ≡ false)
is_open true = inr true≢false
is_open false = inl refl

both : {A B : Type 0} → A ⊎ ¬ A → B ⊎ ¬ B → (A × B) ⊎ ¬ (A × B)
both (inl a) (inl b) = inl (a, b)
both (inl a) (inr never) = inr (λ p. never p.1)
both (inr never) b = inr (λ p. never p.0)

-- a way that begins with a push in the direction
abbrev FirstPush : Board → ℕ → ℕ → Dir → Type 0
FirstPush board n q d =
    (is_wall board q ≡ false) ×
    ((is_wall board (next board q d) ≡ false) × ((is_wall board (next board q (opposite d)) ≡ false) × HasWay board (next board q d) n))

first_push : (board : Board) (n q : ℕ) (d : Dir) → HasWay board (next board q d) n ⊎ ¬ (HasWay board (next board q d) n) → FirstPush board n q d ⊎
    ¬ (FirstPush board n q d)
first_push board n q d rest =
    both (is_open (is_wall board q)) (both (is_open (is_wall board (next board q d))) (both (is_open (is_wall board (next board q (opposite d)))) rest))

pushed : (board : Board) (n q : ℕ) (d : Dir) → FirstPush board n q d → HasWay board q (suc n)
pushed board n q d (here, (ahead, (behind, (way, count)))) = (onward d here ahead behind way, ap suc count)

by_first : (board : Board) (n q : ℕ) → ((d : Dir) → ¬ (FirstPush board n q d)) → ¬ (HasWay board q (suc n))
by_first board n q none (home goal, count) = absurd (omega (arith, count))
by_first board n q none (onward d here ahead behind way, count) = none d (here, (ahead, (behind, (way, omega (arith, count)))))

ways : (board : Board) (n q : ℕ) → HasWay board q n ⊎ ¬ (HasWay board q n)
ways board zero q = by_goal (is_goal board q) refl
  where
    no_home : is_goal board q ≡ false → HasWay board q 0 → ⊥
    no_home none (home goal, count) = false≢true (sym none ∙ goal)
    no_home none (onward d here ahead behind way, count) = absurd (omega (arith, count))

    by_goal : (b : Bool) → is_goal board q ≡ b → HasWay board q 0 ⊎ ¬ (HasWay board q 0)
    by_goal true goal = inl (home goal, refl)
    by_goal false none = inr (λ way. no_home none way)
ways board (suc n) q =
    elim (first_push board n q D (ways board n (next board q D))) [
      | inl way ↦ inl (pushed board n q D way)
      | inr down ↦ elim (first_push board n q L (ways board n (next board q L))) [
        | inl way ↦ inl (pushed board n q L way)
        | inr left ↦ elim (first_push board n q R (ways board n (next board q R))) [
          | inl way ↦ inl (pushed board n q R way)
          | inr right ↦ elim (first_push board n q U (ways board n (next board q U))) [
            | inl way ↦ inl (pushed board n q U way)
            | inr above ↦ inr (by_first board n q (none down left right above))
          ]
        ]
      ]
    ]
  where
    none : ¬ (FirstPush board n q D) → ¬ (FirstPush board n q L) → ¬ (FirstPush board n q R) → ¬ (FirstPush board n q U) → (d : Dir) → ¬ (FirstPush board n q d)
    none down left right above D = down
    none down left right above L = left
    none down left right above R = right
    none down left right above U = above

-- where no way has fewer pushes than k, each has k or more
least : (board : Board) (q k : ℕ) → ((j : ℕ) → j < k → ¬ (HasWay board q j)) → (way : Live board q) → k ≤ pushes_of way
least board q k none way = elim (cases_lt (pushes_of way) k) [
  | inl less ↦ absurd (none (pushes_of way) less (way, refl))
  | inr le ↦ le
]

-- the first of the numbers from k on that is that of a way
least_from : (board : Board) (q more k : ℕ) → ((j : ℕ) → j < k → ¬ (HasWay board q j)) → HasWay board q (k + more) → (m : ℕ) × IsFar board q m × (m ≤ k + more)
least_from board q zero k none there = by_way (ways board k q)
  where
    by_way : HasWay board q k ⊎ ¬ (HasWay board q k) → (m : ℕ) × IsFar board q m × (m ≤ k + 0)
    by_way (inl here) = (k, (here, least board q k none), omega arith)
    by_way (inr out) = absurd (out (subst (HasWay board q) (let e : k + 0 ≡ k = omega arith in e) there))
least_from board q (suc more) k none there =
    by_way (λ later. least_from board q more (suc k) later (subst (HasWay board q) (let e : k + suc more ≡ suc k + more = omega arith in e) there))
    (ways board k q)
  where
    later : ¬ (HasWay board q k) → (j : ℕ) → j < suc k → ¬ (HasWay board q j)
    later out j lt = elim (cases_lt j k) [
      | inl less ↦ none j less
      | inr le ↦ λ way. out (subst (HasWay board q) (let e : j ≡ k = omega (arith, lt, le) in e) way)
    ]

    by_way : (((j : ℕ) → j < suc k → ¬ (HasWay board q j)) → (m : ℕ) × IsFar board q m × (m ≤ suc k + more)) → HasWay board q k ⊎ ¬ (HasWay board q k) →
        (m : ℕ) × IsFar board q m × (m ≤ k + suc more)
    by_way onwards (inl here) = (k, (here, least board q k none), omega arith)
    by_way onwards (inr out) = let (m, far, le) = onwards (later out) in (m, far, omega (arith, le))

-- a square with a way has a least number, no more than that of the way
pub nearest : (board : Board) (q n : ℕ) → HasWay board q n → (m : ℕ) × IsFar board q m × (m ≤ n)
nearest board q n way =
    let same : n ≡ 0 + n = omega arith in
    let (m, far, le) = least_from board q n 0 (λ j lt. absurd (omega arith)) (subst (HasWay board q) same way) in
    (m, far, omega (arith, le))

-- ---- one box more or less

-- the sum with one box more
lower_inserted : (board : Board) (xs : Squares) (r n : ℕ) → contains xs r ≡ false → IsLower board (insert xs r) n → (a b : ℕ) × IsFar board r a ×
    IsLower board xs b × (n ≡ a + b)
lower_inserted board [] r n out lower = lower
lower_inserted board (x ∷ xs) r n out lower =
    let parts = or_parts (eqb x r) (contains xs r) out in
    at_head (λ b. lower_inserted board xs r b parts.1) (nat_lt r x) (eqb x r) parts.0 lower
  where
    at_head : ((b : ℕ) → IsLower board (insert xs r) b → (c e : ℕ) × IsFar board r c × IsLower board xs e × (b ≡ c + e)) → (lt eq : Bool) → eq ≡ false →
        IsLower board (cond lt (r ∷ x ∷ xs) (cond eq (x ∷ xs) (x ∷ insert xs r))) n → (a b : ℕ) × IsFar board r a × IsLower board (x ∷ xs) b × (n ≡ a + b)
    at_head tail true eq apart (a, b, far, rest, sum) = (a, b, far, rest, sum)
    at_head tail false true apart all = absurd (true≢false apart)
    at_head tail false false apart (a, b, far, rest, sum) =
        let (c, e, there, left, split) = tail b rest in
        (c, a + e, there, (a, e, far, left, refl), omega (arith, sum, split))

-- the sum where one box is put back
lower_put_back : (board : Board) (k : ℕ) (xs : Squares) (q a b : ℕ) → rises_from k xs ≡ true → contains xs q ≡ true → IsFar board q a →
    IsLower board (remove xs q) b → IsLower board xs (a + b)
lower_put_back board k [] q a b rises here far lower = absurd (false≢true here)
lower_put_back board k (x ∷ xs) q a b rises here far lower =
    let parts = rises_from-parts k x xs rises in
    at_head (λ there e. lower_put_back board (suc x) xs q a e parts.1 there far)
    (λ same. remove_out xs q (contains-below (suc x) xs q parts.1 (omega (arith, same)))) (eqb x q) (eqb-true x q) here lower
  where
    at_head : (contains xs q ≡ true → (e : ℕ) → IsLower board (remove xs q) e → IsLower board xs (a + e)) → (x ≡ q → remove xs q ≡ xs) → (eq : Bool) →
        (eq ≡ true → x ≡ q) → (eq || contains xs q) ≡ true → IsLower board (cond eq (remove xs q) (x ∷ remove xs q)) b → IsLower board (x ∷ xs) (a + b)
    at_head tail gone true same there rest =
        let e = same refl in
        (a, b, subst (λ y. IsFar board y a) (sym e) far, subst (λ ys. IsLower board ys b) (gone e) rest, refl)
    at_head tail gone false same there (c, e, near, rest, sum) = (c, a + e, near, tail there e rest, omega (arith, sum))

-- ---- a push, and a play

pub push_lessens : (board : Board) → PushLessensByOne board
push_lessens board s t d m scene pushes lower =
    let q = next board s.player d in
    let r = next board q d in
    let out = contains-remove_out s.boxes q r pushes.1.1 in
    let (a, b, far, rest, sum) = lower_inserted board (remove s.boxes q) r m out (subst (λ ys. IsLower board ys m) (push_boxes board s d t pushes) lower) in
    let box = scene.boxes q pushes.0 in
    let back = next_back board s.player d scene.player.0 box in
    let behind : is_wall board (next board q (opposite d)) ≡ false = ap (is_wall board) back ∙ scene.player.0 in
    let way : HasWay board q (suc a) = (onward d box pushes.1.0 behind far.0.0, ap suc far.0.1) in
    let (n, near, le) = nearest board q (suc a) way in
    (n + b, lower_put_back board 0 s.boxes q n b scene.rising pushes.0 near rest, omega (arith, le, sum))

goals_need_none : (board : Board) (xs : Squares) → ((q : ℕ) → contains xs q ≡ true → is_goal board q ≡ true) → IsLower board xs 0
goals_need_none board [] goals = refl
goals_need_none board (x ∷ xs) goals =
    (0, 0, ((home (goals x (contains_head x xs)), refl), λ way. omega arith), goals_need_none board xs (λ q there. goals q (or_right (eqb x q) (contains xs q) there)), refl)

pub solved_need_none : (board : Board) → SolvedNeedNone board
solved_need_none board s solved = goals_need_none board s.boxes solved

-- a play that ends solved has as many pushes as its first boxes need
played : (board : Board) (s t : Scene) (ds : List Dir) (ps : List Push) → IsScene board s → Play board Any s ds ps t → IsSolved board t → (n : ℕ) ×
    IsLower board s.boxes n × (n ≤ length ps)
played board s t ds ps scene (stay ok) solved = (0, solved_need_none board s solved, omega arith)
played board s t (d ∷ ds) ps scene (walk {m = m} ok step play) solved =
    grind (arith, played board m t ds ps (scene_after_walk board s d m scene step) play solved)
played board s t (d ∷ ds) (p ∷ ps) scene (push {m = m} ok step play) solved =
    grind (arith, played board m t ds ps (scene_after_push board s d m scene step) play solved, scene_after_push, push_lessens)

pub lower_needed : (board : Board) (boxes : Squares) (n : ℕ) → IsLower board boxes n → NeedAtLeast board boxes n
lower_needed board boxes n lower s t ds ps scene same play solved = grind (arith, played, lower_once)

pub lower_lessened : (board : Board) (boxes : Squares) (n : ℕ) → IsLower board boxes n → LessenByOne board boxes n
lower_lessened board boxes n lower s t d m scene same pushes after = grind (arith, push_lessens, lower_once)

pub dead_are_lost : (board : Board) (boxes : Squares) → HaveDead board boxes → AreLost board boxes
dead_are_lost board boxes (q, there, dead) s scene same = dead_loses_box board q dead s scene (ap (λ ys. contains ys q) same ∙ there)

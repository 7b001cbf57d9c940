-- Each push changes the sum of rows and columns of the boxes by one.
use Rattle.std.proofs.Common.{◌≡◌, ◌≢◌, ℕ, zero, suc, ◌+◌, ◌*◌, ◌/◌, ◌%◌, ◌≤◌, ◌<◌, ◌⊎◌, Bool, true, false, not, cond, eqb, ltb, List, [], ◌∷◌, length, refl}
use Rattle.std.proofs.Common.{sym, ap, subst, ◌∙◌, inl, inr, arith}
use Rattle.std.proofs.Math.Nat.{add-div_right, add-mod_right, mul-add-div_right, mod-lt, div-eq_of_lt}
use Rattle.std.proofs.lemmas.Nat.{div-add-mod'}
use Rattle.std.proofs.lemmas.Bool.{false≢true, true≢false, eqb-false}
use Rattle.grid.specs.declared.dir.Dir.{Dir}
use Rattle.grid.specs.declared.dir.Dir.TheVariants.{D, L, R, U}
use Rattle.grid.specs.declared.square.Push.{Push}
use Rattle.grid.specs.Squares.{Squares, insert, remove}
use Rattle.grid.specs.Board.{Board, Scene, Pushes, is_wall, next, start}
use Rattle.grid.specs.States.{IsScene, FitsLevel}
use Rattle.grid.specs.Plays.{Play, Any, stay, walk, push}
use Rattle.grid.proofs.lemmas.Levels.{start_fits}
use Rattle.grid.proofs.lemmas.Plays.{length-play, play_scene}
use Rattle.grid.proofs.lemmas.Squares.{contains-remove_out}
use Rattle.grid.proofs.lemmas.Steps.{next_back, scene_after_walk, scene_after_push, wall_at_end, walk_boxes}
use Rattle.prover.specs.Parity.{is_odd, SolutionsAlike, TwoLessDecide, FewDecide}
use Rattle.prices.specs.Prices.{sum_over}
use Rattle.prices.proofs.lemmas.Solved.{solved_are_goals}
use Rattle.prices.proofs.lemmas.Prices.{sum_inserted, sum_put_back}
use Rattle.prover.proofs.Columns.{column_before}

-- ---- odd and even

pub not_twice : (b : Bool) → not (not b) ≡ b
not_twice true = refl
not_twice false = refl

not_same : (b : Bool) → b ≡ not b → ⊥
not_same true e = true≢false e
not_same false e = false≢true e

odd_more : (a c : ℕ) → is_odd (a + suc c) ≡ not (is_odd (a + c))
odd_more a c = let e : a + suc c ≡ suc (a + c) = omega arith in ap is_odd e

odd_cancel : (a b c : ℕ) → is_odd (a + c) ≡ is_odd (b + c) → is_odd a ≡ is_odd b
odd_cancel a b zero same =
    let e : a + zero ≡ a = omega arith in
    let f : b + zero ≡ b = omega arith in
    sym (ap is_odd e) ∙ (same ∙ ap is_odd f)
odd_cancel a b (suc c) same = odd_cancel a b c (sym (not_twice (is_odd (a + c))) ∙
    (ap not (sym (odd_more a c) ∙ (same ∙ odd_more b c)) ∙ not_twice (is_odd (b + c))))

-- ---- squares next to one another

-- the row and the column of a square
abbrev pub row_and_column : Board → ℕ → ℕ
row_and_column board q = q / board.cols + q % board.cols

abbrev Beside : ℕ → ℕ → Type 0
Beside a b = (b ≡ suc a) ⊎ (a ≡ suc b)

turned : {a b : ℕ} → Beside a b → Beside b a
turned (inl e) = inr e
turned (inr e) = inl e

below : (board : Board) (q : ℕ) → 1 ≤ board.cols → row_and_column board (q + board.cols) ≡ suc (row_and_column board q)
below board q some =
    let rows : (q + board.cols) / board.cols ≡ q / board.cols + 1 = add-div_right q (omega (arith, some)) in
    let columns = add-mod_right q board.cols in
    omega (arith, rows, columns)

same_row : (q cols : ℕ) → 1 ≤ cols → suc q % cols ≡ q % cols + 1 → suc q / cols ≡ q / cols
same_row q cols some column =
    let parts = div-add-mod' q cols in
    let whole : suc q ≡ q / cols * cols + (q % cols + 1) = omega (arith, parts) in
    let less : suc q % cols < cols = mod-lt (suc q) (omega (arith, some)) in
    let low : q % cols + 1 < cols = omega (arith, less, column) in
    let none : (q % cols + 1) / cols ≡ 0 = div-eq_of_lt low in
    let cut : (q / cols * cols + (q % cols + 1)) / cols ≡ q / cols + (q % cols + 1) / cols =
    mul-add-div_right (omega (arith, some)) (q / cols) (q % cols + 1) in
    ap (λ (n : ℕ). n / cols) whole ∙ (cut ∙ omega (arith, none))

after : (board : Board) (q : ℕ) → 1 ≤ board.cols → suc q % board.cols ≢ 0 → row_and_column board (suc q) ≡ suc (row_and_column board q)
after board q some more =
    let column = column_before q board.cols some (omega (arith, more)) in
    let rows = same_row q board.cols some column in
    omega (arith, rows, column)

down_by : (board : Board) (q : ℕ) (b : Bool) → 1 ≤ board.cols → is_wall board (cond b (q + board.cols) (length board.cells)) ≡ false →
    Beside (row_and_column board q) (row_and_column board (cond b (q + board.cols) (length board.cells)))
down_by board q true some ahead = inl (below board q some)
down_by board q false some ahead = absurd (true≢false (sym (wall_at_end board) ∙ ahead))

right_by : (board : Board) (q : ℕ) (b : Bool) → eqb (suc q % board.cols) 0 ≡ b → 1 ≤ board.cols → is_wall board (cond b (length board.cells) (suc q)) ≡ false →
    Beside (row_and_column board q) (row_and_column board (cond b (length board.cells) (suc q)))
right_by board q true test some ahead = absurd (true≢false (sym (wall_at_end board) ∙ ahead))
right_by board q false test some ahead = inl (after board q some (eqb-false (suc q % board.cols) 0 test))

down_beside : (board : Board) (q : ℕ) → 1 ≤ board.cols → is_wall board (next board q D) ≡ false →
    Beside (row_and_column board q) (row_and_column board (next board q D))
unfolding next
down_beside board q some ahead = down_by board q (ltb (q + board.cols) (length board.cells)) some ahead

right_beside : (board : Board) (q : ℕ) → 1 ≤ board.cols → is_wall board (next board q R) ≡ false →
    Beside (row_and_column board q) (row_and_column board (next board q R))
unfolding next
right_beside board q some ahead = right_by board q (eqb (suc q % board.cols) 0) refl some ahead

-- the other two directions come back
back_beside : (board : Board) (q r : ℕ) (d : Dir) → next board r d ≡ q → Beside (row_and_column board r) (row_and_column board (next board r d)) →
    Beside (row_and_column board q) (row_and_column board r)
back_beside board q r d e beside = turned (subst (λ (x : ℕ). Beside (row_and_column board r) (row_and_column board x)) e beside)

next_beside : (board : Board) (q : ℕ) (d : Dir) → 1 ≤ board.cols → is_wall board q ≡ false → is_wall board (next board q d) ≡ false →
    Beside (row_and_column board q) (row_and_column board (next board q d))
next_beside board q D some here ahead = down_beside board q some ahead
next_beside board q R some here ahead = right_beside board q some ahead
next_beside board q L some here ahead =
    let back = next_back board q L here ahead in
    back_beside board q (next board q L) R back (right_beside board (next board q L) some (ap (is_wall board) back ∙ here))
next_beside board q U some here ahead =
    let back = next_back board q U here ahead in
    back_beside board q (next board q U) D back (down_beside board (next board q U) some (ap (is_wall board) back ∙ here))

-- ---- a push, and a play

abbrev pub sum_of : Board → Squares → ℕ
sum_of board xs = sum_over (row_and_column board) xs

pushed_beside : (board : Board) (s t : Scene) (d : Dir) → 1 ≤ board.cols → IsScene board s → Pushes board s d t →
    Beside (sum_of board s.boxes) (sum_of board t.boxes)
pushed_beside board s t d some scene step =
    subst (λ (x : Scene). Beside (sum_of board s.boxes) (sum_of board x.boxes)) (sym step.2) (by (next_beside board q d some (scene.boxes q step.0) step.1.0))
  where
    q : ℕ
    q = next board s.player d

    r : ℕ
    r = next board q d

    by : Beside (row_and_column board q) (row_and_column board r) → Beside (sum_of board s.boxes) (sum_of board (insert (remove s.boxes q) r))
    by (inl e) =
        let before = sum_put_back (row_and_column board) 0 s.boxes q scene.rising step.0 in
        let later = sum_inserted (row_and_column board) (remove s.boxes q) r (contains-remove_out s.boxes q r step.1.1) in
        inl (omega (arith, before, later, e))
    by (inr e) =
        let before = sum_put_back (row_and_column board) 0 s.boxes q scene.rising step.0 in
        let later = sum_inserted (row_and_column board) (remove s.boxes q) r (contains-remove_out s.boxes q r step.1.1) in
        inr (omega (arith, before, later, e))

odd_step : (n a b c : ℕ) → Beside a b → is_odd c ≡ is_odd (n + b) → is_odd c ≡ is_odd (suc n + a)
odd_step n a b c (inl e) same = same ∙ (let f : n + b ≡ suc n + a = omega (arith, e) in ap is_odd f)
odd_step n a b c (inr e) same = same ∙ (sym (not_twice (is_odd (n + b))) ∙ (let f : suc (suc (n + b)) ≡ suc n + a = omega (arith, e) in ap is_odd f))

pub odd_played : (board : Board) (s t : Scene) (ds : List Dir) (ps : List Push) → 1 ≤ board.cols → IsScene board s → Play board Any s ds ps t →
    is_odd (sum_of board t.boxes) ≡ is_odd (length ps + sum_of board s.boxes)
odd_played board s t ds ps some scene (stay ok) = let e : sum_of board s.boxes ≡ 0 + sum_of board s.boxes = omega arith in ap is_odd e
odd_played board s t (d ∷ ds) ps some scene (walk {m = m} ok step play) =
    odd_played board m t ds ps some (scene_after_walk board s d m scene step) play ∙
    ap (λ (xs : Squares). is_odd (length ps + sum_of board xs)) (walk_boxes board s d m step)
odd_played board s t (d ∷ ds) (p ∷ ps) some scene (push {m = m} ok step play) =
    odd_step (length ps) (sum_of board s.boxes) (sum_of board m.boxes) (sum_of board t.boxes) (pushed_beside board s m d some scene step)
    (odd_played board m t ds ps some (scene_after_push board s d m scene step) play)

-- ---- two solutions

pub solutions_alike : (board : Board) → SolutionsAlike board
solutions_alike board level s t u ds es ps qs fits one end other end' =
    let fits_t : FitsLevel board t = record { scene = play_scene fits.scene one; boxes = length-play fits.scene one ∙ fits.boxes } in
    let fits_u : FitsLevel board u = record { scene = play_scene fits.scene other; boxes = length-play fits.scene other ∙ fits.boxes } in
    let a = odd_played board s t ds ps level.columns fits.scene one in
    let b = odd_played board s u es qs level.columns fits.scene other in
    let same : t.boxes ≡ u.boxes = solved_are_goals board t level fits_t end ∙ sym (solved_are_goals board u level fits_u end') in
    odd_cancel (length ps) (length qs) (sum_of board s.boxes) (sym a ∙ (ap (λ (xs : Squares). is_odd (sum_of board xs)) same ∙ b))

pub two_less_decide : (board : Board) → TwoLessDecide board
two_less_decide board level m (ds, ps, (t, one, end), long) none es qs (u, other, end') =
    by_odd (none es qs u other end') (solutions_alike board level (start board) t u ds es ps qs (start_fits board level) one end other end')
  where
    not_between : length qs ≡ suc m → is_odd (length ps) ≡ is_odd (length qs) → ⊥
    not_between e odd = not_same (is_odd (suc m)) (sym (ap is_odd e) ∙ (sym odd ∙ ap is_odd long))

    by_odd : m < length qs → is_odd (length ps) ≡ is_odd (length qs) → suc (suc m) ≤ length qs
    by_odd more odd =
        let apart : length qs ≢ suc m = λ e. not_between e odd in
        omega (arith, more, apart)

pub few_decide : (board : Board) → FewDecide board
few_decide board level zero some few es qs solution = omega arith
few_decide board level (suc (suc n)) some few es qs solution = absurd (omega (arith, few))
few_decide board level (suc zero) (ds, ps, (t, one, end), long) few es [] (u, other, end') =
    absurd (true≢false (ap is_odd (sym long) ∙ solutions_alike board level (start board) t u ds es ps [] (start_fits board level) one end other end'))
few_decide board level (suc zero) some few es (q ∷ qs) solution = omega arith

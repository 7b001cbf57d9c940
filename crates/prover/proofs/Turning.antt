-- The parity of all solutions is that of the squares that turn it.
use Rattle.std.proofs.Common.{◌≡◌, ◌≢◌, ℕ, zero, suc, ◌+◌, ◌%◌, ◌==◌, Bool, true, false, not, cond, ◌&&◌, List, [], ◌∷◌, length, refl, sym, ap}
use Rattle.std.proofs.Common.{◌∙◌, arith}
use Rattle.std.proofs.lemmas.Bool.{true≢false}
use Rattle.std.specs.Prelude.{slice_index_or}
use mathlib.Core.Bool.{beq}
use Rattle.grid.specs.declared.cell.Cell.{Cell}
use Rattle.grid.specs.declared.cell.Cell.TheVariants.{Wall}
use Rattle.grid.specs.Squares.{Squares, places_from}
use Rattle.grid.specs.Board.{Board, box_cell, goal_cell, is_goal, start}
use Rattle.grid.specs.Lawful.{IsLevel}
use Rattle.grid.specs.States.{FitsLevel, has_box}
use Rattle.grid.proofs.lemmas.Levels.{start_fits}
use Rattle.grid.proofs.lemmas.Plays.{length-play, play_scene}
use Rattle.prices.specs.Prices.{goals_of}
use Rattle.prices.proofs.lemmas.Solved.{solved_are_goals}
use Rattle.prover.specs.Parity.{AreOdd, is_odd}
use Rattle.prover.specs.inside.Turning.{differ, odd_below, turns_parity}
use Rattle.prover.proofs.lemmas.Parity.{not_twice, odd_played, row_and_column, sum_of}

-- ---- sums

not_differ : (a b : Bool) → not (differ a b) ≡ differ (not a) b
not_differ true b = not_twice b
not_differ false b = refl

differ_then : (a b c : Bool) → differ (differ a b) c ≡ differ a (differ b c)
differ_then true b c = sym (not_differ b c)
differ_then false b c = refl

odd_sum : (a b : ℕ) → is_odd (a + b) ≡ differ (is_odd a) (is_odd b)
odd_sum zero b = let e : zero + b ≡ b = omega arith in ap is_odd e
odd_sum (suc a) b = let e : suc a + b ≡ suc (a + b) = omega arith in
    ap is_odd e ∙ (ap not (odd_sum a b) ∙ not_differ (is_odd a) (is_odd b))

-- the remainder tells
pub odd_remainder : (n : ℕ) → ((n % 2) == 1) ≡ is_odd n
odd_remainder zero = refl
odd_remainder (suc zero) = refl
odd_remainder (suc (suc n)) =
    let e : suc (suc n) % 2 ≡ n % 2 = omega arith in
    ap (λ (k : ℕ). k == 1) e ∙ (odd_remainder n ∙ sym (not_twice (is_odd n)))

unlike : (b x : Bool) → beq x b ≡ false → x ≡ b → ⊥
unlike true true test same = true≢false test
unlike true false test same = true≢false (sym same)
unlike false true test same = true≢false same
unlike false false test same = true≢false test

-- numbers whose parities differ are not the same
pub parity_apart : (odd : Bool) (k n : ℕ) → beq ((k % 2) == 1) odd ≡ false → is_odd n ≡ odd → k ≢ n
parity_apart odd k n test is same = unlike odd ((k % 2) == 1) test (odd_remainder k ∙ (ap is_odd same ∙ is))

-- ---- squares

-- a square's sum counts as often as it has a box and a goal
counted : (b g r : Bool) (f B G : ℕ) → is_odd f ≡ r →
    differ (differ b g && r) (is_odd (B + G)) ≡ is_odd (cond b (f + B) B + cond g (f + G) G)
counted false false r f B G odd = refl
counted true false r f B G odd =
    let e : (f + B) + G ≡ f + (B + G) = omega arith in
    sym (ap is_odd e ∙ (odd_sum f (B + G) ∙ ap (λ (x : Bool). differ x (is_odd (B + G))) odd))
counted false true r f B G odd =
    let e : B + (f + G) ≡ f + (B + G) = omega arith in
    sym (ap is_odd e ∙ (odd_sum f (B + G) ∙ ap (λ (x : Bool). differ x (is_odd (B + G))) odd))
counted true true r f B G odd =
    let e : (f + B) + (f + G) ≡ f + (f + (B + G)) = omega arith in
    sym (ap is_odd e ∙ (odd_sum f (f + (B + G)) ∙ (ap (differ (is_odd f)) (odd_sum f (B + G)) ∙ twice (is_odd f) (is_odd (B + G)))))
  where
    twice : (a x : Bool) → differ a (differ a x) ≡ x
    twice true x = not_twice x
    twice false x = refl

sum_here : (board : Board) (b : Bool) (k : ℕ) (xs : Squares) →
    sum_of board (cond b (k ∷ xs) xs) ≡ cond b (row_and_column board k + sum_of board xs) (sum_of board xs)
sum_here board true k xs = refl
sum_here board false k xs = refl

turns_at : (board : Board) (k : ℕ) (c : Cell) → c ≡ slice_index_or board.cells k Wall →
    turns_parity board k ≡ (differ (box_cell c) (goal_cell c) && is_odd (row_and_column board k))
unfolding has_box is_goal
turns_at board k c is = ap (λ (z : Cell). differ (box_cell z) (goal_cell z) && is_odd (row_and_column board k)) (sym is)

-- the squares from k on turn the parity as the sums of their boxes and goals do
odd_from : (board : Board) (k : ℕ) (cs : List Cell) → ((i : ℕ) → slice_index_or cs i Wall ≡ slice_index_or board.cells (k + i) Wall) →
    odd_below board (k + length cs) ≡
    differ (odd_below board k) (is_odd (sum_of board (places_from box_cell k cs) + sum_of board (places_from goal_cell k cs)))
odd_from board k [] same =
    let e : k + 0 ≡ k = omega arith in ap (odd_below board) e ∙ by (odd_below board k)
  where
    by : (o : Bool) → o ≡ differ o false
    by true = refl
    by false = refl
odd_from board k (c ∷ cs) same =
    let e : k + length (c ∷ cs) ≡ suc k + length cs = omega arith in
    let f : k + 0 ≡ k = omega arith in
    let here = turns_at board k c (same 0 ∙ ap (λ (n : ℕ). slice_index_or board.cells n Wall) f) in
    let rest = odd_from board (suc k) cs (λ i. let g : k + suc i ≡ suc k + i = omega arith in same (suc i) ∙ ap (λ (n : ℕ). slice_index_or board.cells n Wall) g) in
    let o = odd_below board k in
    let bs = places_from box_cell (suc k) cs in
    let gs = places_from goal_cell (suc k) cs in
    let sums = ap (λ (n : ℕ). n + sum_of board (cond (goal_cell c) (k ∷ gs) gs)) (sum_here board (box_cell c) k bs) ∙
    ap (λ (n : ℕ). cond (box_cell c) (row_and_column board k + sum_of board bs) (sum_of board bs) + n) (sum_here board (goal_cell c) k gs) in
    ap (odd_below board) e ∙ (rest ∙ (differ_then o (turns_parity board k) (is_odd (sum_of board bs + sum_of board gs)) ∙
    ap (differ o) (ap (λ (t : Bool). differ t (is_odd (sum_of board bs + sum_of board gs))) here ∙
    (counted (box_cell c) (goal_cell c) (is_odd (row_and_column board k)) (row_and_column board k) (sum_of board bs) (sum_of board gs) refl ∙
    sym (ap is_odd sums)))))

-- ---- solutions

start_boxes_are : (board : Board) → (start board).boxes ≡ places_from box_cell 0 board.cells
unfolding start
start_boxes_are board = refl

pub all_odd : (board : Board) → IsLevel board → AreOdd board (odd_below board (length board.cells))
all_odd board level pushes (ds, ps, (t, one, end), long) =
    let fits = start_fits board level in
    let fits_t : FitsLevel board t = record { scene = play_scene fits.scene one; boxes = length-play fits.scene one ∙ fits.boxes } in
    let goals : sum_of board t.boxes ≡ sum_of board (goals_of board) = ap (sum_of board) (solved_are_goals board t level fits_t end) in
    let boxes : sum_of board (start board).boxes ≡ sum_of board (places_from box_cell 0 board.cells) = ap (sum_of board) (start_boxes_are board) in
    let played = odd_played board (start board) t ds ps level.columns fits.scene one in
    let P = is_odd (length ps) in
    let B = sum_of board (places_from box_cell 0 board.cells) in
    let G = sum_of board (goals_of board) in
    let sums : is_odd G ≡ differ P (is_odd B) =
    ap is_odd (sym goals) ∙ (played ∙ (odd_sum (length ps) (sum_of board (start board).boxes) ∙ ap (λ (n : ℕ). differ P (is_odd n)) boxes)) in
    let whole : odd_below board (length board.cells) ≡ is_odd (B + G) =
    (let e : 0 + length board.cells ≡ length board.cells = omega arith in sym (ap (odd_below board) e)) ∙
    odd_from board 0 board.cells (λ i. let e : i ≡ 0 + i = omega arith in ap (λ (n : ℕ). slice_index_or board.cells n Wall) e) in
    ap is_odd (sym long) ∙ sym (whole ∙ (odd_sum B G ∙ (ap (differ (is_odd B)) sums ∙ by (is_odd B) P)))
  where
    by : (b p : Bool) → differ b (differ p b) ≡ p
    by true true = refl
    by true false = refl
    by false true = refl
    by false false = refl

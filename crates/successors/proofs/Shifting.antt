-- What the sum of a set of squares becomes where one square takes the place of another.
use Rattle.std.proofs.Common.{◌≡◌, ℕ, suc, ◌+◌, Bool, true, false, cond, eqb, ltb, ◌||◌, List, [], ◌∷◌, sum, ap}
use Rattle.std.proofs.Common.{arith}
use Rattle.std.proofs.lemmas.Bool.{eqb-true, true≢false, false≢true, or_parts}
use Rattle.grid.specs.declared.square.Push.{Push}
use Rattle.grid.specs.Squares.{Squares, contains, insert, remove}
use Rattle.grid.specs.Rising.{rises_from, is_rising}
use Rattle.grid.specs.Board.{Board, Scene, next}
use Rattle.grid.specs.States.{IsScene}
use Rattle.grid.proofs.lemmas.Squares.{contains-below, contains-remove_out, rises_from-parts, remove_out}
use Rattle.successors.specs.Expansion.{IsSuccessor}
use Rattle.successors.proofs.lemmas.Lists.{sum_by_first}
use Rattle.successors.proofs.lemmas.Successors.{come_by}

-- the sum with one more square before the others
sum-cons : (x : ℕ) (xs : List ℕ) → sum (x ∷ xs) ≡ x + sum xs
sum-cons x xs = sum_by_first (λ y. y) x xs

insert_sum_at : (x : ℕ) (xs : List ℕ) (q : ℕ) (lt eq : Bool) → eq ≡ false → sum (insert xs q) ≡ q + sum xs →
    sum (cond lt (q ∷ x ∷ xs) (cond eq (x ∷ xs) (x ∷ insert xs q))) ≡ q + sum (x ∷ xs)
insert_sum_at x xs q true eq ne h = sum-cons q (x ∷ xs)
insert_sum_at x xs q false true ne h = absurd (true≢false ne)
insert_sum_at x xs q false false ne h = omega (arith, sum-cons x (insert xs q), sum-cons x xs, h)

-- a new square adds its number
sum-insert : (xs : Squares) (q : ℕ) → contains xs q ≡ false → sum (insert xs q) ≡ q + sum xs
sum-insert [] q out = sum-cons q []
sum-insert (x ∷ xs) q out =
    let p = or_parts (eqb x q) (contains xs q) out in
    insert_sum_at x xs q (ltb q x) (eqb x q) p.0 (sum-insert xs q p.1)

remove_sum_at : (x : ℕ) (xs : List ℕ) (q : ℕ) (eq : Bool) → (eq ≡ true → x ≡ q) → rises_from (suc x) xs ≡ true
    → (eq || contains xs q) ≡ true
    → (contains xs q ≡ true → q + sum (remove xs q) ≡ sum xs)
    → q + sum (cond eq (remove xs q) (x ∷ remove xs q)) ≡ sum (x ∷ xs)
remove_sum_at x xs q true same h here rest = grind (arith, remove_out, contains-below, sum-cons)
remove_sum_at x xs q false same h here rest = omega (arith, sum-cons x (remove xs q), sum-cons x xs, rest here)

sum-remove_from : (k : ℕ) (xs : Squares) (q : ℕ) → rises_from k xs ≡ true → contains xs q ≡ true
    → q + sum (remove xs q) ≡ sum xs
sum-remove_from k [] q h here = absurd (false≢true here)
sum-remove_from k (x ∷ xs) q h here =
    let p = rises_from-parts k x xs h in
    remove_sum_at x xs q (eqb x q) (eqb-true x q) p.1 here (λ there. sum-remove_from (suc x) xs q p.1 there)

-- where one square takes the place of another, the sum changes by these two
sum-moved : (xs : Squares) (q r : ℕ) → is_rising xs ≡ true → contains xs q ≡ true → contains xs r ≡ false
    → sum xs + r ≡ sum (insert (remove xs q) r) + q
sum-moved xs q r h here out =
    omega (arith, sum-insert (remove xs q) r (contains-remove_out xs q r out), sum-remove_from 0 xs q h here)

-- the sums of the boxes before and after a push
pub pushed_sums : (board : Board) (n : Scene) → IsScene board n → (p : Push) (m : Scene) → IsSuccessor board n p m →
    sum n.boxes + next board p.square p.dir ≡ sum m.boxes + p.square
pushed_sums board n scene p m come =
    let has = come_by board n scene p m come in
    let ahead : ℕ = next board p.square p.dir in
    let boxes : sum m.boxes ≡ sum (insert (remove n.boxes p.square) ahead) = ap sum has.norm.boxes in
    omega (arith, boxes, sum-moved n.boxes p.square ahead scene.rising has.can.there has.can.ahead.1)

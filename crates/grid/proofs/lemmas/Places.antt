-- Places at which a list passes a test, and edits of rising lists at a place.
use Rattle.std.proofs.Common.{◌≡◌, ◌≢◌, ℕ, zero, suc, ◌+◌, ◌<◌, ◌≤◌, Bool, true, false, cond, eqb, ltb, ◌||◌, List, []}
use Rattle.std.proofs.Common.{◌∷◌, ◌++◌, length, get_or, take, count_by, refl, sym, ap, subst, ◌∙◌, arith, append-nil}
use Rattle.std.specs.List.{prefix_len, list_any, insert as insert_at, remove as remove_at}
use Rattle.std.proofs.lemmas.Bool.{eqb-true, eqb-false, eq-eqb, ltb-true, ltb-false, le-ltb, or_right, true≢false}
use Rattle.std.proofs.lemmas.Bool.{false≢true, ne_eqb}
use Rattle.std.proofs.lemmas.List.{take_more, length-take-le}
use Rattle.std.proofs.lemmas.List.Sums.{count_by_more_yes, sum_by-cons, sum_by-take-le}
use Rattle.std.proofs.lemmas.List.Recursion.{is_count_by}
use Rattle.grid.specs.Squares.{Squares, contains, remove, insert, places_from}
use Rattle.grid.specs.Rising.{rises_from, is_rising}
use Rattle.grid.specs.Board.{Board, is_wall}
use Rattle.grid.proofs.lemmas.Squares.{rises_from-parts, contains-below, contains-get_or, remove_out, rises_from-cons}
use Rattle.grid.proofs.lemmas.Squares.{rises_from-weaker, contains_head}

-- ---- places

place_rises_at : (k : ℕ) (here : Bool) (ps : Squares) → rises_from (suc k) ps ≡ true
    → rises_from k (cond here (k ∷ ps) ps) ≡ true
place_rises_at k true ps h = rises_from-cons k k ps (omega arith) h
place_rises_at k false ps h = rises_from-weaker k (suc k) ps (omega arith) h

-- places rise
pub rises_from-places_from : {A : Type 0} (test : A → Bool) (k : ℕ) (cs : List A)
    → rises_from k (places_from test k cs) ≡ true
rises_from-places_from test k [] = refl
rises_from-places_from test k (c ∷ cs) =
    place_rises_at k (test c) (places_from test (suc k) cs) (rises_from-places_from test (suc k) cs)

-- places are a set
pub is_rising-places_from : {A : Type 0} (test : A → Bool) (k : ℕ) (cs : List A)
    → is_rising (places_from test k cs) ≡ true
is_rising-places_from test k cs =
    rises_from-weaker 0 k (places_from test k cs) (omega arith) (rises_from-places_from test k cs)

place_here : (k : ℕ) (here : Bool) (ps : Squares) → rises_from (suc k) ps ≡ true
    → contains (cond here (k ∷ ps) ps) k ≡ here
place_here k true ps h = contains_head k ps
place_here k false ps h = contains-below (suc k) ps k h (omega arith)

place_later : (k : ℕ) (here : Bool) (ps : Squares) (q : ℕ) → k < q → contains (cond here (k ∷ ps) ps) q ≡ contains ps q
place_later k true ps q lt = rw (ne_eqb k q (λ e. omega arith)) refl
place_later k false ps q lt = refl

-- a place counted from k is among the places where the element there passes; d, the element past the end, fails
pub contains-places_from : {A : Type 0} (test : A → Bool) (k : ℕ) (cs : List A) (i : ℕ) (d : A) → test d ≡ false →
    contains (places_from test k cs) (k + i) ≡ test (get_or cs i d)
contains-places_from test k [] i d fails = sym fails
contains-places_from test k (c ∷ cs) zero d fails =
    subst (λ (q : ℕ). contains (places_from test k (c ∷ cs)) q ≡ test c) (let e : k ≡ k + zero = omega arith in
    e) (place_here k (test c) (places_from test (suc k) cs) (rises_from-places_from test (suc k) cs))
contains-places_from test k (c ∷ cs) (suc i) d fails =
    place_later k (test c) (places_from test (suc k) cs) (k + suc i) (omega arith)
    ∙ (ap (λ (q : ℕ). contains (places_from test (suc k) cs) q) (let e : k + suc i ≡ suc k + i = omega arith in e)
    ∙ contains-places_from test (suc k) cs i d fails)

-- a place is among the places where the element there passes; d, the element past the end, fails
pub contains-places : {A : Type 0} (test : A → Bool) (cs : List A) (q : ℕ) (d : A) → test d ≡ false
    → contains (places_from test 0 cs) q ≡ test (get_or cs q d)
contains-places test cs q d fails = subst (λ (r : ℕ). contains (places_from test 0 cs) r ≡ test (get_or cs q d))
    (let e : 0 + q ≡ q = omega arith in
    e) (contains-places_from test 0 cs q d fails)

-- how many elements pass, by recursion
abbrev passing : {A : Type 0} → (A → Bool) → List A → ℕ
passing test [] = 0
passing test (c ∷ cs) = cond (test c) (1 + passing test cs) (passing test cs)

place_counts : (k n : ℕ) (here : Bool) (ps : Squares) → length ps ≡ n
    → length (cond here (k ∷ ps) ps) ≡ cond here (1 + n) n
place_counts k n true ps h = omega arith
place_counts k n false ps h = h

length-passing : {A : Type 0} (test : A → Bool) (k : ℕ) (cs : List A) → length (places_from test k cs) ≡ passing test cs
length-passing test k [] = refl
length-passing test k (c ∷ cs) =
    place_counts k (passing test cs) (test c) (places_from test (suc k) cs) (length-passing test (suc k) cs)

-- there are as many places as elements that pass
pub length-places_from : {A : Type 0} (test : A → Bool) (k : ℕ) (cs : List A)
    → length (places_from test k cs) ≡ count_by test cs
length-places_from test k cs = length-passing test k cs ∙ is_count_by (passing test) test refl (λ _ _. refl) cs

place_joins : (k : ℕ) (here : Bool) (ps qs : Squares)
    → cond here (k ∷ (ps ++ qs)) (ps ++ qs) ≡ cond here (k ∷ ps) ps ++ qs
place_joins k true ps qs = refl
place_joins k false ps qs = refl

-- the places in joined lists
pub places_from-append : {A : Type 0} (test : A → Bool) (k : ℕ) (cs ds : List A) →
    places_from test k (cs ++ ds) ≡ places_from test k cs ++ places_from test (k + length cs) ds
places_from-append test k [] ds = ap (λ (n : ℕ). places_from test n ds) (let e : k ≡ k + 0 = omega arith in e)
places_from-append test k (c ∷ cs) ds =
    ap (λ (ps : Squares). cond (test c) (k ∷ ps) ps) (places_from-append test (suc k) cs ds ∙
    ap (λ (n : ℕ). places_from test (suc k) cs ++ places_from test n ds)
    (let e : suc k + length cs ≡ k + suc (length cs) = omega arith in e))
    ∙ place_joins k (test c) (places_from test (suc k) cs) (places_from test (k + suc (length cs)) ds)

-- one more element, which passes
pub places_push_yes : {A : Type 0} (test : A → Bool) (cs : List A) (c : A) → test c ≡ true →
    places_from test 0 (cs ++ c ∷ []) ≡ places_from test 0 cs ++ length cs ∷ []
places_push_yes test cs c passes = places_from-append test 0 cs (c ∷ []) ∙
    rw passes (ap (λ (n : ℕ). places_from test 0 cs ++ n ∷ []) (let e : 0 + length cs ≡ length cs = omega arith in e))

-- one more element, which doesn't
pub places_push_no : {A : Type 0} (test : A → Bool) (cs : List A) (c : A) → test c ≡ false
    → places_from test 0 (cs ++ c ∷ []) ≡ places_from test 0 cs
places_push_no test cs c fails = places_from-append test 0 cs (c ∷ []) ∙ rw fails (append-nil (places_from test 0 cs))

-- the first number of a list that isn't empty is in it
pub contains-first : (xs : Squares) → 1 ≤ length xs → contains xs (get_or xs 0 0) ≡ true
contains-first [] some = absurd (omega arith)
contains-first (x ∷ xs) some = contains_head x xs

only_member : (xs : Squares) (q : ℕ) → length xs ≡ 1 → contains xs q ≡ true → get_or xs 0 0 ≡ q
only_member [] q one here = absurd (omega arith)
only_member (x ∷ []) q one here = only (eqb x q) (eqb-true x q) here
  where
    only : (a : Bool) → (a ≡ true → x ≡ q) → (a || false) ≡ true → x ≡ q
    only true same e = same refl
    only false same e = absurd (false≢true e)
only_member (x ∷ y ∷ xs) q one here = absurd (omega arith)

-- where one element passes, its place is the first
pub first_place : {A : Type 0} (test : A → Bool) (cs : List A) (q : ℕ) (d : A) → test d ≡ false → count_by test cs ≡ 1
    → test (get_or cs q d) ≡ true
    → get_or (places_from test 0 cs) 0 0 ≡ q
first_place test cs q d fails one passes =
    only_member (places_from test 0 cs) q (length-places_from test 0 cs ∙ one) (contains-places test cs q d fails ∙
    passes)

-- ---- steps of loops

module _ {A : Type 0} (test : A → Bool) (xs : List A) (i : ℕ) (d : A) (inside : i < length xs) where
  -- one element more that passes
  pub places_more_yes : test (get_or xs i d) ≡ true
      → places_from test 0 (take (i + 1) xs) ≡ places_from test 0 (take i xs) ++ i ∷ []
  places_more_yes passes =
      ap (places_from test 0) (take_more xs i d inside)
      ∙ (places_push_yes test (take i xs) (get_or xs i d) passes
      ∙ ap (λ (n : ℕ). places_from test 0 (take i xs) ++ n ∷ []) (length-take-le i xs (omega arith)))

  -- one element more that fails
  pub places_more_no : test (get_or xs i d) ≡ false
      → places_from test 0 (take (i + 1) xs) ≡ places_from test 0 (take i xs)
  places_more_no fails =
      ap (places_from test 0) (take_more xs i d inside) ∙ places_push_no test (take i xs) (get_or xs i d) fails

  -- before an element that passes there are fewer than all
  pub places_room : test (get_or xs i d) ≡ true → length (places_from test 0 (take i xs)) < count_by test xs
  places_room passes =
      omega (
        arith,
        length-places_from test 0 (take i xs),
        count_by_more_yes test xs i d inside passes,
        sum_by-take-le
            (λ x. cond (test x) 1 0) xs (i + 1),
      )

-- ---- edits of rising lists

-- in a rising list a member is taken out by removing the element after those that are less
remove_place_from : (k : ℕ) (xs : Squares) (q : ℕ) → rises_from k xs ≡ true → contains xs q ≡ true
    → remove_at xs (prefix_len (λ x. ltb x q) xs) ≡ remove xs q
remove_place_from k [] q h here = absurd (false≢true here)
remove_place_from k (x ∷ xs) q h here =
    let p = rises_from-parts k x xs h in
    at (ltb x q) (eqb x q) (ltb-true x q) (ltb-false x q) (eqb-true x q) (eqb-false x q) p.1 here
    (λ there. remove_place_from (suc x) xs q p.1 there)
  where
    at : (lt eq : Bool) → (lt ≡ true → x < q) → (lt ≡ false → q ≤ x) → (eq ≡ true → x ≡ q) → (eq ≡ false → x ≢ q)
        → rises_from (suc x) xs ≡ true
        → (eq || contains xs q) ≡ true
        → (contains xs q ≡ true → remove_at xs (prefix_len (λ y. ltb y q) xs) ≡ remove xs q)
        → remove_at (x ∷ xs) (cond lt (1 + prefix_len (λ y. ltb y q) xs) 0) ≡ cond eq (remove xs q) (x ∷ remove xs q)
    at true true less more same apart rest here induct = absurd (omega (arith, less refl, same refl))
    at true false less more same apart rest here induct =
        let e : 1 + prefix_len (λ y. ltb y q) xs ≡ suc (prefix_len (λ y. ltb y q) xs) = omega arith in
        ap (remove_at (x ∷ xs)) e ∙ ap (λ (zs : List ℕ). x ∷ zs) (induct here)
    at false true less more same apart rest here induct =
        sym (remove_out xs q (contains-below (suc x) xs q rest (omega (arith, same refl))))
    at false false less more same apart rest here induct =
        absurd (false≢true (sym (contains-below (suc x) xs q rest (omega (arith, more refl))) ∙ here))

pub remove_place : (xs : Squares) (q : ℕ) → is_rising xs ≡ true → contains xs q ≡ true
    → remove_at xs (prefix_len (λ x. ltb x q) xs) ≡ remove xs q
remove_place xs q h here = remove_place_from 0 xs q h here

-- what is no member is put in before the elements that are greater
pub insert_place : (xs : Squares) (q : ℕ) → contains xs q ≡ false
    → insert_at xs (prefix_len (λ x. ltb x q) xs) q ≡ insert xs q
insert_place [] q out = refl
insert_place (x ∷ xs) q out = at (ltb x q) (ltb q x) (eqb x q) (ltb-true x q) (ltb-false x q) (ltb-true q x)
    (ltb-false q x) (eqb-false x q) out
    (insert_place xs q)
  where
    at : (lt gt eq : Bool) → (lt ≡ true → x < q) → (lt ≡ false → q ≤ x) → (gt ≡ true → q < x) → (gt ≡ false → x ≤ q)
        → (eq ≡ false → x ≢ q)
        → (eq || contains xs q) ≡ false
        → (contains xs q ≡ false → insert_at xs (prefix_len (λ y. ltb y q) xs) q ≡ insert xs q)
        → insert_at (x ∷ xs) (cond lt (1 + prefix_len (λ y. ltb y q) xs) 0) q ≡ cond gt (q ∷ x ∷ xs) (cond eq (x ∷ xs)
        (x ∷ insert xs q))
    at lt gt true less le more ge apart out' induct = absurd (true≢false out')
    at true true false less le more ge apart out' induct = absurd (omega (arith, less refl, more refl))
    at true false false less le more ge apart out' induct =
        let e : 1 + prefix_len (λ y. ltb y q) xs ≡ suc (prefix_len (λ y. ltb y q) xs) = omega arith in
        ap (λ (n : ℕ). insert_at (x ∷ xs) n q) e ∙ ap (λ (zs : List ℕ). x ∷ zs) (induct out')
    at false true false less le more ge apart out' induct = refl
    at false false false less le more ge apart out' induct = absurd (apart refl (omega (arith, le refl, ge refl)))

-- the place of a member is a place of the list
pub place_inside : (xs : Squares) (q : ℕ) → contains xs q ≡ true → prefix_len (λ x. ltb x q) xs < length xs
place_inside [] q here = absurd (false≢true here)
place_inside (x ∷ xs) q here = at (ltb x q) (eqb x q) (ltb-true x q) (eqb-true x q) here (place_inside xs q)
  where
    at : (lt eq : Bool) → (lt ≡ true → x < q) → (eq ≡ true → x ≡ q) → (eq || contains xs q) ≡ true →
        (contains xs q ≡ true → prefix_len (λ y. ltb y q) xs < length xs)
        → cond lt (1 + prefix_len (λ y. ltb y q) xs) 0 < suc (length xs)
    at true true less same here' induct = absurd (omega (arith, less refl, same refl))
    at true false less same here' induct = let h = induct here' in omega arith
    at false eq less same here' induct = omega arith

-- where no square of a list is a wall, no member is
pub no_wall : (board : Board) (xs : Squares) (q : ℕ) → list_any (is_wall board) xs ≡ false → contains xs q ≡ true
    → is_wall board q ≡ false
no_wall board [] q h here = absurd (false≢true here)
no_wall board (x ∷ xs) q h here = at (is_wall board x) (eqb x q) refl (eqb-true x q) h here (no_wall board xs q)
  where
    at : (wall eq : Bool) → is_wall board x ≡ wall → (eq ≡ true → x ≡ q) → (wall || list_any (is_wall board) xs) ≡ false
        → (eq || contains xs q) ≡ true
        → (list_any (is_wall board) xs ≡ false → contains xs q ≡ true → is_wall board q ≡ false)
        → is_wall board q ≡ false
    at true eq we same h' here' induct = absurd (true≢false h')
    at false true we same h' here' induct = subst (λ (y : ℕ). is_wall board y ≡ false) (same refl) we
    at false false we same h' here' induct = induct h' here'

-- where no member is a wall, no square of the list is
pub all_clear : (board : Board) (xs : Squares) → ((q : ℕ) → contains xs q ≡ true → is_wall board q ≡ false)
    → list_any (is_wall board) xs ≡ false
all_clear board [] h = refl
all_clear board (x ∷ xs) h =
    rw (h x (rw (eq-eqb x x refl) refl)) (all_clear board xs (λ q here. h q (or_right (eqb x q) (contains xs q) here)))

-- of squares that rise from a number on, none is less than that number or a lesser one
none_less : (k q : ℕ) (xs : Squares) → q ≤ k → rises_from k xs ≡ true → count_by (λ (x : ℕ). ltb x q) xs ≡ 0
none_less k q [] le h = refl
none_less k q (x ∷ xs) le h =
    let p = rises_from-parts k x xs h in
    let later = none_less (suc x) q xs (omega (arith, p.0)) p.1 in
    let first = ap (λ (b : Bool). cond {A = ℕ} b 1 0) (le-ltb x q (omega (arith, p.0))) in
    let all = sum_by-cons (λ (y : ℕ). cond {A = ℕ} (ltb y q) 1 0) x xs in
    omega (arith, later, first, all)

lesser_from : (k q : ℕ) (xs : Squares) → rises_from k xs ≡ true
    → count_by (λ (x : ℕ). ltb x q) xs ≡ prefix_len (λ (x : ℕ). ltb x q) xs
lesser_from k q [] h = refl
lesser_from k q (x ∷ xs) h =
    let p = rises_from-parts k x xs h in
    sum_by-cons (λ (y : ℕ). cond {A = ℕ} (ltb y q) 1 0) x xs ∙
    step (ltb x q) (count_by (λ (y : ℕ). ltb y q) xs) (prefix_len (λ (y : ℕ). ltb y q) xs)
    (lesser_from (suc x) q xs p.1) (λ e. (let ge = ltb-false x q e in
    none_less (suc x) q xs (omega (arith, ge)) p.1))
  where
    step : (b : Bool) (m n : ℕ) → m ≡ n → (b ≡ false → m ≡ 0) → cond {A = ℕ} b 1 0 + m ≡ cond b (1 + n) 0
    step true m n same none = omega (arith, same)
    step false m n same none = (let e = none refl in omega (arith, e))

-- of rising squares, as many are less than a number as come before the first one that is not
pub lesser_first : (q : ℕ) (xs : Squares) → is_rising xs ≡ true
    → count_by (λ (x : ℕ). ltb x q) xs ≡ prefix_len (λ (x : ℕ). ltb x q) xs
lesser_first q xs h = lesser_from 0 q xs h

-- a member's place is that of the first element that is not less
place_from : (k : ℕ) (xs : Squares) (place q : ℕ) → rises_from k xs ≡ true → place < length xs → get_or xs place 0 ≡ q
    → place ≡ prefix_len (λ x. ltb x q) xs
place_from k [] place q h lt e = absurd (omega (arith, lt))
place_from k (x ∷ xs) zero q h lt e = at (ltb x q) (ltb-true x q)
  where
    at : (b : Bool) → (b ≡ true → x < q) → 0 ≡ cond b (1 + prefix_len (λ y. ltb y q) xs) 0
    at true less = absurd (let l = less refl in omega (arith, l, e))
    at false less = refl
place_from k (x ∷ xs) (suc n) q h lt e =
    let p = rises_from-parts k x xs h in
    let there : contains xs q ≡ true =
    subst (λ (y : ℕ). contains xs y ≡ true) e (contains-get_or xs n 0 (omega (arith, lt))) in
    at (ltb x q) (ltb-false x q) p.1 there (place_from (suc x) xs n q p.1 (omega (arith, lt)) e)
  where
    at : (b : Bool) → (b ≡ false → q ≤ x) → rises_from (suc x) xs ≡ true → contains xs q ≡ true
        → n ≡ prefix_len (λ y. ltb y q) xs
        → suc n ≡ cond b (1 + prefix_len (λ y. ltb y q) xs) 0
    at true le rest there rec = omega (arith, rec)
    at false le rest there rec =
        absurd (false≢true (sym (contains-below (suc x) xs q rest (let l = le refl in omega (arith, l))) ∙ there))

pub place_by : (xs : Squares) (place q : ℕ) → is_rising xs ≡ true → place < length xs → get_or xs place 0 ≡ q
    → place ≡ prefix_len (λ x. ltb x q) xs
place_by xs place q rising inside at = place_from 0 xs place q rising inside at

-- Laws of sets of squares.
use Rattle.std.proofs.Common.{◌≡◌, ◌≢◌, ℕ, zero, suc, ◌+◌, ◌<◌, ◌≤◌, Bool, true, false, not, cond, eqb, ltb, leb, ◌&&◌}
use Rattle.std.proofs.Common.{◌||◌, List, [], ◌∷◌, ◌++◌, length, get_or, ◌⊎◌, inl, inr, refl, sym, ap, subst, ◌∙◌, arith, ◌==◌}
use Rattle.std.proofs.lemmas.Bool.{eqb-true, eqb-false, eq-eqb, ne_eqb, ltb-true, ltb-false, leb-true, le-leb}
use Rattle.std.proofs.lemmas.Bool.{and_parts, and_from, cases_eq, cases_order, true≢false, false≢true, or_cases}
use Rattle.std.proofs.lemmas.Bool.{or_left, or_right, or_parts}
use Rattle.std.proofs.Math.Bool.{or-false, and-false}
use Rattle.std.proofs.lemmas.List.Folds.{list_any-append}
use Rattle.std.specs.Cmp.{both_ways}
use Rattle.std.specs.List.{list_all}
use Rattle.grid.specs.Squares.{Squares, contains, remove, insert}
use Rattle.grid.specs.Rising.{rises_from, is_rising}

-- ---- tests

or_twice : (a b : Bool) → (a || b) ≡ (a || (a || b))
or_twice true b = refl
or_twice false b = refl

or_swap : (a b c : Bool) → (a || (b || c)) ≡ (b || (a || c))
or_swap true true c = refl
or_swap true false c = refl
or_swap false true c = refl
or_swap false false c = refl

without_twice : (a b : Bool) → (not a && b) ≡ (not a && (a || b))
without_twice true b = refl
without_twice false b = refl

without_swap : (a b c : Bool) → (a ≡ true → b ≡ true → ⊥) → (a || (not b && c)) ≡ (not b && (a || c))
without_swap true true c apart = absurd (apart refl refl)
without_swap true false c apart = refl
without_swap false true c apart = refl
without_swap false false c apart = refl

-- ---- members after an insert

pub contains_head : (x : ℕ) (xs : Squares) → contains (x ∷ xs) x ≡ true
contains_head x xs = rw (eq-eqb x x refl) refl

-- the members of the rest are members
pub contains_tail : (x : ℕ) (xs : Squares) (q : ℕ) → contains xs q ≡ true → contains (x ∷ xs) q ≡ true
contains_tail x xs q h = or_right (eqb x q) (contains xs q) h

insert_at : (x : ℕ) (xs : Squares) (q r : ℕ) (lt eq : Bool) → (eq ≡ true → x ≡ q)
    → contains (insert xs q) r ≡ (eqb q r || contains xs r)
    → contains (cond lt (q ∷ x ∷ xs) (cond eq (x ∷ xs) (x ∷ insert xs q))) r ≡ (eqb q r || (eqb x r || contains xs r))
insert_at x xs q r true eq same h = refl
insert_at x xs q r false true same h = rw (same refl) (or_twice (eqb q r) (contains xs r))
insert_at x xs q r false false same h = rw h (or_swap (eqb x r) (eqb q r) (contains xs r))

-- a square is in the set with q where it is q, or in the set
pub contains-insert : (xs : Squares) (q r : ℕ) → contains (insert xs q) r ≡ (eqb q r || contains xs r)
contains-insert [] q r = refl
contains-insert (x ∷ xs) q r = insert_at x xs q r (ltb q x) (eqb x q) (eqb-true x q) (contains-insert xs q r)

-- the square that is put in is in
pub contains-insert_here : (xs : Squares) (q : ℕ) → contains (insert xs q) q ≡ true
contains-insert_here xs q = rw (contains-insert xs q q, eq-eqb q q refl) refl

-- what was in stays in
pub contains-insert_kept : (xs : Squares) (q r : ℕ) → contains xs r ≡ true → contains (insert xs q) r ≡ true
contains-insert_kept xs q r h = contains-insert xs q r ∙ contains_tail q xs r h

-- nothing else changes
pub contains-insert_other : (xs : Squares) (q r : ℕ) → q ≢ r → contains (insert xs q) r ≡ contains xs r
contains-insert_other xs q r apart = rw (contains-insert xs q r, ne_eqb q r apart) refl

-- what is in after an insert was put in, or was in before
pub contains-insert_cases : (xs : Squares) (q r : ℕ) → contains (insert xs q) r ≡ true
    → (q ≡ r) ⊎ (contains xs r ≡ true)
contains-insert_cases xs q r h = cases_of (eqb q r) (contains xs r) (eqb-true q r) (sym (contains-insert xs q r) ∙ h)
  where
    cases_of : (a b : Bool) → (a ≡ true → q ≡ r) → (a || b) ≡ true → (q ≡ r) ⊎ (b ≡ true)
    cases_of true b same e = inl (same refl)
    cases_of false b same e = inr e

-- ---- members after a push

-- a square is in a list with one more where it is in the list or is the one more
pub contains-push : (xs : Squares) (x q : ℕ) → contains (xs ++ x ∷ []) q ≡ (contains xs q || eqb x q)
contains-push xs x q =
    list_any-append (λ y. y == q) xs (x ∷ []) ∙ ap (λ b. contains xs q || b) (or-false (eqb x q))

pub contains-push_cases : (xs : Squares) (x q : ℕ) → contains (xs ++ x ∷ []) q ≡ true → (contains xs q ≡ true) ⊎ (x ≡ q)
contains-push_cases xs x q there = elim (or_cases (contains xs q) (eqb x q) (sym (contains-push xs x q) ∙ there)) [
  | inl before ↦ inl before
  | inr same ↦ inr (eqb-true x q same)
]

pub contains-push_kept : (xs : Squares) (x q : ℕ) → contains xs q ≡ true → contains (xs ++ x ∷ []) q ≡ true
contains-push_kept xs x q there = contains-push xs x q ∙ or_left (contains xs q) (eqb x q) there

pub contains-push_last : (xs : Squares) (x : ℕ) → contains (xs ++ x ∷ []) x ≡ true
contains-push_last xs x = contains-push xs x x ∙ or_right (contains xs x) (eqb x x) (eq-eqb x x refl)

-- ---- members after a remove

remove_at : (x : ℕ) (xs : Squares) (q r : ℕ) (eq : Bool) → (eq ≡ true → x ≡ q) → (eq ≡ false → x ≢ q) →
    contains (remove xs q) r ≡ (not (eqb q r) && contains xs r) →
    contains (cond eq (remove xs q) (x ∷ remove xs q)) r ≡ (not (eqb q r) && (eqb x r || contains xs r))
remove_at x xs q r true same apart h = rw (same refl) (h ∙ without_twice (eqb q r) (contains xs r))
remove_at x xs q r false same apart h =
    rw h (without_swap (eqb x r) (eqb q r) (contains xs r) (λ a b. apart refl (eqb-true x r a ∙ sym (eqb-true q r b))))

-- a square is in the set without q where it is not q and is in the set
pub contains-remove : (xs : Squares) (q r : ℕ) → contains (remove xs q) r ≡ (not (eqb q r) && contains xs r)
contains-remove [] q r = sym (and-false (not (eqb q r)))
contains-remove (x ∷ xs) q r = remove_at x xs q r (eqb x q) (eqb-true x q) (eqb-false x q) (contains-remove xs q r)

-- the square that is taken out is not in
pub contains-remove_here : (xs : Squares) (q : ℕ) → contains (remove xs q) q ≡ false
contains-remove_here xs q = rw (contains-remove xs q q, eq-eqb q q refl) refl

-- nothing else changes
pub contains-remove_other : (xs : Squares) (q r : ℕ) → q ≢ r → contains (remove xs q) r ≡ contains xs r
contains-remove_other xs q r apart = rw (contains-remove xs q r, ne_eqb q r apart) refl

-- what is in after a remove is another square, and was in before
pub contains-remove_parts : (xs : Squares) (q r : ℕ) → contains (remove xs q) r ≡ true
    → (q ≢ r) × (contains xs r ≡ true)
contains-remove_parts xs q r h = parts_of (eqb q r) (contains xs r) (eqb-false q r) (sym (contains-remove xs q r) ∙ h)
  where
    parts_of : (a b : Bool) → (a ≡ false → q ≢ r) → (not a && b) ≡ true → (q ≢ r) × (b ≡ true)
    parts_of true b apart e = absurd (false≢true e)
    parts_of false b apart e = (apart refl, e)

-- what was out stays out
pub contains-remove_out : (xs : Squares) (q r : ℕ) → contains xs r ≡ false → contains (remove xs q) r ≡ false
contains-remove_out xs q r h = rw (contains-remove xs q r, h) (and-false (not (eqb q r)))

-- ---- rising lists

-- a list that rises from k rises from anything below
pub rises_from-weaker : (j k : ℕ) (xs : List ℕ) → j ≤ k → rises_from k xs ≡ true → rises_from j xs ≡ true
rises_from-weaker j k [] le h = refl
rises_from-weaker j k (x ∷ xs) le h =
    let p = and_parts (leb k x) (rises_from (suc x) xs) h in
    let low : k ≤ x = leb-true k x p.0 in
    and_from (leb j x) (rises_from (suc x) xs) (le-leb j x (omega arith)) p.1

-- the first of a rising list is no less than where it rises from, and the rest rises above it
pub rises_from-parts : (k x : ℕ) (xs : List ℕ) → rises_from k (x ∷ xs) ≡ true → (k ≤ x) × (rises_from (suc x) xs ≡ true)
rises_from-parts k x xs h =
    let p = and_parts (leb k x) (rises_from (suc x) xs) h in
    (leb-true k x p.0, p.1)

-- the converse
pub rises_from-cons : (k x : ℕ) (xs : List ℕ) → k ≤ x → rises_from (suc x) xs ≡ true → rises_from k (x ∷ xs) ≡ true
rises_from-cons k x xs le h = and_from (leb k x) (rises_from (suc x) xs) (le-leb k x le) h

-- a list that rises from k has nothing below k
pub contains-below : (k : ℕ) (xs : Squares) (q : ℕ) → rises_from k xs ≡ true → q < k → contains xs q ≡ false
contains-below k [] q h lt = refl
contains-below k (x ∷ xs) q h lt =
    let p = rises_from-parts k x xs h in
    rw (ne_eqb x q (λ e. omega arith)) (contains-below (suc x) xs q p.1 (omega arith))

-- the members of a list that rises from k are no less
pub contains-from : (k : ℕ) (xs : Squares) (q : ℕ) → rises_from k xs ≡ true → contains xs q ≡ true → k ≤ q
contains-from k xs q h c = elim (cases_order q k) [
  | inl e ↦ omega arith
  | inr (inl lt) ↦ absurd (false≢true (sym (contains-below k xs q h lt) ∙ c))
  | inr (inr gt) ↦ omega arith
]

same_from : (k : ℕ) (xs ys : Squares) → rises_from k xs ≡ true → rises_from k ys ≡ true
    → ((q : ℕ) → contains xs q ≡ contains ys q) → xs ≡ ys
same_from k [] [] hx hy same = refl
same_from k [] (y ∷ ys) hx hy same = absurd (false≢true (same y ∙ contains_head y ys))
same_from k (x ∷ xs) [] hx hy same = absurd (false≢true (sym (same x) ∙ contains_head x xs))
same_from k (x ∷ xs) (y ∷ ys) hx hy same =
    let p = rises_from-parts k x xs hx in
    let r = rises_from-parts k y ys hy in
    let heads : x ≡ y = elim (cases_order x y) [
      | inl e ↦ e
      | inr (inl lt) ↦
          absurd (false≢true (sym (contains-below y (y ∷ ys) x (rises_from-cons y y ys (omega arith) r.1) lt) ∙
          (sym (same x) ∙ contains_head x xs)))
      | inr (inr gt) ↦
          absurd (false≢true (sym (contains-below x (x ∷ xs) y (rises_from-cons x x xs (omega arith) p.1) gt)
          ∙ (same y ∙ contains_head y ys)))
    ] in
    let rest : rises_from (suc x) ys ≡ true = rw heads r.1 in
    let tails : (q : ℕ) → contains xs q ≡ contains ys q = λ q. elim (cases_eq x q) [
      | inl e ↦ contains-below (suc x) xs q p.1 (omega arith) ∙ sym (contains-below (suc x) ys q rest (omega arith))
      | inr ne ↦ sym (skip x xs q ne) ∙ (same q ∙ skip y ys q (λ e. ne (heads ∙ e)))
    ] in
    cc (heads, same_from (suc x) xs ys p.1 rest tails)
  where
    skip : (z : ℕ) (zs : Squares) (q : ℕ) → z ≢ q → contains (z ∷ zs) q ≡ contains zs q
    skip z zs q ne = rw (ne_eqb z q ne) refl

-- two sets with the same members are equal
pub same_set : (xs ys : Squares) → is_rising xs ≡ true → is_rising ys ≡ true → ((q : ℕ) → contains xs q ≡ contains ys q)
    → xs ≡ ys
same_set xs ys hx hy same = same_from 0 xs ys hx hy same

-- two sets, each of which has the members of the other, are equal
pub same_set_both : (xs ys : Squares) → is_rising xs ≡ true → is_rising ys ≡ true
    → ((q : ℕ) → contains xs q ≡ true → contains ys q ≡ true)
    → ((q : ℕ) → contains ys q ≡ true → contains xs q ≡ true) → xs ≡ ys
same_set_both xs ys hx hy to from =
    same_set xs ys hx hy (λ q. both_ways (contains xs q) (contains ys q) (to q) (from q))

insert_rises_at : (k x : ℕ) (xs : List ℕ) (q : ℕ) (lt eq : Bool) → k ≤ q → k ≤ x → rises_from (suc x) xs ≡ true
    → (lt ≡ true → q < x) → (lt ≡ false → x ≤ q)
    → (eq ≡ false → x ≢ q) → (suc x ≤ q → rises_from (suc x) (insert xs q) ≡ true)
    → rises_from k (cond lt (q ∷ x ∷ xs) (cond eq (x ∷ xs) (x ∷ insert xs q))) ≡
    true
insert_rises_at k x xs q true eq kq kx h less more apart rest = let lt : q < x = less refl in
    rises_from-cons k q (x ∷ xs) kq (rises_from-cons (suc q) x xs (omega arith) h)
insert_rises_at k x xs q false true kq kx h less more apart rest = rises_from-cons k x xs kx h
insert_rises_at k x xs q false false kq kx h less more apart rest =
    let le : x ≤ q = more refl in
    let ne : x ≢ q = apart refl in
    rises_from-cons k x (insert xs q) kx (rest (omega (arith, ne)))

-- an insert keeps a list rising
pub rises_from-insert : (k : ℕ) (xs : List ℕ) (q : ℕ) → k ≤ q → rises_from k xs ≡ true
    → rises_from k (insert xs q) ≡ true
rises_from-insert k [] q le h = rises_from-cons k q [] le refl
rises_from-insert k (x ∷ xs) q le h =
    let p = rises_from-parts k x xs h in
    insert_rises_at k x xs q (ltb q x) (eqb x q) le p.0 p.1 (ltb-true q x) (ltb-false q x) (eqb-false x q)
    (λ more. rises_from-insert (suc x) xs q more p.1)

-- an insert keeps a set a set
pub is_rising-insert : (xs : List ℕ) (q : ℕ) → is_rising xs ≡ true → is_rising (insert xs q) ≡ true
is_rising-insert xs q h = rises_from-insert 0 xs q (omega arith) h

remove_rises_at : (k x : ℕ) (xs : List ℕ) (q : ℕ) (eq : Bool) → k ≤ x → rises_from (suc x) (remove xs q) ≡ true →
    rises_from k (cond eq (remove xs q) (x ∷ remove xs q)) ≡ true
remove_rises_at k x xs q true le h = rises_from-weaker k (suc x) (remove xs q) (omega arith) h
remove_rises_at k x xs q false le h = rises_from-cons k x (remove xs q) le h

-- a remove keeps a list rising
pub rises_from-remove : (k : ℕ) (xs : List ℕ) (q : ℕ) → rises_from k xs ≡ true → rises_from k (remove xs q) ≡ true
rises_from-remove k [] q h = refl
rises_from-remove k (x ∷ xs) q h =
    let p = rises_from-parts k x xs h in
    remove_rises_at k x xs q (eqb x q) p.0 (rises_from-remove (suc x) xs q p.1)

-- a remove keeps a set a set
pub is_rising-remove : (xs : List ℕ) (q : ℕ) → is_rising xs ≡ true → is_rising (remove xs q) ≡ true
is_rising-remove xs q h = rises_from-remove 0 xs q h

-- ---- sizes

insert_length_at : (x : ℕ) (xs : List ℕ) (q : ℕ) (lt eq : Bool) → eq ≡ false → length (insert xs q) ≡ suc (length xs) →
    length (cond lt (q ∷ x ∷ xs) (cond eq (x ∷ xs) (x ∷ insert xs q))) ≡ suc (suc (length xs))
insert_length_at x xs q true eq ne h = refl
insert_length_at x xs q false true ne h = absurd (true≢false ne)
insert_length_at x xs q false false ne h = ap suc h

-- a new square makes a set larger by one
pub length-insert : (xs : Squares) (q : ℕ) → contains xs q ≡ false → length (insert xs q) ≡ suc (length xs)
length-insert [] q out = refl
length-insert (x ∷ xs) q out =
    let p = or_parts (eqb x q) (contains xs q) out in
    insert_length_at x xs q (ltb q x) (eqb x q) p.0 (length-insert xs q p.1)

-- taking out what is not in changes nothing
pub remove_out : (xs : Squares) (q : ℕ) → contains xs q ≡ false → remove xs q ≡ xs
remove_out [] q out = refl
remove_out (x ∷ xs) q out =
    let p = or_parts (eqb x q) (contains xs q) out in
    rw p.0 (ap (λ (zs : List ℕ). x ∷ zs) (remove_out xs q p.1))

remove_length_at : (k x : ℕ) (xs : List ℕ) (q : ℕ) (eq : Bool) → (eq ≡ true → x ≡ q) → rises_from (suc x) xs ≡ true
    → (eq || contains xs q) ≡ true
    → (contains xs q ≡ true → suc (length (remove xs q)) ≡ length xs)
    → suc (length (cond eq (remove xs q) (x ∷ remove xs q))) ≡ suc (length xs)
remove_length_at k x xs q true same h here rest =
    ap (λ (zs : List ℕ). suc (length zs))
    (remove_out xs q (contains-below (suc x) xs q h (let e = same refl in omega arith)))
remove_length_at k x xs q false same h here rest = ap suc (rest here)

length-remove_from : (k : ℕ) (xs : Squares) (q : ℕ) → rises_from k xs ≡ true → contains xs q ≡ true
    → suc (length (remove xs q)) ≡ length xs
length-remove_from k [] q h here = absurd (false≢true here)
length-remove_from k (x ∷ xs) q h here =
    let p = rises_from-parts k x xs h in
    remove_length_at k x xs q (eqb x q) (eqb-true x q) p.1 here (λ there. length-remove_from (suc x) xs q p.1 there)

-- taking out a member makes a set smaller by one
pub length-remove : (xs : Squares) (q : ℕ) → is_rising xs ≡ true → contains xs q ≡ true
    → suc (length (remove xs q)) ≡ length xs
length-remove xs q h here = length-remove_from 0 xs q h here

-- where one square takes the place of another, the size stays
pub length-moved : (xs : Squares) (q r : ℕ) → is_rising xs ≡ true → contains xs q ≡ true → contains xs r ≡ false
    → length (insert (remove xs q) r) ≡ length xs
length-moved xs q r h here out = length-insert (remove xs q) r (contains-remove_out xs q r out)
    ∙ length-remove xs q h here

-- ---- members by their place in the list

-- each element is a member
pub contains-get_or : (xs : Squares) (i d : ℕ) → i < length xs → contains xs (get_or xs i d) ≡ true
contains-get_or [] i d lt = absurd (omega arith)
contains-get_or (x ∷ xs) zero d lt = contains_head x xs
contains-get_or (x ∷ xs) (suc i) d lt = contains_tail x xs (get_or xs i d) (contains-get_or xs i d (omega arith))

-- each member is an element
pub place_of_member : (xs : Squares) (q d : ℕ) → contains xs q ≡ true → (i : ℕ) × (i < length xs) × (get_or xs i d ≡ q)
place_of_member [] q d here = absurd (false≢true here)
place_of_member (x ∷ xs) q d here = at (eqb x q) (eqb-true x q) here (place_of_member xs q d)
  where
    at : (a : Bool) → (a ≡ true → x ≡ q) → (a || contains xs q) ≡ true
        → (contains xs q ≡ true → (i : ℕ) × (i < length xs) × (get_or xs i d ≡ q)) → (i : ℕ) ×
        (i < length (x ∷ xs)) × (get_or (x ∷ xs) i d ≡ q)
    at true same e later = (zero, omega arith, same refl)
    at false same e later = let l = later e in (suc l.0, omega (arith, l.1), l.2)

-- elements rise with their places
pub rising_places : (xs : Squares) (i j d : ℕ) → is_rising xs ≡ true → i < j → j < length xs
    → get_or xs i d < get_or xs j d
rising_places xs i j d h lt in_range = risen 0 xs i j h lt in_range
  where
    least : (k : ℕ) (ys : Squares) (n : ℕ) → rises_from k ys ≡ true → n < length ys → k ≤ get_or ys n d
    least k ys n hy l = contains-from k ys (get_or ys n d) hy (contains-get_or ys n d l)

    risen : (k : ℕ) (ys : Squares) (m n : ℕ) → rises_from k ys ≡ true → m < n → n < length ys
        → get_or ys m d < get_or ys n d
    risen k [] m n hy l b = absurd (omega arith)
    risen k (y ∷ ys) m zero hy l b = absurd (omega arith)
    risen k (y ∷ ys) zero (suc n) hy l b =
        let p = rises_from-parts k y ys hy in
        let e = least (suc y) ys n p.1 (omega arith) in omega arith
    risen k (y ∷ ys) (suc m) (suc n) hy l b =
        risen (suc y) ys m n (rises_from-parts k y ys hy).1 (omega arith) (omega arith)

-- one more number at the end, above all the others, keeps a list rising
pub is_rising-push : (xs : Squares) (q : ℕ) → is_rising xs ≡ true → ((x : ℕ) → contains xs x ≡ true → x < q)
    → is_rising (xs ++ q ∷ []) ≡ true
is_rising-push xs q h above = pushed 0 xs (omega arith) h above
  where
    pushed : (k : ℕ) (ys : Squares) → k ≤ q → rises_from k ys ≡ true → ((x : ℕ) → contains ys x ≡ true → x < q)
        → rises_from k (ys ++ q ∷ []) ≡ true
    pushed k [] le hy all = rises_from-cons k q [] le refl
    pushed k (y ∷ ys) le hy all =
        let p = rises_from-parts k y ys hy in
        let first = all y (contains_head y ys) in
        rises_from-cons k y (ys ++ q ∷ []) p.0
        (pushed (suc y) ys (omega arith) p.1 (λ x here. all x (contains_tail y ys x here)))

-- every number of a list passes a test where those that the list contains do
pub all_contained : (test : ℕ → Bool) (xs : List ℕ) → ((q : ℕ) → contains xs q ≡ true → test q ≡ true) → list_all test xs ≡ true
all_contained test [] f = refl
all_contained test (x ∷ xs) f =
    let here : test x ≡ true = f x (head (eqb x x) (eq-eqb x x refl)) in
    rw here (all_contained test xs (λ q there. f q (tail (eqb x q) there)))
  where
    head : (b : Bool) → b ≡ true → (b || contains xs x) ≡ true
    head true e = refl
    head false e = absurd (true≢false (sym e))

    tail : {c : Bool} (b : Bool) → c ≡ true → (b || c) ≡ true
    tail true e = refl
    tail false e = e

-- and the other way round
pub contained_all : (test : ℕ → Bool) (xs : List ℕ) → list_all test xs ≡ true → (q : ℕ) → contains xs q ≡ true → test q ≡ true
contained_all test [] all q there = absurd (true≢false (sym there))
contained_all test (x ∷ xs) all q there =
    let both = and_parts (test x) (list_all test xs) all in
    by (eqb x q) refl (contained_all test xs both.1 q) both.0
  where
    by : (b : Bool) → eqb x q ≡ b → (contains xs q ≡ true → test q ≡ true) → test x ≡ true → test q ≡ true
    by true e later here = subst (λ (n : ℕ). test n ≡ true) (eqb-true x q e) here
    by false e later here = later (rw e at there)

-- A list that is cut into pieces.
use Rattle.std.proofs.Common.{◌≡◌, ℕ, zero, suc, ◌+◌, ◌<◌, ◌≤◌, Bool, true, false, ◌||◌, List, [], ◌∷◌, ◌++◌, length, map, take, drop, get_or, Some, None}
use Rattle.std.proofs.Common.{is_some, inl, inr, refl, sym, ap, ◌∙◌, arith}
use Rattle.std.proofs.Math.Seq.{take-length}
use Rattle.std.proofs.lemmas.List.{length-drop, length-take}
use Rattle.std.proofs.lemmas.Option.{same_Some, none-some, slice_get_within, slice_get_past, slice_get-map}
use Rattle.std.specs.Prelude.{slice_get}
use Rattle.std.specs.List.{list_any}
use Rattle.std.specs.Option.{option_map}
use Rattle.std.specs.Map.{lookup}
use Rattle.layers.specs.inside.BookInside.{cut_at, AreCuts, IsListPiece}
use Rattle.successors.specs.Reaching.{total}
use Rattle.successors.proofs.lemmas.Lists.{sum_by_first, at-push, at_before}

pub length-cut_at : {A : Type 0} (starts : List ℕ) (xs : List A) → length (cut_at starts xs) ≡ length starts
length-cut_at [] xs = refl
length-cut_at (i ∷ []) xs = refl
length-cut_at (i ∷ j ∷ js) xs = ap suc (length-cut_at (j ∷ js) xs)

-- the piece that a place begins
pub cut_piece : {A : Type 0} (starts : List ℕ) (xs : List A) (k p q : ℕ) → IsListPiece starts (length xs) k p q →
    get_or (cut_at starts xs) k [] ≡ drop p (take q xs)
cut_piece [] xs k p q (at, next) = absurd (none-some p at)
cut_piece (i ∷ []) xs zero p q (at, inl next) = absurd (none-some q next)
cut_piece (i ∷ []) xs zero p q (at, inr (none, e)) = (λ n. drop (same_Some i p at n) xs) ∙ ap (drop p) (sym (take-length xs) ∙ ap (λ n. take n xs) (sym e))
cut_piece (i ∷ []) xs (suc k) p q (at, next) = absurd (none-some p at)
cut_piece (i ∷ j ∷ js) xs zero p q (at, inl next) = λ n. drop (same_Some i p at n) (take (same_Some j q next n) xs)
cut_piece (i ∷ j ∷ js) xs zero p q (at, inr (none, e)) = absurd (none-some j (sym none))
cut_piece (i ∷ j ∷ js) xs (suc k) p q piece = cut_piece (j ∷ js) xs k p q piece

pub cut_past : {A : Type 0} (starts : List ℕ) (xs : List A) (k : ℕ) → length starts ≤ k → get_or (cut_at starts xs) k [] ≡ []
cut_past [] xs k le = refl
cut_past (i ∷ []) xs zero le = absurd (omega arith)
cut_past (i ∷ []) xs (suc k) le = refl
cut_past (i ∷ j ∷ js) xs zero le = absurd (omega arith)
cut_past (i ∷ j ∷ js) xs (suc k) le = cut_past (j ∷ js) xs k (omega arith)

-- what stands at a place of a piece
pub at_piece : {A : Type 0} (xs : List A) (p q i : ℕ) → p + i < q → slice_get (drop p (take q xs)) i ≡ slice_get xs (p + i)
at_piece [] zero zero i lt = absurd (omega arith)
at_piece [] zero (suc q) i lt = refl
at_piece [] (suc p) zero i lt = absurd (omega arith)
at_piece [] (suc p) (suc q) i lt = refl
at_piece (x ∷ xs) zero zero i lt = absurd (omega arith)
at_piece (x ∷ xs) zero (suc q) zero lt = refl
at_piece (x ∷ xs) zero (suc q) (suc i) lt = grind (arith, at_piece xs zero q i (omega arith))
at_piece (x ∷ xs) (suc p) zero i lt = absurd (omega arith)
at_piece (x ∷ xs) (suc p) (suc q) i lt = grind (arith, at_piece xs p q i (omega arith))

pub past_piece : {A : Type 0} (xs : List A) (p q i : ℕ) → q ≤ p + i → slice_get (drop p (take q xs)) i ≡ None
past_piece xs p q i le = slice_get_past (drop p (take q xs)) i (omega (arith, length-drop p (take q xs), length-take q xs))

-- the place of a piece in the list of the pieces' places
pub place_in_piece : {A B : Type 0} (f : A → B) (starts : List ℕ) (xs : List A) (k p q i : ℕ) → IsListPiece starts (length xs) k p q → p + i < q →
    slice_get (map f (get_or (cut_at starts xs) k [])) i ≡ option_map f (slice_get xs (p + i))
place_in_piece f starts xs k p q i piece lt =
    slice_get-map f (get_or (cut_at starts xs) k []) i ∙ ap (λ zs. option_map f (slice_get zs i)) (cut_piece starts xs k p q piece)
    ∙ ap (option_map f) (at_piece xs p q i lt)

pub place_past_piece : {A B : Type 0} (f : A → B) (starts : List ℕ) (xs : List A) (k p q i : ℕ) → IsListPiece starts (length xs) k p q → q ≤ p + i →
    slice_get (map f (get_or (cut_at starts xs) k [])) i ≡ None
place_past_piece f starts xs k p q i piece le =
    slice_get-map f (get_or (cut_at starts xs) k []) i ∙ ap (λ zs. option_map f (slice_get zs i)) (cut_piece starts xs k p q piece)
    ∙ ap (option_map f) (past_piece xs p q i le)

pub place_past : {A B : Type 0} (f : A → B) (starts : List ℕ) (xs : List A) (k i : ℕ) → length starts ≤ k →
    slice_get (map f (get_or (cut_at starts xs) k [])) i ≡ None
place_past f starts xs k i le = ap (λ zs. slice_get (map f zs) i) (cut_past starts xs k le)

-- ---- all pieces together

drop_take : {A : Type 0} (xs : List A) (i j : ℕ) → i ≤ j → drop i (take j xs) ++ drop j xs ≡ drop i xs
drop_take [] zero zero le = refl
drop_take [] zero (suc j) le = refl
drop_take [] (suc i) zero le = refl
drop_take [] (suc i) (suc j) le = refl
drop_take (x ∷ xs) zero zero le = refl
drop_take (x ∷ xs) zero (suc j) le = ap (λ ys. x ∷ ys) (drop_take xs zero j (omega arith))
drop_take (x ∷ xs) (suc i) zero le = absurd (omega arith)
drop_take (x ∷ xs) (suc i) (suc j) le = drop_take xs i j (omega arith)

any-append : {A : Type 0} (test : A → Bool) (xs ys : List A) → list_any test (xs ++ ys) ≡ (list_any test xs || list_any test ys)
any-append test [] ys = refl
any-append test (x ∷ xs) ys = grind (arith, any-append test xs ys)

or_false : (b : Bool) → (b || false) ≡ b
or_false true = refl
or_false false = refl

-- the cuts behind the first are cuts
later_cuts : (i j : ℕ) (js : List ℕ) → ((k p q : ℕ) → slice_get (i ∷ j ∷ js) k ≡ Some p → slice_get (i ∷ j ∷ js) (suc k) ≡ Some q → p ≤ q) → (k p q : ℕ) →
    slice_get (j ∷ js) k ≡ Some p → slice_get (j ∷ js) (suc k) ≡ Some q → p ≤ q
later_cuts i j js rise k p q at next = rise (suc k) p q at next

total-from : {A : Type 0} (i : ℕ) (is : List ℕ) (xs : List A) → ((k p q : ℕ) → slice_get (i ∷ is) k ≡ Some p → slice_get (i ∷ is) (suc k) ≡ Some q → p ≤ q) →
    ((k p : ℕ) → slice_get (i ∷ is) k ≡ Some p → p ≤ length xs) → total (cut_at (i ∷ is) xs) + i ≡ length xs
total-from i [] xs rise within = omega (arith, sum_by_first length (drop i xs) [], length-drop i xs, within zero i refl)
total-from i (j ∷ js) xs rise within =
    omega (
      arith,
      sum_by_first length (drop i (take j xs)) (cut_at (j ∷ js) xs),
      length-drop i (take j xs),
      length-take j xs,
      rise zero i j refl refl,
      within (suc zero) j refl,
      total-from j js xs (later_cuts i j js rise) (λ k p at. within (suc k) p at),
    )

pub total-cuts : {A : Type 0} (starts : List ℕ) (xs : List A) → AreCuts starts (length xs) → total (cut_at starts xs) ≡ length xs
total-cuts [] xs cuts = absurd (none-some 0 cuts.first)
total-cuts (i ∷ is) xs cuts = omega (arith, total-from i is xs cuts.rise cuts.within, same_Some i 0 cuts.first)

any-from : {A : Type 0} (test : A → Bool) (i : ℕ) (is : List ℕ) (xs : List A) →
    ((k p q : ℕ) → slice_get (i ∷ is) k ≡ Some p → slice_get (i ∷ is) (suc k) ≡ Some q → p ≤ q) →
    list_any (λ es. list_any test es) (cut_at (i ∷ is) xs) ≡ list_any test (drop i xs)
any-from test i [] xs rise = or_false (list_any test (drop i xs))
any-from test i (j ∷ js) xs rise =
    ap (λ b. list_any test (drop i (take j xs)) || b) (any-from test j js xs (later_cuts i j js rise))
    ∙ sym (any-append test (drop i (take j xs)) (drop j xs)) ∙ ap (list_any test) (drop_take xs i j (rise zero i j refl refl))

any-lookup : {K X : Type 0} (test : K → Bool) (es : List (K × X)) → list_any (λ e. test e.0) es ≡ is_some (lookup test es)
any-lookup test [] = refl
any-lookup test (e ∷ es) = grind (arith, any-lookup test es)

-- what is found among all is in a piece
pub any-cuts : {K X : Type 0} (test : K → Bool) (starts : List ℕ) (es : List (K × X)) → AreCuts starts (length es) →
    list_any (λ xs. list_any (λ e. test e.0) xs) (cut_at starts es) ≡ is_some (lookup test es)
any-cuts test [] es cuts = absurd (none-some 0 cuts.first)
any-cuts test (i ∷ is) es cuts = any-from (λ e. test e.0) i is es cuts.rise ∙ ap (λ k. list_any (λ e. test e.0) (drop k es)) (same_Some i 0 cuts.first)
    ∙ any-lookup test es

-- one more piece, behind all
pub cut_push : {A : Type 0} (starts : List ℕ) (xs ys : List A) → AreCuts starts (length xs) →
    cut_at (starts ++ length xs ∷ []) (xs ++ ys) ≡ cut_at starts xs ++ ys ∷ []
cut_push [] xs ys cuts = absurd (none-some 0 cuts.first)
cut_push {A} (i ∷ is) xs ys cuts = go i is cuts.within
  where
    drop_all : (zs : List A) → drop (length zs) (zs ++ ys) ≡ ys
    drop_all [] = refl
    drop_all (z ∷ zs) = drop_all zs

    take_front : (zs : List A) (k : ℕ) → k ≤ length zs → take k (zs ++ ys) ≡ take k zs
    take_front zs zero le = refl
    take_front [] (suc k) le = absurd (omega arith)
    take_front (z ∷ zs) (suc k) le = ap (λ us. z ∷ us) (take_front zs k (omega arith))

    take_long : (zs : List A) → take (length zs) zs ≡ zs
    take_long [] = refl
    take_long (z ∷ zs) = ap (λ us. z ∷ us) (take_long zs)

    go : (k : ℕ) (ks : List ℕ) → ((n p : ℕ) → slice_get (k ∷ ks) n ≡ Some p → p ≤ length xs) →
        cut_at ((k ∷ ks) ++ length xs ∷ []) (xs ++ ys) ≡ cut_at (k ∷ ks) xs ++ ys ∷ []
    go k [] within = λ n. drop k ((take_front xs (length xs) (omega arith) ∙ take_long xs) n) ∷ drop_all xs n ∷ []
    go k (j ∷ js) within = λ n. drop k (take_front xs j (within (suc zero) j refl) n) ∷ go j js (λ m p at. within (suc m) p at) n

-- and its cuts are cuts
pub cuts_push : (starts : List ℕ) (len more : ℕ) → AreCuts starts len → AreCuts (starts ++ len ∷ []) (len + more)
cuts_push starts len more cuts = grind (arith, at_before, at-push, slice_get_within)

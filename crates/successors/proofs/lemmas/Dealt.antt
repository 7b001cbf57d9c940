-- Successors that are dealt to the shares.
use Rattle.std.proofs.Common.{◌≡◌, ◌≢◌, ℕ, zero, suc, ◌+◌, ◌-◌, ◌*◌, ◌%◌, ◌<◌, ◌≤◌, ◌==◌, Bool, List, [], ◌∷◌, ◌++◌, length, take, drop}
use Rattle.std.proofs.Common.{map, get_or, set, Some, inl, inr, refl, sym, ap, subst, ◌∙◌, if◌then◌else◌, arith}
use Rattle.std.proofs.lemmas.Bool.{cases_lt, cases_eq, eq-eqb, ne_eqb}
use Rattle.std.proofs.lemmas.List.{append-nil, length-map, length-set, length-take-le, take_all, take-set-le, take_more, take_more_set}
use Rattle.std.proofs.lemmas.List.{drop-append-le, drop-set-lt, get_or-set_same, get_or-set_other}
use Rattle.std.proofs.Math.Seq.{take-set-lt}
use Rattle.std.proofs.lemmas.Slice.{between_is}
use Rattle.std.proofs.lemmas.Option.{none-some}
use Rattle.std.specs.Prelude.{slice_get}
use Rattle.std.specs.List.{between}
use Rattle.successors.specs.declared.parcel.Successor.{Successor}
use Rattle.successors.specs.declared.limits.TheConstants.{MAX_SHARES}
use Rattle.successors.specs.declared.dealing.TheConstants.{MOST_DEALT}
use Rattle.successors.specs.inside.Sums.{AreSums, scene_sum}
use Rattle.successors.specs.inside.Dealt.{share_places, successor_places, IsDealt}

-- ---- the places of one share

-- a place before others, if it is to be there
abbrev pub put_if : Bool → ℕ → List ℕ → List ℕ
put_if b k ps = if b then k ∷ ps else ps

-- the sums of successors
abbrev pub sums_of : List Successor → List ℕ
sums_of ss = map (λ s. scene_sum s.position) ss

-- one more sum, if it is of the share, has the last place
places_more : (shares share k p x : ℕ) (xs : List ℕ) → p ≡ k + length xs →
    share_places shares share k (xs ++ x ∷ []) ≡ share_places shares share k xs ++ put_if (x % shares == share) p []
places_more shares share k p x [] e = grind arith
places_more shares share k p x (y ∷ xs) e = grind (arith, places_more shares share (suc k) p x xs (omega (arith, e)))

-- each is the place of a sum
pub places_within : (shares share k n : ℕ) (xs : List ℕ) → k + length xs ≤ n →
    (i p : ℕ) → slice_get (share_places shares share k xs) i ≡ Some p → p < n
places_within shares share k n [] le i p at = absurd (none-some p at)
places_within shares share k n (x ∷ xs) le i p at =
    grind (arith, places_within shares share (suc k) n xs (omega (arith, le)))

-- there are no more of them than sums
pub places_few : (shares share k : ℕ) (xs : List ℕ) → length (share_places shares share k xs) ≤ length xs
places_few shares share k [] = omega arith
places_few shares share k (x ∷ xs) = grind (arith, places_few shares share (suc k) xs)

-- ---- they are listed

-- the places of the first so many sums are in the rows of their shares
pub record AreListed (shares place : ℕ) (rows lens sums : List ℕ) : Type 0 where
  pub size : length rows ≡ MAX_SHARES * MOST_DEALT
  pub long : length lens ≡ MAX_SHARES
  pub few : (share : ℕ) → share < shares → get_or lens share 0 ≤ place
  pub listed : (share : ℕ) → share < shares → drop (share * MOST_DEALT) (take (share * MOST_DEALT + get_or lens share 0) rows) ≡
      share_places shares share 0 (take place sums)

module _ (shares place share : ℕ) (rows lens sums : List ℕ) (held : AreListed shares place rows lens sums) (most : shares ≤ MAX_SHARES)
    (lt : place < length sums)
    (few : length sums ≤ MOST_DEALT) (is : share ≡ get_or sums place 0 % shares) (own : share < shares) where
  -- the places of a share with one more sum
  more : (other : ℕ) → share_places shares other 0 (take (place + 1) sums)
      ≡ share_places shares other 0 (take place sums) ++ put_if (share == other) place []
  more other = grind (arith, take_more, places_more, length-take-le)

  abbrev len : ℕ
  len = get_or lens share 0

  abbrev lens_after : List ℕ
  lens_after = set lens share (len + 1)

  abbrev rows_after : List ℕ
  rows_after = set rows (share * MOST_DEALT + len) place

  len_own : get_or lens_after share 0 ≡ len + 1
  len_own = get_or-set_same lens share (len + 1) 0 (omega (arith, held.long, own, most))

  len_other : (other : ℕ) → other ≢ share → get_or lens_after other 0 ≡ get_or lens other 0
  len_other other ne = get_or-set_other lens share other (len + 1) 0 ne

  len_small : len ≤ place
  len_small = held.few share own

  inside : share * MOST_DEALT + len < length rows
  inside = omega (arith, held.size, own, most, len_small, lt, few)

  -- the row of the share has one more
  row_own : drop (share * MOST_DEALT) (take (share * MOST_DEALT + get_or lens_after share 0) rows_after) ≡ share_places shares share 0 (take (place + 1) sums)
  row_own =
      let end : share * MOST_DEALT + get_or lens_after share 0 ≡ share * MOST_DEALT + len + 1 = omega (arith, len_own) in
      ap (λ (n : ℕ). drop (share * MOST_DEALT) (take n rows_after)) end
      ∙ ap (drop (share * MOST_DEALT)) (take_more_set rows (share * MOST_DEALT + len) place inside)
      ∙ drop-append-le (share * MOST_DEALT) (take (share * MOST_DEALT + len) rows) (place ∷ [])
      (omega (arith, length-take-le (share * MOST_DEALT + len) rows (omega (arith, inside))))
      ∙ ap (λ (ps : List ℕ). ps ++ place ∷ []) (held.listed share own)
      ∙ sym (more share ∙ ap (λ (b : Bool). share_places shares share 0 (take place sums) ++ put_if b place []) (eq-eqb share share refl))

  -- and that of another one stays
  row_kept : (other : ℕ) → other < shares → other ≢ share → drop (other * MOST_DEALT) (take (other * MOST_DEALT + get_or lens other 0) rows_after) ≡
      drop (other * MOST_DEALT) (take (other * MOST_DEALT + get_or lens other 0) rows)
  row_kept other less ne = grind (arith, cases_lt, take-set-le, take-set-lt, len_small, drop-set-lt)

  row_other : (other : ℕ) → other < shares → other ≢ share → drop (other * MOST_DEALT) (take (other * MOST_DEALT + get_or lens_after other 0) rows_after) ≡
      share_places shares other 0 (take (place + 1) sums)
  row_other other less ne = grind (arith, len_other, row_kept, append-nil, more, ne_eqb)

  pub one_listed : AreListed shares (place + 1) rows_after lens_after sums
  one_listed = record {
    size = length-set rows (share * MOST_DEALT + len) place ∙ held.size;
    long = length-set lens share (len + 1) ∙ held.long;
    few = λ other less. elim (cases_eq other share) [
      | inl e ↦ omega (arith, ap (λ (s : ℕ). get_or lens_after s 0) e, len_own, len_small)
      | inr ne ↦ omega (arith, len_other other ne, held.few other less)
    ];
    listed = λ other less. elim (cases_eq other share) [
      | inl e ↦ subst (λ (s : ℕ). drop (s * MOST_DEALT) (take (s * MOST_DEALT + get_or lens_after s 0) rows_after) ≡
          share_places shares s 0 (take (place + 1) sums)) (sym e) row_own
      | inr ne ↦ row_other other less ne
    ];
  }

-- one of two shares has one more
pub both_listed : (place share len evens odds : ℕ) (rows sums rest : List ℕ) → AreListed 2 place rows (evens ∷ odds ∷ rest) sums → place < length sums →
    length sums ≤ MOST_DEALT → share ≡ get_or sums place 0 % 2 → share < 2 → len ≡ get_or (evens ∷ odds ∷ []) share 0 →
    AreListed 2 (place + 1) (set rows (share * MOST_DEALT + len) place) ((evens + (1 - share)) ∷ (odds + share) ∷ rest) sums
both_listed place zero len evens odds rows sums rest held lt few is own same =
    let more : evens + 1 ≡ evens + (1 - 0) = omega arith in
    let kept : odds ≡ odds + 0 = omega arith in
    subst (λ (n : ℕ). AreListed 2 (place + 1) (set rows (0 * MOST_DEALT + n) place) ((evens + (1 - 0)) ∷ (odds + 0) ∷ rest) sums) (sym same)
    (subst (λ (lens : List ℕ). AreListed 2 (place + 1) (set rows (0 * MOST_DEALT + evens) place) lens sums) (λ i. more i ∷ kept i ∷ rest)
    (one_listed 2 place 0 rows (evens ∷ odds ∷ rest) sums held (omega arith) lt few is own))
both_listed place (suc zero) len evens odds rows sums rest held lt few is own same =
    let kept : evens ≡ evens + (1 - 1) = omega arith in
    subst (λ (n : ℕ). AreListed 2 (place + 1) (set rows (1 * MOST_DEALT + n) place) ((evens + (1 - 1)) ∷ (odds + 1) ∷ rest) sums) (sym same)
    (subst (λ (n : ℕ). AreListed 2 (place + 1) (set rows (1 * MOST_DEALT + odds) place) (n ∷ (odds + 1) ∷ rest) sums) kept
    (one_listed 2 place 1 rows (evens ∷ odds ∷ rest) sums held (omega arith) lt few is own))
both_listed place (suc (suc share)) len evens odds rows sums rest held lt few is own same = absurd (omega (arith, own))

-- once all sums are looked at, they are dealt
pub all_listed : (shares place : ℕ) (rows lens sums : List ℕ) → AreListed shares place rows lens sums → shares ≤ MAX_SHARES → length sums ≡ place →
    length sums ≤ MOST_DEALT → IsDealt shares rows lens sums
all_listed shares place rows lens sums held most all few = grind (arith, take_all)

-- what stands in the row of a share
pub places_there : (dealt shares share from end : ℕ) (rows lens sums : List ℕ) (before ss : List Successor) →
    share < shares → dealt ≡ shares → IsDealt dealt rows lens sums → AreSums before sums → before ≡ ss → from ≡ share * MOST_DEALT →
    end ≡ from + get_or lens share 0 →
    between from end rows ≡ successor_places shares share ss
places_there dealt shares share from end rows lens sums before ss lt all held are same from_is end_is =
    grind (arith, between_is)

length-sums : (ss : List Successor) → length (sums_of ss) ≡ length ss
length-sums ss = length-map ss (λ (s : Successor). scene_sum s.position)

-- each of the places is that of a successor
pub dealt_within : (shares share : ℕ) (found ss : List Successor) (places : List ℕ) → found ≡ ss → places ≡ successor_places shares share ss →
    (i p : ℕ) → slice_get places i ≡ Some p → p < length found
dealt_within shares share found ss places same are i p at =
    places_within shares share 0 (length found) (sums_of ss) (omega (arith, ap length same, length-sums ss)) i p
    (subst (λ (ps : List ℕ). slice_get ps i ≡ Some p) are at)

-- and there are no more of them than successors
pub dealt_few : (shares share : ℕ) (ss : List Successor) (places : List ℕ) → places ≡ successor_places shares share ss → length places ≤ length ss
dealt_few shares share ss places are =
    omega (arith, ap length are, places_few shares share 0 (sums_of ss), length-sums ss)

-- What is brought to the front of a list, and the sums that come with it.
use Rattle.std.proofs.Common.{◌≡◌, ℕ, ◌+◌, ◌<◌, ◌≤◌, List, [], ◌∷◌, ◌++◌, length, map, take, get_or, set}
use Rattle.std.proofs.Common.{Some, inl, inr, refl, sym, ap, ◌∙◌, arith}
use Rattle.std.proofs.lemmas.Bool.{cases_lt}
use Rattle.std.proofs.lemmas.List.{take-set-le, take_more_set, length-set, map-append}
use Rattle.std.proofs.lemmas.List.Edits.{swap_is}
use Rattle.std.proofs.lemmas.Option.{slice_get_within, get_or_from_slice_get}
use Rattle.std.specs.Prelude.{slice_get}
use Rattle.std.specs.List.{swap}
use Rattle.successors.specs.declared.parcel.Successor.{Successor}
use Rattle.successors.specs.inside.Sums.{AreSums, scene_sum}
use Rattle.successors.proofs.lemmas.Lists.{take_at, at_take, set_there, map_at}

module _ {A : Type 0} (now : List A) (front place : ℕ) (s : A) (order : front ≤ place)
    (here : slice_get now place ≡ Some s) where
  inside : place < length now
  inside = slice_get_within now place s here

  -- the exchange, told by two stores
  stores : swap now front place ≡ set (set now front s) place (get_or now front s)
  stores = sym (swap_is now front place s (omega (arith, order, inside)) inside) ∙
      ap (λ (x : A). set (set now front x) place (get_or now front s)) (get_or_from_slice_get now place s s here)

  -- one more stands in front
  pub front_more : take (front + 1) (swap now front place) ≡ take front now ++ s ∷ []
  front_more = ap (take (front + 1)) stores ∙ elim (cases_lt front place) [
    | inl less ↦ take-set-le (front + 1) (set now front s) place (get_or now front s) (omega (arith, less)) ∙
        take_more_set now front s (omega (arith, less, inside))
    | inr le ↦ (let same : front ≡ place = omega (arith, le, order) in
        let value : get_or now front s ≡ s = ap (λ i. get_or now i s) same ∙ get_or_from_slice_get now place s s here in
        (λ i. take (front + 1) (set (set now front s) (sym same i) (value i)))
        ∙ take_more_set (set now front s) front s (omega (arith, inside, same, length-set now front s))
        ∙ ap (λ xs. xs ++ s ∷ []) (take-set-le front now front s (omega arith)))
  ]

  -- and what is behind the place stays
  pub later_same : (i : ℕ) → place < i → slice_get (swap now front place) i ≡ slice_get now i
  later_same i lt = grind (arith, stores, set_there)

-- ---- the sums

-- beside each of the first so many successors lies its sum
pub sum_at : (count : ℕ) (ss : List Successor) (sums : List ℕ) → AreSums (take count ss) (take count sums)
    → (place : ℕ) (s : Successor) → place < count
    → slice_get ss place ≡ Some s → slice_get sums place ≡ Some (scene_sum s.position)
sum_at count ss sums told place s lt at =
    (take_at sums count place (scene_sum s.position) (ap (λ xs. slice_get xs place) told
    ∙ map_at (λ (t : Successor). scene_sum t.position) (take count ss) place s
    (at_take ss count place s lt at))).0

-- the sums of those in front came with them; from a place on they are as they were
pub record AreBrought (now : List Successor) (before sums : List ℕ) (front place : ℕ) : Type 0 where
  pub told : AreSums (take front now) (take front sums)
  pub rest : (i x : ℕ) → place ≤ i → slice_get before i ≡ Some x → slice_get sums i ≡ Some x

pub no_sums : (ss : List Successor) (sums : List ℕ) → AreSums (take 0 ss) (take 0 sums)
no_sums [] [] = refl
no_sums [] (x ∷ xs) = refl
no_sums (s ∷ ss) [] = refl
no_sums (s ∷ ss) (x ∷ xs) = refl

pub none_brought : (ss : List Successor) (sums : List ℕ) → AreBrought ss sums sums 0 0
none_brought ss sums = record { told = no_sums ss sums; rest = λ i x le at. at }

module _ (now : List Successor) (before sums : List ℕ) (front place : ℕ) (s : Successor) (order : front ≤ place)
    (there : slice_get now place ≡ Some s)
    (beside : slice_get before place ≡ Some (scene_sum s.position)) (are : AreBrought now before sums front place) where
  here_too : slice_get sums place ≡ Some (scene_sum s.position)
  here_too = are.rest place (scene_sum s.position) (omega arith) beside

  pub brought_within : place < length sums
  brought_within = slice_get_within sums place (scene_sum s.position) here_too

  pub one_brought : AreBrought (swap now front place) before (swap sums front place) (front + 1) (place + 1)
  one_brought = record {
    told = front_more sums front place (scene_sum s.position) order here_too
        ∙ ap (λ (xs : List ℕ). xs ++ scene_sum s.position ∷ []) are.told
        ∙ sym (map-append (λ (t : Successor). scene_sum t.position) (take front now) (s ∷ []))
        ∙ ap (map (λ (t : Successor). scene_sum t.position)) (sym (front_more now front place s order there));
    rest = λ i x le at. later_same sums front place (scene_sum s.position) order here_too i (omega (arith, le))
        ∙ are.rest i x (omega (arith, le)) at;
  }

  pub one_passed : AreBrought now before sums front (place + 1)
  one_passed = record { told = are.told; rest = λ i x le at. are.rest i x (omega (arith, le)) at }

-- The rule of a ledger's table, which each step keeps: each number is drawn once and none is left out.
use Rattle.std.specs.Prelude.{◌≡◌, ℕ, suc, ◌+◌, ◌^◌, ◌<◌, ◌≤◌, min, true, false, nat_lt, List, [], ◌∷◌, All, AllPairs}
use Rattle.std.specs.Prelude.{drop, length, slice_index, sum, sum_by}
use Rattle.std.specs.Prelude.{is_some, IsNone}
use mathlib.Core.Option.{some}
use lib.ListN.{get_elem?}
use Rattle.atomic_table.specs.Table.{State}
use Rattle.claims.specs.declared.ledger.TheConstants.{PLACES}
use Rattle.claims.specs.declared.views.Hand.{Hand}
use Rattle.claims.specs.declared.views.View.{View}
use Rattle.claims.specs.Hands.{empty_hand, one_if, times, is_place}

-- the sum over all hands of all views
abbrev pub over_hands : (Hand → ℕ) → List View → ℕ
over_hands f views = sum_by (λ (v : View). sum_by f v.hands) views

-- how often the hand has the number
abbrev pub number_count : ℕ → Hand → ℕ
number_count x h = times x h.numbers

-- 1 where the hand has this place
abbrev pub place_count : ℕ → Hand → ℕ
place_count p h = is_place p h.place

-- 1 where the hand has a place
abbrev pub placed_count : Hand → ℕ
placed_count h = one_if (is_some h.place)

-- 1 where the hand is spent out
abbrev pub spent_count : Hand → ℕ
spent_count h = one_if h.spent

-- what the rule says of one hand, of a ledger with this length and these words
pub record FitsLedger (size : ℕ) (words : List ℕ) (h : Hand) : Type 0 where
  -- its numbers rise
  pub rising : AllPairs (λ x y. x < y) h.numbers
  -- a place that it has seen taken has the word 1
  pub known : All (λ p. slice_index words (suc p) ≡ 1) h.taken
  -- without a place it has no numbers and is not spent out
  pub bare : IsNone h.place → (h.numbers ≡ []) × (h.spent ≡ false)
  -- it is spent out only where the next number is at least the length
  pub out : h.spent ≡ true → size ≤ slice_index words 0

-- The first word is the number that is drawn next, and each of the others is that of a place
pub record IsDrawnOnce (size : ℕ) (words : List ℕ) (views : List View) : Type 0 where
  -- there is a word for the next number and one for each place, and the length is a small number
  pub ranges : (length words ≡ suc PLACES) × (size < 2 ^ 32)
  -- each number below both the next one and the length is in exactly one hand, once, and hands hold no other numbers
  pub numbers : (x : ℕ) → over_hands (number_count x) views ≡ one_if (nat_lt x (min (slice_index words 0) size))
  -- as many hands have a place as its word says
  pub places : (p : ℕ) → over_hands (place_count p) views ≡ slice_index words (suc p)
  -- a place's word is 0 or 1, so no place is in two hands
  pub single : (p : ℕ) → slice_index words (suc p) ≤ 1
  -- as many hands have a place as the words of all places say
  pub seats : over_hands placed_count views ≡ sum (drop 1 words)
  -- the next number is above the length by at most the number of hands that are spent out
  pub excess : slice_index words 0 ≤ size + over_hands spent_count views
  -- views with hands agree on the length, and each hand fits the words
  pub views_fit : (i : ℕ) (v : View) → get_elem? views i ≡ some v →
      All (λ h. (v.len ≡ size) × FitsLedger size words h) v.hands

abbrev pub holds : ℕ → State (Unit {0}) View → Type 0
holds size s = IsDrawnOnce size s.words s.views

-- the view of the first drawer
abbrev pub first : ℕ → View
first size = record { len = size; hands = empty_hand ∷ [] }

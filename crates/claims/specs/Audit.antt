-- What holds of all hands of a ledger together at each moment, and what an audit of some of them tells.
use Rattle.std.specs.Prelude.{◌≡◌, ℕ, ◌+◌, ◌<◌, ◌≤◌, min, true, false, nat_lt, List, [], ◌++◌, All, AllPairs, map}
use Rattle.std.specs.Prelude.{sum_by, IsNone}
use Rattle.claims.specs.declared.ledger.TheConstants.{PLACES}
use Rattle.claims.specs.declared.views.Hand.{Hand}
use Rattle.claims.specs.Hands.{DrawerView, one_if, times, is_place}

-- the hands of drawers
abbrev pub hands_of : List DrawerView → List Hand
hands_of ds = map (λ (d : DrawerView). d.hand) ds

-- how often these hands have the number
abbrev pub times_in : ℕ → List Hand → ℕ
times_in x hs = sum_by (λ (h : Hand). times x h.numbers) hs

-- how many of these hands have the place
abbrev pub having : ℕ → List Hand → ℕ
having p hs = sum_by (λ (h : Hand). is_place p h.place) hs

-- how many of these hands are spent out
abbrev pub spent_in : List Hand → ℕ
spent_in hs = sum_by (λ (h : Hand). one_if h.spent) hs

-- each place is one of theirs
abbrev pub HaveAllPlaces : List Hand → Type 0
HaveAllPlaces hs = (p : ℕ) → p < PLACES → having p hs ≡ 1

-- The rule of a ledger of this length, of which this number is drawn next, for all its hands together
pub record AreDrawnOnce (len next : ℕ) (hs : List Hand) : Type 0 where
  -- each number below both the next one and the length is in one hand, once, and hands have no other numbers
  pub numbers : (x : ℕ) → times_in x hs ≡ one_if (nat_lt x (min next len))
  -- no place is in two hands, and there are no others
  pub places : (p : ℕ) → having p hs ≤ one_if (nat_lt p PLACES)
  -- a place that a hand has seen taken is in one of them
  pub taken : All (λ (h : Hand). All (λ p. having p hs ≡ 1) h.taken) hs
  -- the numbers of a hand rise
  pub rising : All (λ (h : Hand). AllPairs (λ x y. x < y) h.numbers) hs
  -- a hand without a place has no numbers and is not spent out
  pub bare : All (λ (h : Hand). IsNone h.place → (h.numbers ≡ []) × (h.spent ≡ false)) hs
  -- a hand is spent out only where the next number has reached the length
  pub out : All (λ (h : Hand). h.spent ≡ true → len ≤ next) hs
  -- the next number is above the length by at most the number of hands that are spent out
  pub excess : next ≤ len + spent_in hs

-- An audit of these hands
pub record AreAudited (len next : ℕ) (hs : List Hand) : Type 0 where
  -- with the other hands of the ledger they keep its rule
  pub rule : (others : List Hand) × AreDrawnOnce len next (hs ++ others)
  -- where they have all places, none of the numbers below both the next one and the length is left out
  pub whole : HaveAllPlaces hs → (x : ℕ) → times_in x hs ≡ one_if (nat_lt x (min next len))

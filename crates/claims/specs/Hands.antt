-- What drawers have of a ledger, and how the calls change it.
use Rattle.std.specs.Prelude.{◌≡◌, ℕ, ◌+◌, ◌<◌, ◌≤◌, ◌⊎◌, Bool, true, false, ◌==◌, if◌then◌else◌, List, [], ◌∷◌, ◌++◌}
use Rattle.std.specs.Prelude.{All, sum_by, Option, Some, None, IsSome}
use Rattle.std.specs.Prelude.{IsNone}
use Rattle.atomic_table.specs.Seated.{TableId}
use Rattle.claims.specs.declared.ledger.TheConstants.{PLACES}
use Rattle.claims.specs.declared.views.Hand.{Hand}

-- which ledger it is, and how many numbers it has
pub record LedgerView : Type 0 where
  pub table : TableId
  pub len : ℕ

-- the ledger that a drawer came from, and its place, its numbers, whether it is spent out, and the places that it has
-- seen taken
pub record DrawerView : Type 0 where
  pub ledger : LedgerView
  pub hand : Hand

-- ---- hands

-- no place and no number
abbrev pub empty_hand : Hand
empty_hand = record { place = None; numbers = []; spent = false; taken = [] }

-- a drawer of this ledger with an empty hand
abbrev pub newcomer : LedgerView → DrawerView
newcomer ledger = record { ledger = ledger; hand = empty_hand }

-- the hand got this place
abbrev pub with_place : ℕ → Hand → Hand
with_place p h = record { place = Some p; numbers = h.numbers; spent = h.spent; taken = h.taken }

-- the hand has seen this place taken
abbrev pub with_taken : ℕ → Hand → Hand
with_taken p h = record { place = h.place; numbers = h.numbers; spent = h.spent; taken = h.taken ++ p ∷ [] }

-- the hand drew this number
abbrev pub with_number : ℕ → Hand → Hand
with_number x h = record { place = h.place; numbers = h.numbers ++ x ∷ []; spent = h.spent; taken = h.taken }

-- the hand has learned that no number is left
abbrev pub spent_out : Hand → Hand
spent_out h = record { place = h.place; numbers = h.numbers; spent = true; taken = h.taken }

-- ---- counts

-- 1 for true
abbrev pub one_if : Bool → ℕ
one_if b = if b then 1 else 0

-- how often a number is in a list
abbrev pub times : ℕ → List ℕ → ℕ
times x xs = sum_by (λ y. one_if (y == x)) xs

-- 1 where the place is this one
abbrev pub is_place : ℕ → Option ℕ → ℕ
is_place p None = 0
is_place p (Some q) = one_if (q == p)

-- ---- calls

-- the hand has no place, and there is such a place
abbrev pub MayEnrol : ℕ → Hand → Type 0
MayEnrol p h = IsNone h.place × (p < PLACES)

-- the hand has a place, or there is no such place
abbrev pub MayNotEnrol : ℕ → Hand → Type 0
MayNotEnrol p h = IsSome h.place ⊎ (PLACES ≤ p)

-- An enrolment gives the hand that place. Where it does not, the hand may not enrol there, and nothing changes, or it
-- has then seen the place taken
abbrev pub Enrolled : ℕ → Hand → Bool → Hand → Type 0
Enrolled p before true after = MayEnrol p before × (after ≡ with_place p before)
Enrolled p before false after =
    (MayNotEnrol p before × (after ≡ before)) ⊎ (MayEnrol p before × (after ≡ with_taken p before))

-- the hand has a place and is not spent out
abbrev pub MayDraw : Hand → Type 0
MayDraw h = IsSome h.place × (h.spent ≡ false)

-- the hand has no place, or is spent out
abbrev pub MayNotDraw : Hand → Type 0
MayNotDraw h = IsNone h.place ⊎ (h.spent ≡ true)

-- A draw puts its number, which is below the length and above all earlier ones, at the end. Where it gives none, the
-- hand may not draw, and nothing changes, or it is from then on spent out
abbrev pub Drew : ℕ → Hand → Option ℕ → Hand → Type 0
Drew len before (Some x) after =
    MayDraw before × (x < len) × All (λ y. y < x) before.numbers × (after ≡ with_number x before)
Drew len before None after = (MayNotDraw before × (after ≡ before)) ⊎ (MayDraw before × (after ≡ spent_out before))

-- two hands have no number and no place in common: each occurs at most once in both together
abbrev pub AreApart : Hand → Hand → Type 0
AreApart h k =
    ((x : ℕ) → times x h.numbers + times x k.numbers ≤ 1) × ((p : ℕ) → is_place p h.place + is_place p k.place ≤ 1)

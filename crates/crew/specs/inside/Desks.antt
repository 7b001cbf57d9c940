-- The desks of workers.
use Rattle.std.specs.Prelude.{◌≡◌, ℕ, ◌<◌, List, slice_get, Some}
use Rattle.claims.specs.Hands.{LedgerView, newcomer}
use Rattle.crew.specs.declared.desks.Desk.{Desk}

-- each scratch is for levels of this number of squares
abbrev pub AreRoomy : ℕ → List Desk → Type 0
AreRoomy size desks = (i : ℕ) (desk : Desk) → slice_get desks i ≡ Some desk → desk.scratch.size ≡ size

-- each before the index has a drawer of the ledger with an empty hand
abbrev pub HaveDrawers : LedgerView → ℕ → List Desk → Type 0
HaveDrawers ledger place desks =
    (i : ℕ) (desk : Desk) → i < place → slice_get desks i ≡ Some desk → desk.drawer ≡ Some (newcomer ledger)

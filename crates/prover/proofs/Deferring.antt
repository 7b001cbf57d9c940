-- What is left for later, and the cap below its least total.
use Rattle.std.proofs.Common.{◌≡◌, ℕ, ◌<◌, Option, None, Some, refl, sym, subst, arith, min}
use Rattle.std.proofs.lemmas.Option.{same_Some}
use Rattle.prices.specs.Solving.{Allows}
use Rattle.prover.specs.Frontier.{IsBelowLeast}
use Rattle.prover.specs.inside.Working.{Defers, IsLater, lesser_total, tighter}

-- the tighter cap allows nothing that the cap does not
pub loosened : (cap next : Option ℕ) (m : ℕ) → Allows (tighter cap next) m → Allows cap m
loosened cap None m allowed = allowed
loosened None (Some next) m allowed = tt
loosened (Some most) (Some next) m allowed = omega (arith, allowed)

-- and whatever it allows is less than `next`
pub tightened : (cap next : Option ℕ) (m : ℕ) → Allows cap m → IsBelowLeast next m → Allows (tighter cap next) m
tightened cap None m allowed before = allowed
tightened None (Some next) m allowed before = omega (arith, before)
tightened (Some most) (Some next) m allowed before = omega (arith, allowed, before)

below : (cap : Option ℕ) (next m : ℕ) → 0 < m → Allows (tighter cap (Some next)) m → m < next
below None next m more allowed = omega (arith, more, allowed)
below (Some most) next m more allowed = omega (arith, more, allowed)

-- what a total tightens the cap to is less than the total
pub lesser_below : (cap next : Option ℕ) (total m : ℕ) → 0 < m → Allows (tighter cap (lesser_total next total)) m →
    m < total
lesser_below cap None total m more allowed = below cap total m more allowed
lesser_below cap (Some next) total m more allowed =
    let lt = below cap (min next total) m more allowed in omega (arith, lt)

narrower : (cap next : Option ℕ) (total m : ℕ) → Allows (tighter cap (lesser_total next total)) m →
    Allows (tighter cap next) m
narrower cap None total m allowed = loosened cap (Some total) m allowed
narrower None (Some next) total m allowed = omega (arith, allowed)
narrower (Some most) (Some next) total m allowed = omega (arith, allowed)

lesser_later : (cap : Option ℕ) (reach : ℕ) (next : Option ℕ) (total : ℕ) → reach < total → Allows cap total →
    IsLater cap reach next → IsLater cap reach (lesser_total next total)
lesser_later cap reach None total lt allowed later n e =
    subst (λ (k : ℕ). (reach < k) × Allows cap k) (same_Some total n e) (lt, allowed)
lesser_later cap reach (Some next) total lt allowed later n e =
    subst (λ (k : ℕ). (reach < k) × Allows cap k) (same_Some (min next total) n e) (by cap (later next refl))
  where
    by : (cap : Option ℕ) → (reach < next) × Allows cap next → (reach < min next total) × Allows cap (min next total)
    by None (more, ok) = (omega (arith, more, lt), tt)
    by (Some most) (more, ok) = (omega (arith, more, lt), omega (arith, ok))

-- nothing more is left for later
pub defers_none : (cap : Option ℕ) (reach : ℕ) (next : Option ℕ) → Defers cap reach next next
defers_none cap reach next = record { narrows = λ m allowed. allowed; later = λ later. later }

pub defers_one : (cap : Option ℕ) (reach : ℕ) (old new : Option ℕ) (total : ℕ) → new ≡ lesser_total old total →
    reach < total → Allows cap total → Defers cap reach old new
defers_one cap reach old new total is lt allowed = subst (Defers cap reach old) (sym is) (record {
  narrows = λ m. narrower cap old total m;
  later = lesser_later cap reach old total lt allowed;
})

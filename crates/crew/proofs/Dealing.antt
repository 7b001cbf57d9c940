-- Desks, one place after the other.
use Rattle.std.proofs.Common.{◌≡◌, ◌⊎◌, ℕ, zero, suc, ◌+◌, List, [], ◌∷◌, ◌++◌, set, Some, inl, inr, ap, ◌∙◌, arith}
use Rattle.std.specs.Prelude.{slice_get}
use Rattle.std.proofs.lemmas.Bool.{cases_lt}
use Rattle.successors.proofs.lemmas.Lists.{at_before, each_push, each_set, set_at}
use Rattle.area.specs.Reach.{Reach}
use Rattle.claims.specs.Hands.{LedgerView, newcomer}
use Rattle.crew.specs.inside.Desks.{AreRoomy, HaveDrawers}
use Rattle.crew.specs.declared.desks.Desk.{Desk}

-- a desk whose scratch stays leaves them roomy
pub roomy_set : (size : ℕ) (desks : List Desk) (place : ℕ) (before after : Desk) → slice_get desks place ≡ Some before → after.scratch ≡ before.scratch →
    AreRoomy size desks → AreRoomy size (set desks place after)
roomy_set size desks place before after here kept roomy =
    each_set (λ (d : Desk). d.scratch.size ≡ size) desks place after (ap (λ (s : Reach). s.size) kept ∙ roomy place before here) roomy

-- one more desk has a drawer
pub drawers_set : (ledger : LedgerView) (place : ℕ) (desks : List Desk) (after : Desk) → after.drawer ≡ Some (newcomer ledger) →
    HaveDrawers ledger place desks → HaveDrawers ledger (place + 1) (set desks place after)
drawers_set ledger place desks after given drawers i desk lt at = elim (set_at desks place i after desk at) [
  | inl h ↦ ap (λ (d : Desk). d.drawer) h.1 ∙ given
  | inr h ↦ elim (cases_lt i place) [ inl less ↦ drawers i desk less h.1 | inr le ↦ absurd (h.0 (omega (arith, lt, le))) ]
]

-- one more desk is as roomy
pub roomy_push : (size : ℕ) (desks : List Desk) (new : Desk) → new.scratch.size ≡ size → AreRoomy size desks → AreRoomy size (desks ++ new ∷ [])
roomy_push size desks new room roomy = each_push (λ (d : Desk). d.scratch.size ≡ size) desks new room roomy

-- what stands in the second of two lists stands in both
pub in_back : {A : Type 0} (xs ys : List A) (i : ℕ) (x : A) → slice_get ys i ≡ Some x → (j : ℕ) × (slice_get (xs ++ ys) j ≡ Some x)
in_back [] ys i x e = (i, e)
in_back (z ∷ xs) ys i x e = (suc (in_back xs ys i x e).0, (in_back xs ys i x e).1)

-- what stands in both stands in one of them
in_either : {A : Type 0} (xs ys : List A) (i : ℕ) (x : A) → slice_get (xs ++ ys) i ≡ Some x → (slice_get xs i ≡ Some x) ⊎ ((j : ℕ) × (slice_get ys j ≡ Some x))
in_either [] ys i x e = inr (i, e)
in_either (z ∷ xs) ys zero x e = inl e
in_either (z ∷ xs) ys (suc i) x e = in_either xs ys i x e

-- of roomy desks the first ones and the others are roomy
pub roomy_cut : (size : ℕ) (all front back : List Desk) → all ≡ front ++ back → AreRoomy size all → AreRoomy size front × AreRoomy size back
roomy_cut size all front back is roomy = (
  (λ i desk at. roomy i desk (ap (λ l. slice_get l i) is ∙ at_before front back i desk at)),
  (λ i desk at. let h = in_back front back i desk at in roomy h.0 desk (ap (λ l. slice_get l h.0) is ∙ h.1)),
)

pub roomy_joined : (size : ℕ) (front back : List Desk) → AreRoomy size front → AreRoomy size back → AreRoomy size (front ++ back)
roomy_joined size front back a b i desk at = elim (in_either front back i desk at) [
  | inl h ↦ a i desk h
  | inr h ↦ b h.0 desk h.1
]

-- Solutions with the fewest pushes.
use Rattle.std.proofs.Common.{◌≡◌, ℕ, suc, Option, Some, unwrap_or, sym, ap, subst, arith}
use Rattle.grid.specs.Board.{Board}
use Rattle.grid.specs.Lawful.{IsLevel}
use Rattle.prices.specs.Fewest.{NoneHasFewer}
use Rattle.prices.specs.Searching.{SomeHas}
use Rattle.prover.specs.Outcomes.{IsOutcome}
use Rattle.prover.specs.Parity.{TwoLessDecide}
use Rattle.prover.specs.declared.outcome.Outcome.{Outcome}
use Rattle.prover.specs.declared.outcome.Outcome.TheVariants.{NoneWithin}

-- none has fewer pushes if none has two pushes less
pub none_has_fewer : (board : Board) (limit pushes most : ℕ) (Late : Type 0) (o : Outcome) → TwoLessDecide board → IsLevel board → SomeHas board pushes →
    IsOutcome board (Some most) limit Late o → o ≡ NoneWithin → pushes ≡ suc (suc most) → NoneHasFewer board pushes
none_has_fewer board limit pushes most Late o law level some so e two = by (subst (λ (x : Outcome). IsOutcome board (Some most) limit Late x) e so)
  where
    by : IsOutcome board (Some most) limit Late NoneWithin → NoneHasFewer board pushes
    by (cap, is, none) =
        let same : cap ≡ most = sym (ap (λ (n : Option ℕ). unwrap_or n 0) is) in
        let long : pushes ≡ suc (suc cap) = omega (arith, same, two) in
        subst (λ (n : ℕ). NoneHasFewer board n) (sym long) (law level cap (subst (λ (n : ℕ). SomeHas board n) long some) none)

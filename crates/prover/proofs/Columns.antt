-- The column of the next square.
use Rattle.std.proofs.Common.{◌≡◌, ℕ, suc, ◌+◌, ◌%◌, ◌<◌, ◌≤◌, inl, inr, ap, ◌∙◌, arith}
use Rattle.std.proofs.Math.Nat.{suc-mod, mod_self, mod-lt, mod-eq_of_lt}
use Rattle.std.proofs.lemmas.Bool.{cases_eq}

-- where the next square is not in the first column, it is one column on
pub column_before : (q cols : ℕ) → 1 ≤ cols → 0 < suc q % cols → suc q % cols ≡ q % cols + 1
column_before q cols some more =
    let low : q % cols < cols = mod-lt q (omega (arith, some)) in
    elim (cases_eq (q % cols + 1) cols) [
      | inl last ↦ absurd (
          let whole : suc (q % cols) ≡ cols = omega (arith, last) in
          let none : suc q % cols ≡ 0 = suc-mod q cols ∙ (ap (λ k. k % cols) whole ∙ mod_self cols) in
          omega (arith, none, more))
      | inr ne ↦
          (let less : suc (q % cols) < cols = omega (arith, ne, low) in
          suc-mod q cols ∙ (mod-eq_of_lt less ∙ omega arith))
    ]

-- A byte stands for the cell that the code finds, and for no other.
use Rattle.std.proofs.Common.{◌≡◌, ℕ, Bool, true, false, cond, eqb, Option, Some, None, ◌⊎◌, refl, sym, ap, ◌∙◌, inl, inr}
use Rattle.std.proofs.lemmas.Bool.{eqb-true}
use Rattle.grid.specs.declared.cell.Cell.{Cell}
use Rattle.grid.specs.declared.cell.Cell.TheVariants.{Wall, Floor, Goal, Box, BoxOnGoal, Player, PlayerOnGoal}
use Rattle.xsb.specs.Rows.{cell_byte, StandsFor}
use Rattle.xsb.specs.inside.Bytes.{cell_of}

pub cell_of-cell_byte : (c : Cell) → cell_of (cell_byte c) ≡ Some c
cell_of-cell_byte Wall = refl
cell_of-cell_byte Floor = refl
cell_of-cell_byte Goal = refl
cell_of-cell_byte Box = refl
cell_of-cell_byte BoxOnGoal = refl
cell_of-cell_byte Player = refl
cell_of-cell_byte PlayerOnGoal = refl

pub cell_that_stands : (b : ℕ) (c : Cell) → StandsFor b c → cell_of b ≡ Some c
cell_that_stands b c (inl own) = ap cell_of own ∙ cell_of-cell_byte c
cell_that_stands b c (inr (inl dash, floor)) = ap cell_of dash ∙ ap (λ (d : Cell). Some d) (sym floor)
cell_that_stands b c (inr (inr line, floor)) = ap cell_of line ∙ ap (λ (d : Cell). Some d) (sym floor)

-- what the first of some tests says of the cell that they find
first_test : (t : Bool) (x c : Cell) (rest : Option Cell) → cond t (Some x) rest ≡ Some c → ((t ≡ true) × (x ≡ c)) ⊎ (rest ≡ Some c)
first_test true x c rest e = inl (refl, (let same : x ≡ c = cc in same))
first_test false x c rest e = inr e

own_byte : (b n : ℕ) (x c : Cell) → eqb b n ≡ true → n ≡ cell_byte x → x ≡ c → StandsFor b c
own_byte b n x c is own same = inl (eqb-true b n is ∙ own ∙ ap cell_byte same)

by_low_line : (b : ℕ) (c : Cell) → cond (eqb b 95) (Some Floor) None ≡ Some c → StandsFor b c
by_low_line b c e = elim (first_test (eqb b 95) Floor c None e) [
  | inl (is, same) ↦ inr (inr (eqb-true b 95 is), sym same)
  | inr none ↦ absurd cc
]

by_dash : (b : ℕ) (c : Cell) → cond (eqb b 45) (Some Floor) (cond (eqb b 95) (Some Floor) None) ≡ Some c → StandsFor b c
by_dash b c e = elim (first_test (eqb b 45) Floor c _ e) [
  | inl (is, same) ↦ inr (inl (eqb-true b 45 is), sym same)
  | inr more ↦ by_low_line b c more
]

pub stands_by_cell : (b : ℕ) (c : Cell) → cell_of b ≡ Some c → StandsFor b c
stands_by_cell b c e = elim (first_test (eqb b 35) Wall c _ e) [
  | inl (is, same) ↦ own_byte b 35 Wall c is refl same
  | inr e1 ↦ elim (first_test (eqb b 64) Player c _ e1) [
    | inl (is, same) ↦ own_byte b 64 Player c is refl same
    | inr e2 ↦ elim (first_test (eqb b 43) PlayerOnGoal c _ e2) [
      | inl (is, same) ↦ own_byte b 43 PlayerOnGoal c is refl same
      | inr e3 ↦ elim (first_test (eqb b 36) Box c _ e3) [
        | inl (is, same) ↦ own_byte b 36 Box c is refl same
        | inr e4 ↦ elim (first_test (eqb b 42) BoxOnGoal c _ e4) [
          | inl (is, same) ↦ own_byte b 42 BoxOnGoal c is refl same
          | inr e5 ↦ elim (first_test (eqb b 46) Goal c _ e5) [
            | inl (is, same) ↦ own_byte b 46 Goal c is refl same
            | inr e6 ↦ elim (first_test (eqb b 32) Floor c _ e6) [
              | inl (is, same) ↦ own_byte b 32 Floor c is refl same
              | inr e7 ↦ by_dash b c e7
            ]
          ]
        ]
      ]
    ]
  ]
]

-- The digits that bytes begin with, and whether they are a count.
use Rattle.std.proofs.Common.{◌≡◌, ℕ, zero, suc, ◌+◌, ◌<◌, ◌≤◌, Bool, true, false, cond, List, [], ◌∷◌, ◌++◌, ◌⊎◌, length, take, drop, refl, sym, ap, subst}
use Rattle.std.proofs.Common.{inl, inr, arith}
use Rattle.std.specs.Char.{is_ascii_digit}
use Rattle.std.specs.List.{prefix_len}
use Rattle.std.proofs.lemmas.Bool.{cases_lt}
use Rattle.counts.specs.Counts.{AreDigits, begins_with_digit, decimal, repeats, IsCount, Means}
use Rattle.counts.specs.NoCount.{IsNoCount}

-- how many digits bytes begin with
abbrev pub digit_count : List ℕ → ℕ
digit_count bytes = prefix_len is_ascii_digit bytes

front_by : (b : ℕ) (bs : List ℕ) (v : Bool) → is_ascii_digit b ≡ v → AreDigits (take (digit_count bs) bs) →
    AreDigits (take (cond v (1 + digit_count bs) 0) (b ∷ bs))
front_by b bs true is rest = let f : suc (digit_count bs) ≡ 1 + digit_count bs = omega arith in subst (λ n. AreDigits (take n (b ∷ bs))) f (is, rest)
front_by b bs false is rest = tt

-- they are digits
pub digits_in_front : (bytes : List ℕ) → AreDigits (take (digit_count bytes) bytes)
digits_in_front [] = tt
digits_in_front (b ∷ bs) = front_by b bs (is_ascii_digit b) refl (digits_in_front bs)

end_by : (b : ℕ) (bs : List ℕ) (v : Bool) → is_ascii_digit b ≡ v → begins_with_digit (drop (digit_count bs) bs) ≡ false →
    begins_with_digit (drop (cond v (1 + digit_count bs) 0) (b ∷ bs)) ≡ false
end_by b bs true is rest = let f : suc (digit_count bs) ≡ 1 + digit_count bs = omega arith in subst (λ n. begins_with_digit (drop n (b ∷ bs)) ≡ false) f rest
end_by b bs false is rest = is

-- and no digit follows them
pub no_digit_behind : (bytes : List ℕ) → begins_with_digit (drop (digit_count bytes) bytes) ≡ false
no_digit_behind [] = refl
no_digit_behind (b ∷ bs) = end_by b bs (is_ascii_digit b) refl (no_digit_behind bs)

-- two runs of digits that begin the same bytes are one, if no digit follows either
pub record SameRun (ds es m n : List ℕ) : Type 0 where
  pub digits : ds ≡ es
  pub more : m ≡ n

pub one_run : (ds es m n : List ℕ) → AreDigits ds → AreDigits es → begins_with_digit m ≡ false → begins_with_digit n ≡ false → ds ++ m ≡ es ++ n →
    SameRun ds es m n
one_run [] [] m n all each none nothing same = record { digits = refl; more = same }
one_run [] (e ∷ es) m n all each none nothing same = let f = ap begins_with_digit same in let g = each.0 in absurd cc
one_run (d ∷ ds) [] m n all each none nothing same = let f = ap begins_with_digit same in let g = all.0 in absurd cc
one_run (d ∷ ds) (e ∷ es) m n all each none nothing same =
    let head : d ≡ e = cc in
    let tail : ds ++ m ≡ es ++ n = cc in
    let more = one_run ds es m n all.1 each.1 none nothing tail in
    let digits : ds ≡ es = more.digits in
    record { digits = cc; more = more.more }

-- what has a meaning is digits
pub digits_of_count : (ds : List ℕ) → (ds ≡ []) ⊎ IsCount ds → AreDigits ds
digits_of_count ds (inl none) = subst (λ (es : List ℕ). AreDigits es) (sym none) tt
digits_of_count ds (inr count) = count.all

some_by : (ds : List ℕ) → (ds ≡ []) ⊎ IsCount ds → 1 ≤ repeats ds
some_by ds (inl none) = subst (λ (es : List ℕ). 1 ≤ repeats es) (sym none) (omega arith)
some_by [] (inr count) = omega arith
some_by (d ∷ ds) (inr count) = count.positive

-- nothing is meant no times
pub means_some : (ds : List ℕ) (n : ℕ) → Means ds n → 1 ≤ n
means_some ds n means = let some = some_by ds means.0 in let e = means.1 in omega arith

-- what has a meaning is no bad count
pub means_or_not : (ds : List ℕ) (n : ℕ) → Means ds n → ¬ (IsNoCount ds)
means_or_not ds n (inl none, e) bad = let f : length ds ≡ 0 = ap (λ (es : List ℕ). length es) none in let some = bad.0 in absurd (omega arith)
means_or_not ds n (inr count, e) bad = bad.1 count

zero_or_not : (n : ℕ) → (n ≡ 0) ⊎ (1 ≤ n)
zero_or_not zero = inl refl
zero_or_not (suc n) = inr (omega arith)

-- too many digits are no count
pub too_long : (ds : List ℕ) → 4 < length ds → IsNoCount ds
too_long ds long = (omega arith, λ count. let short = count.short in absurd (omega arith))

-- digits that write 0 are no count
pub writes_nothing : (ds : List ℕ) → 1 ≤ length ds → decimal ds ≡ 0 → IsNoCount ds
writes_nothing ds some nothing = (some, λ count. let positive = count.positive in absurd (omega arith))

-- digits are a count, or none, or no count
pub count_or_not : (ds : List ℕ) → AreDigits ds → ((ds ≡ []) ⊎ IsCount ds) ⊎ IsNoCount ds
count_or_not [] all = inl (inl refl)
count_or_not (d ∷ ds) all = elim (cases_lt 4 (length (d ∷ ds))) [
  | inl long ↦ inr (too_long (d ∷ ds) long)
  | inr short ↦ elim (zero_or_not (decimal (d ∷ ds))) [
    | inl nothing ↦ inr (writes_nothing (d ∷ ds) (omega arith) nothing)
    | inr some ↦ inl (inr (record { all = all; short = short; positive = some }))
  ]
]

-- The number that digits write, one digit at a time.
use Rattle.std.proofs.Common.{◌≡◌, ℕ, zero, suc, ◌+◌, ◌-◌, ◌*◌, ◌^◌, ◌<◌, ◌≤◌, true, List, [], ◌∷◌, length, take, get_or, map, ap, ◌∙◌, arith}
use Rattle.std.specs.Char.{is_ascii_digit}
use Rattle.std.specs.Int.Digits.{number_from_digits}
use Rattle.std.proofs.lemmas.Grind.{pow_more}
use Rattle.std.proofs.lemmas.List.{take_more, map-append}
use Rattle.std.proofs.lemmas.Int.Digits.{number_push}
use Rattle.std.proofs.lemmas.Bool.Decides.{nat_tests}
use Rattle.counts.specs.Counts.{AreDigits, decimal}

-- a digit's byte is at most 57
pub digit_high : (b : ℕ) → is_ascii_digit b ≡ true → b ≤ 57
digit_high b is = grind (arith, nat_tests)

pub digit_there : (ds : List ℕ) (i : ℕ) → AreDigits ds → i < length ds → is_ascii_digit (get_or ds i 0) ≡ true
digit_there [] i all inside = absurd (omega arith)
digit_there (d ∷ ds) zero all inside = all.0
digit_there (d ∷ ds) (suc i) all inside = digit_there ds i all.1 (omega arith)

-- one digit more
pub decimal_more : (ds : List ℕ) (i : ℕ) → i < length ds → decimal (take (i + 1) ds) ≡ decimal (take i ds) * 10 + (get_or ds i 0 - 48)
decimal_more ds i inside =
    ap decimal (take_more ds i 0 inside)
    ∙ (ap (number_from_digits 10) (map-append (λ b. b - 48) (take i ds) (get_or ds i 0 ∷ []))
    ∙ number_push 10 (map (λ b. b - 48) (take i ds)) (get_or ds i 0 - 48))

-- a number with one digit more
pub below_next_power : (n i d : ℕ) → n < 10 ^ i → d ≤ 9 → n * 10 + d < 10 ^ (i + 1)
below_next_power n i d small one = let e = pow_more 10 i in omega arith

-- One and no other.
use Rattle.std.specs.Prelude.{◌≡◌}

-- `Is` holds of exactly one value
abbrev pub ExactlyOne : {A : Type 0} → (A → Type 0) → Type 0
ExactlyOne {A} Is = (a : A) × Is a × ((b : A) → Is b → b ≡ a)

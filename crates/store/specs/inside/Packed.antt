-- Origins in one word: the rank, then the square, then the direction.
use Rattle.std.proofs.Common.{◌≡◌, ℕ, zero, suc, ◌+◌, ◌*◌, ◌/◌, ◌%◌, ◌<◌, Bool, true, false, ◌==◌, Option, Some, None}
use Rattle.std.proofs.Common.{refl, if◌then◌else◌, arith}
use Rattle.std.proofs.lemmas.Bool.Decides.{nat_tests}
use Rattle.grid.specs.declared.dir.Dir.{Dir}
use Rattle.grid.specs.declared.dir.Dir.TheVariants.{D, L, R, U}
use Rattle.grid.specs.declared.square.Push.{Push}
use Rattle.grid.specs.Board.{dir_number}
use Rattle.store.specs.Entries.{Origin}
use Rattle.store.specs.declared.origin.TheConstants.{DIRECTIONS, SQUARES, NO_ORIGIN}

-- the direction with a number in the order d, l, r, u
abbrev pub dir_at : ℕ → Dir
dir_at zero = D
dir_at (suc zero) = L
dir_at (suc (suc zero)) = R
dir_at (suc (suc (suc n))) = U

-- the word of an origin
abbrev pub packed : Origin Push → ℕ
packed o = (o.0 * SQUARES + o.1.square) * DIRECTIONS + dir_number o.1.dir

-- the origin with a word
abbrev pub parted : ℕ → Origin Push
parted n = (n / DIRECTIONS / SQUARES, record { square = n / DIRECTIONS % SQUARES; dir = dir_at (n % DIRECTIONS) })

-- the word of an origin, or the word for none
abbrev pub closed_packed : Option (Origin Push) → ℕ
closed_packed None = NO_ORIGIN
closed_packed (Some o) = packed o

-- the origin with a word, if it has one
abbrev pub closed_parted : ℕ → Option (Origin Push)
closed_parted n = if n == NO_ORIGIN then None else Some (parted n)

-- the number of the direction with a number is that number
pub number_at : (n : ℕ) → n < DIRECTIONS → dir_number (dir_at n) ≡ n
number_at zero lt = refl
number_at (suc zero) lt = refl
number_at (suc (suc zero)) lt = refl
number_at (suc (suc (suc n))) lt = omega arith

-- each word is that of its origin
pub packed_parted : (n : ℕ) → packed (parted n) ≡ n
packed_parted n = let e = number_at (n % DIRECTIONS) (omega arith) in omega (arith, e)

-- each word is that of its origin, or of none
pub closed_packed_parted : (n : ℕ) → closed_packed (closed_parted n) ≡ n
closed_packed_parted n = go (n == NO_ORIGIN) refl
  where
    go : (b : Bool) → (n == NO_ORIGIN) ≡ b → closed_packed (if b then None else Some (parted n)) ≡ n
    go true e = grind (arith, nat_tests)
    go false e = packed_parted n

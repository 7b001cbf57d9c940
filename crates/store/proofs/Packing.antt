-- Words of origins, and their order.
use Rattle.std.proofs.Common.{◌≡◌, ℕ, ◌<◌, nat_lt, arith, nat_cmp}
use Rattle.std.proofs.lemmas.Bool.Decides.{nat_tests}
use Rattle.std.specs.Ordering.{is_lt}
use Rattle.grid.specs.declared.dir.Dir.{Dir}
use Rattle.grid.specs.Board.{push_cmp}
use Rattle.grid.proofs.lemmas.Orders.{then-assoc}
use Rattle.store.specs.Entries.{origin_cmp}
use Rattle.store.specs.declared.origin.TheConstants.{SQUARES}
use Rattle.store.specs.inside.Packed.{packed, parted}

-- an origin is that of its word
pub parted_packed : (r s : ℕ) (d : Dir) → s < SQUARES → parted (packed (r, record { square = s; dir = d })) ≡ (r, record { square = s; dir = d })
parted_packed r s d lt = grind arith

-- the order of the words is that of the origins
pub word_order : (m n : ℕ) → nat_cmp m n ≡ origin_cmp push_cmp (parted m) (parted n)
word_order m n = grind (arith, then-assoc, nat_tests)

-- the lesser of two words is the one that compares as less
pub less_word : (m n : ℕ) → nat_lt m n ≡ is_lt (nat_cmp m n)
less_word m n = grind (arith, nat_tests)

-- The bytes of a key: the low bytes of its squares in one row, and the high bytes in another one, which may be empty.
use Rattle.std.specs.Prelude.{◌≡◌, ℕ, zero, suc, ◌+◌, ◌*◌, ◌/◌, ◌%◌, ◌<◌, ◌≤◌, ◌==◌, ◌⊎◌, IsTrue, true, List, [], ◌∷◌}
use Rattle.std.specs.Prelude.{map, nat_eq, take, length}
use Rattle.std.specs.Prelude.{slice_get, slice_index_or, Some, fold}
use Rattle.std.specs.Cmp.{first_so, second_so, unsigned_Decides}
use Rattle.std.specs.Cmp.Lexicographic.{pointwise, bytes_decides}
use Rattle.std.specs.Hash as fed
use Rattle.std.specs.Hash.FoldHasher as folding
use Rattle.grid.specs.declared.square.Push.{Push}
use Rattle.grid.specs.Board.{Scene}
use Rattle.grid.specs.Rising.{is_rising}
use Rattle.store.specs.Entries.{OpenEntry, same_scene}
use Rattle.successors.specs.declared.parcel.Successor.{Successor}
use Rattle.store.specs.FoundView.{AreBelow}

-- n bytes: the first of xs, and then zeros
abbrev pub zero_padded : ℕ → List ℕ → List ℕ
zero_padded zero xs = []
zero_padded (suc n) [] = 0 ∷ zero_padded n []
zero_padded (suc n) (x ∷ xs) = x ∷ zero_padded n xs

abbrev pub low_bytes : List ℕ → List ℕ
low_bytes xs = map (λ x. x % 256) xs

abbrev pub high_bytes : List ℕ → List ℕ
high_bytes xs = map (λ x. x / 256) xs

-- squares from their low and high bytes; high bytes beyond the end of their row are 0
abbrev pub joined_bytes : List ℕ → List ℕ → List ℕ
joined_bytes [] hs = []
joined_bytes (l ∷ ls) [] = l ∷ joined_bytes ls []
joined_bytes (l ∷ ls) (h ∷ hs) = (l + 256 * h) ∷ joined_bytes ls hs

-- a position's squares in the order of a key: the player's, then those of the boxes
abbrev pub key_squares : Scene → List ℕ
key_squares m = m.player ∷ m.boxes

-- the position of count boxes that squares in this order give
abbrev pub scene_in : ℕ → List ℕ → Scene
scene_in count [] = record { boxes = []; player = 0 }
scene_in count (x ∷ xs) = record { boxes = take count xs; player = x }

-- the position that the fields of a key give
abbrev pub key_scene : ℕ → List ℕ → List ℕ → Scene
key_scene count low high = scene_in count (joined_bytes low high)

-- the fields of a key with n low and k high bytes: they are those of the position that they give
pub record IsKey (n k count : ℕ) (low high : List ℕ) : Type 0 where
  pub capacity : count < n
  pub counted : count ≡ length (key_scene count low high).boxes
  pub rising : is_rising (key_scene count low high).boxes ≡ true
  pub low_is : low ≡ zero_padded n (low_bytes (key_squares (key_scene count low high)))
  pub high_is : high ≡ zero_padded k (high_bytes (key_squares (key_scene count low high)))

-- a position has a key with n low and k high bytes: it has fewer than n boxes, and without high bytes its squares are
-- below 256
pub record Suits (n k : ℕ) (m : Scene) : Type 0 where
  pub capacity : length m.boxes < n
  pub bytes : (k ≡ n) ⊎ ((k ≡ 0) × AreBelow 256 (key_squares m))

-- the position of each successor has such a key
abbrev pub AllSuit : ℕ → ℕ → List Successor → Type 0
AllSuit n k ss = (i : ℕ) (s : Successor) → slice_get ss i ≡ Some s → Suits n k s.position

-- keys with n low and k high bytes suit all positions with at most boxes boxes on a grid of squares squares
pub record SuitsLevel (n k boxes squares : ℕ) : Type 0 where
  pub capacity : boxes < n
  pub bytes : (k ≡ n) ⊎ ((k ≡ 0) × (squares ≤ 256))

-- the row of high bytes, unless it is empty
abbrev pub high_writes : ℕ → Scene → fed.HashWrites
high_writes zero m = []
high_writes (suc k) m = zero_padded (suc k) (high_bytes (key_squares m)) ∷ []

-- the rows of a key that are hashed
abbrev pub key_writes : ℕ → ℕ → Scene → fed.HashWrites
key_writes n k m = zero_padded n (low_bytes (key_squares m)) ∷ high_writes k m

-- the number that a key passes to a hasher: the hash of its rows
unfoldable pub key_digest : ℕ → ℕ → Scene → ℕ
key_digest n k m = folding.finish (fold folding.write folding.initial (key_writes n k m))

-- the digests of the keys of offers
abbrev pub AreDigests : ℕ → ℕ → List (OpenEntry Scene Push) → List ℕ → Type 0
AreDigests n k offers digests =
    (i : ℕ) (o : OpenEntry Scene Push) → slice_get offers i ≡ Some o → slice_index_or digests i 0 ≡ key_digest n k o.0

-- equal positions have equal digests
pub digests_alike : (n k : ℕ) (s t : Scene) → IsTrue (same_scene s t) → key_digest n k s ≡ key_digest n k t
digests_alike n k s t same =
    let boxes = (bytes_decides s.boxes t.boxes).0
    (first_so (pointwise nat_eq s.boxes t.boxes) (s.player == t.player) same) in
    let player = (unsigned_Decides s.player t.player).0
    (second_so (pointwise nat_eq s.boxes t.boxes) (s.player == t.player) same) in
    λ i. key_digest n k (record { boxes = boxes i; player = player i })

-- what a key passes to a hasher: its digest
abbrev pub key_input : ℕ → ℕ → Scene → fed.HashWrites
key_input n k m = fed.u64 (key_digest n k m)

-- equal positions pass the same to a hasher
pub keys_alike : (n k : ℕ) (s t : Scene) → IsTrue (same_scene s t) → key_input n k s ≡ key_input n k t
keys_alike n k s t same = λ i. fed.u64 (digests_alike n k s t same i)

-- equal positions are equal to the same positions
pub same_alike : (q x y : Scene) → IsTrue (same_scene q x) → same_scene q y ≡ same_scene x y
same_alike q x y same =
    let boxes = (bytes_decides q.boxes x.boxes).0
    (first_so (pointwise nat_eq q.boxes x.boxes) (q.player == x.player) same) in
    let player = (unsigned_Decides q.player x.player).0
    (second_so (pointwise nat_eq q.boxes x.boxes) (q.player == x.player) same) in
    λ i. same_scene (record { boxes = boxes i; player = player i }) y

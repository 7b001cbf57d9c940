-- The rows of bytes of a key: how they are written, and what is read from them.
use Rattle.std.proofs.Common.{◌≡◌, ℕ, zero, suc, ◌+◌, ◌*◌, ◌/◌, ◌%◌, ◌<◌, ◌≤◌, true, List, [], ◌∷◌, ◌++◌, length}
use Rattle.std.proofs.Common.{map, take, drop, set, replicate, Some, add-one, refl, sym, ap, subst, ◌∙◌, arith}
use Rattle.std.proofs.lemmas.List.{length-map, length-take-le, take_more_set}
use Rattle.std.proofs.lemmas.Option.{same_Some}
use Rattle.std.specs.Prelude.{slice_get}
use Rattle.grid.specs.declared.square.Push.{Push}
use Rattle.grid.specs.Board.{Scene}
use Rattle.successors.specs.declared.parcel.Successor.{Successor}
use Rattle.store.specs.Entries.{OpenEntry, Closed}
use Rattle.grid.specs.Rising.{is_rising}
use Rattle.store.specs.FoundView.{AllFit, AreBelow, FitsGrid, FoundView, found_view}
use Rattle.store.specs.inside.KeyRows.{AllSuit, IsKey, Suits, SuitsLevel, high_bytes, joined_bytes, key_scene, key_squares, low_bytes, zero_padded}
use Rattle.store.specs.inside.KeyRows.{scene_in}
use Rattle.successors.proofs.lemmas.Lists.{map-push}

-- ---- how they are written

pub zeros : (n : ℕ) → replicate n 0 ≡ zero_padded n []
zeros zero = refl
zeros (suc n) = ap (λ xs. 0 ∷ xs) (zeros n)

pub long : (n : ℕ) (xs : List ℕ) → length (zero_padded n xs) ≡ n
long zero xs = refl
long (suc n) [] = ap suc (long n [])
long (suc n) (x ∷ xs) = ap suc (long n xs)

-- in a row of no bytes nothing is written
pub no_row : (row xs : List ℕ) → length row ≡ 0 → row ≡ zero_padded (length row) xs
no_row [] xs e = refl
no_row (x ∷ row) xs e = absurd (omega (arith, e))

pub no_room : (n boxes : ℕ) → (0 < n → boxes < n) → n ≤ boxes → n ≡ 0
no_room zero boxes f le = refl
no_room (suc n) boxes f le = absurd (omega (arith, f (omega arith), le))

-- one more byte is written behind the others
set_padded : (n : ℕ) (xs : List ℕ) (y : ℕ) → length xs < n → set (zero_padded n xs) (length xs) y ≡ zero_padded n (xs ++ y ∷ [])
set_padded zero xs y lt = absurd (omega arith)
set_padded (suc n) [] y lt = refl
set_padded (suc n) (x ∷ xs) y lt = ap (λ zs. x ∷ zs) (set_padded n xs y (omega arith))

pub first_written : (n x : ℕ) → 0 < n → set (zero_padded n []) 0 x ≡ zero_padded n (x ∷ [])
first_written zero x lt = absurd (omega arith)
first_written (suc n) x lt = refl

pub more_written : (f : ℕ → ℕ) (n place p x : ℕ) (boxes row : List ℕ) → row ≡ zero_padded n (map f (p ∷ take place boxes)) →
    take (place + 1) boxes ≡ take place boxes ++ x ∷ [] → place < length boxes → place + 1 < n →
    set row (place + 1) (f x) ≡ zero_padded n (map f (p ∷ take (place + 1) boxes))
more_written f n place p x boxes row is more lt room =
    let before = map f (p ∷ take place boxes) in
    let count : length before ≡ place + 1 = omega (arith, length-map (p ∷ take place boxes) f, length-take-le place boxes (omega arith)) in
    (λ i. set (is i) (sym count i) (f x)) ∙ set_padded n before (f x) (omega (arith, count))
    ∙ ap (zero_padded n) (sym (map-push f (p ∷ take place boxes) x) ∙ ap (λ xs. map f (p ∷ xs)) (sym more))

-- ---- what is read

low_back : (n : ℕ) (xs : List ℕ) → length xs ≤ n → AreBelow 256 xs → take (length xs) (joined_bytes (zero_padded n (low_bytes xs)) []) ≡ xs
low_back n [] le below = refl
low_back zero (x ∷ xs) le below = absurd (omega arith)
low_back (suc n) (x ∷ xs) le below = let e : x % 256 ≡ x = omega (arith, below.0) in λ i. e i ∷ low_back n xs (omega arith) below.1 i

both_back : (n : ℕ) (xs : List ℕ) → length xs ≤ n → take (length xs) (joined_bytes (zero_padded n (low_bytes xs)) (zero_padded n (high_bytes xs))) ≡ xs
both_back n [] le = refl
both_back zero (x ∷ xs) le = absurd (omega arith)
both_back (suc n) (x ∷ xs) le = let e : x % 256 + 256 * (x / 256) ≡ x = omega arith in λ i. e i ∷ both_back n xs (omega arith) i

back : (n k : ℕ) (m : Scene) → Suits n k m →
    take (length (key_squares m)) (joined_bytes (zero_padded n (low_bytes (key_squares m))) (zero_padded k (high_bytes (key_squares m)))) ≡ key_squares m
back n k m suits = grind (arith, suits, both_back, low_back)

in_row : (row : List ℕ) (m : Scene) → take (length (key_squares m)) row ≡ key_squares m → scene_in (length m.boxes) row ≡ m
in_row [] m e = absurd (let n : 0 ≡ suc (length m.boxes) = ap length e in omega (arith, n))
in_row (x ∷ xs) m e = grind arith

-- the rows of a position show it
pub shown : (n k : ℕ) (m : Scene) → Suits n k m → key_scene (length m.boxes) (zero_padded n (low_bytes (key_squares m))) (zero_padded k (high_bytes (key_squares m))) ≡ m
shown n k m suits = in_row (joined_bytes (zero_padded n (low_bytes (key_squares m))) (zero_padded k (high_bytes (key_squares m)))) m (back n k m suits)

pub is_key : (n k count : ℕ) (low high : List ℕ) (m : Scene) → Suits n k m → is_rising m.boxes ≡ true → count ≡ length m.boxes →
    low ≡ zero_padded n (low_bytes (key_squares m)) → high ≡ zero_padded k (high_bytes (key_squares m)) → IsKey n k count low high × (key_scene count low high ≡ m)
is_key n k count low high m suits rising count_is low_is high_is = grind (arith, shown, suits)

pub joined_at : (low high : List ℕ) (place l h : ℕ) → slice_get low place ≡ Some l → slice_get high place ≡ Some h →
    slice_get (joined_bytes low high) place ≡ Some (l + 256 * h)
joined_at [] high place l h e f = cc
joined_at (x ∷ low) [] place l h e f = cc
joined_at (x ∷ low) (y ∷ high) zero l h e f = let s = same_Some x l e in let t = same_Some y h f in λ i. Some (s i + 256 * t i)
joined_at (x ∷ low) (y ∷ high) (suc place) l h e f = joined_at low high place l h e f

pub joined_past : (low high : List ℕ) (place l : ℕ) → slice_get low place ≡ Some l → length high ≤ place → slice_get (joined_bytes low high) place ≡ Some l
joined_past [] high place l e le = cc
joined_past (x ∷ low) [] zero l e le = e
joined_past (x ∷ low) [] (suc place) l e le = joined_past low [] place l e (omega arith)
joined_past (x ∷ low) (y ∷ high) zero l e le = absurd (omega arith)
joined_past (x ∷ low) (y ∷ high) (suc place) l e le = joined_past low high place l e (omega arith)

taken : (xs : List ℕ) (i x : ℕ) → slice_get xs i ≡ Some x → take (suc i) xs ≡ take i xs ++ x ∷ []
taken [] i x at = cc
taken (y ∷ []) zero x at = ap (λ z. z ∷ []) (same_Some y x at)
taken (y ∷ z ∷ xs) zero x at = ap (λ z. z ∷ []) (same_Some y x at)
taken (y ∷ xs) (suc i) x at = ap (λ zs. y ∷ zs) (taken xs i x at)

-- one more square was read
pub one_more : (xs ys more : List ℕ) (i x : ℕ) → ys ≡ take i xs → slice_get xs i ≡ Some x → more ≡ ys ++ x ∷ [] → more ≡ take (i + 1) xs
one_more xs ys more i x e at is = is ∙ ap (λ zs. zs ++ x ∷ []) e ∙ sym (taken xs i x at) ∙ ap (λ k. take k xs) (sym (add-one i))

-- one more square was written to a row
pub one_written : (row ys : List ℕ) (i x : ℕ) → take i row ≡ take i ys → slice_get ys i ≡ Some x → i < length row → take (i + 1) (set row i x) ≡ take (i + 1) ys
one_written row ys i x e at lt = one_more ys (take i row) (take (i + 1) (set row i x)) i x e at (take_more_set row i x lt)

pub behind_first : (xs : List ℕ) (i x : ℕ) → slice_get xs (i + 1) ≡ Some x → slice_get (drop 1 xs) i ≡ Some x
behind_first xs i x at = grind arith

-- a key that was made of a position's squares shows it
pub made : (n k count player : ℕ) (low high boxes : List ℕ) (m : Scene) → Suits n k m → boxes ≡ m.boxes → player ≡ m.player → is_rising boxes ≡ true →
    count ≡ length boxes →
    low ≡ zero_padded (length {A = ℕ} (replicate n 0)) (low_bytes (player ∷ boxes)) → high ≡ zero_padded (length {A = ℕ} (replicate k 0)) (high_bytes (player ∷ boxes)) →
    IsKey n k count low high × (key_scene count low high ≡ m)
made n k count player low high boxes m suits boxes_are player_is rising counted low_is high_is =
    is_key n k count low high m suits (ap is_rising (sym boxes_are) ∙ rising) (counted ∙ ap length boxes_are)
    (low_is ∙ (λ i. zero_padded (length (zeros n i)) (low_bytes (player_is i ∷ boxes_are i))) ∙ ap (λ j. zero_padded j (low_bytes (key_squares m))) (long n []))
    (high_is ∙ (λ i. zero_padded (length (zeros k i)) (high_bytes (player_is i ∷ boxes_are i))) ∙ ap (λ j. zero_padded j (high_bytes (key_squares m))) (long k []))

-- ---- comparing

-- ---- feeding a hasher

-- ---- positions of a level

below_more : (n k : ℕ) (xs : List ℕ) → n ≤ k → AreBelow n xs → AreBelow k xs
below_more n k [] le below = tt
below_more n k (x ∷ xs) le below = (omega (arith, below.0), below_more n k xs le below.1)

-- keys that suit a level suit its positions
pub suits : (n k boxes squares : ℕ) (m : Scene) → SuitsLevel n k boxes squares → FitsGrid boxes squares m → Suits n k m
suits n k boxes squares m level fits = grind (arith, below_more)

-- so they suit what fits what is found
pub found_suit : (n k boxes squares start : ℕ) (es : List Closed) (pending : List (OpenEntry Scene Push)) (v : FoundView) (ss : List Successor) →
    SuitsLevel n k boxes squares → found_view boxes squares start es pending ≡ v → AllFit v ss → AllSuit n k ss
found_suit n k boxes squares start es pending v ss level view fit = λ i s at.
    suits n k v.boxes v.squares s.position (subst (λ (u : FoundView). SuitsLevel n k u.boxes u.squares) view level) (fit.each i s at)

pub carried : (v w : FoundView) (ss : List Successor) → v ≡ w → AllFit w ss → AllFit v ss
carried v w ss e fit = subst (λ u. AllFit u ss) (sym e) fit

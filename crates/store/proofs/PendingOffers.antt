-- Pending offers: which they are, and the open positions after they have entered.
use Rattle.std.proofs.Common.{◌≡◌, ℕ, zero, suc, get_or, ◌+◌, ◌-◌, ◌≤◌, Bool, false, ltb, List, [], ◌∷◌, ◌++◌, length}
use Rattle.std.proofs.Common.{map, fold, take, drop, Some, Result, Ok, Err, refl, sym, ap, ◌∙◌, arith}
use Rattle.std.proofs.lemmas.Bool.Decides.{nat_tests}
use Rattle.std.proofs.lemmas.List.{append-nil, length-append, length-map, take-append-drop}
use Rattle.std.proofs.lemmas.List.Sums.{fold-append, fold_push}
use Rattle.std.proofs.Math.Seq.{take-length}
use Rattle.std.proofs.lemmas.Option.{same_Some}
use Rattle.std.specs.Prelude.{OnErr, slice_get}
use Rattle.grid.specs.declared.square.Push.{Push}
use Rattle.grid.specs.Board.{Scene}
use Rattle.store.specs.Entries.{OpenEntry, Closed}
use Rattle.successors.specs.declared.parcel.Successor.{Successor}
use Rattle.successors.specs.inside.Sums.{AreSums, scene_sum}
use Rattle.store.specs.Entering.{closed_entry, is_wanted_in, entered, IsSortedAppend}
use Rattle.store.specs.FoundView.{FoundView, found_view, seen_of, open_of, IsFound, let_in, all_let_in, offer_of, offers_of, with_entered}
use Rattle.store.proofs.lemmas.Offers.{length-offered}
use Rattle.store.proofs.Tails.{split}

-- ---- which they are

-- one more successor's offer is the last
pub offers_more : (shares share rank : ℕ) (ss : List Successor) (s : Successor) →
    offers_of shares share rank (ss ++ s ∷ []) ≡ offers_of shares share rank ss ++ offer_of shares share rank s
offers_more shares share rank [] s = append-nil (offer_of shares share rank s)
offers_more shares share rank (t ∷ ss) s = grind (arith, offers_more shares share rank ss s)

-- the sum beside a successor is that of its position
pub sum_beside : (ss : List Successor) (sums : List ℕ) (place : ℕ) (s : Successor) → AreSums ss sums → slice_get ss place ≡ Some s →
    get_or sums place 0 ≡ scene_sum s.position
sum_beside ss sums place s are at = ap (λ xs. get_or xs place 0) are ∙ go ss place at
  where
    go : (ts : List Successor) (i : ℕ) → slice_get ts i ≡ Some s → get_or (map (λ (t : Successor). scene_sum t.position) ts) i 0 ≡ scene_sum s.position
    go [] i e = cc
    go (t ∷ ts) zero e = ap (λ (u : Successor). scene_sum u.position) (same_Some t s e)
    go (t ∷ ts) (suc i) e = go ts i e

-- there are no more offers than successors
pub length-offers : (shares share rank : ℕ) (ss : List Successor) → length (offers_of shares share rank ss) ≤ length ss
length-offers shares share rank [] = omega arith
length-offers shares share rank (s ∷ ss) = grind (arith, length-offers shares share rank ss)

-- ---- how they enter

-- one more offer enters after the others
pub let_in_more : (seen : List Closed) (ws offers : List (OpenEntry Scene Push)) (e : OpenEntry Scene Push) →
    all_let_in seen ws (offers ++ e ∷ []) ≡ let_in seen (all_let_in seen ws offers) e
let_in_more seen ws offers e = fold_push (let_in seen) ws offers e

-- the first count offers enter, and then the others
pub let_in_parts : (seen : List Closed) (ws offers : List (OpenEntry Scene Push)) (count : ℕ) →
    all_let_in seen (all_let_in seen ws (take count offers)) (drop count offers) ≡ all_let_in seen ws offers
let_in_parts seen ws offers count = sym (fold-append (let_in seen) ws (take count offers) (drop count offers)) ∙
    ap (λ xs. all_let_in seen ws xs) (take-append-drop count offers)

-- if none is left, all have entered
pub all_entered : (seen : List Closed) (ws rest after : List (OpenEntry Scene Push)) → length rest ≡ 0 → all_let_in seen ws rest ≡ after → ws ≡ after
all_entered seen ws [] after none e = e
all_entered seen ws (x ∷ rest) after none e = absurd (omega (arith, none))

-- there is capacity for those that are left
pub fewer_wait : (count old new : ℕ) (rest left : List (OpenEntry Scene Push)) → left ≡ drop count rest → length rest ≤ old →
    old ≤ new + length (take count rest) → length left ≤ new
fewer_wait count old new rest left is room used =
    omega (arith, ap length is, length-append (take count rest) (drop count rest), ap length (take-append-drop count rest), room, used)

-- and no more of it is used than there were offers
pub fewer_used : (first all count old new : ℕ) (rest left : List (OpenEntry Scene Push)) → left ≡ drop count rest → first + length rest ≤ old + all →
    old ≤ new + length (take count rest) → first + length left ≤ new + all
fewer_used first all count old new rest left is before used =
    omega (arith, ap length is, length-append (take count rest) (drop count rest), ap length (take-append-drop count rest), before, used)

-- the offers of a rank's successors enter as the wanted successors do
pub let_in_offers : (seen : List Closed) (shares share rank : ℕ) (ss : List Successor) (ws : List (OpenEntry Scene Push)) →
    all_let_in seen ws (offers_of shares share rank ss) ≡ fold (entered (is_wanted_in seen shares share) rank) ws ss
let_in_offers seen shares share rank [] ws = refl
let_in_offers seen shares share rank (s ∷ ss) ws =
    grind (arith, let_in_offers seen shares share rank ss (all_let_in seen ws (offer_of shares share rank s)))

-- so if the offers of a rank's successors are pending too, what is found is the same as if they had entered
pub offers_appended : (boxes squares start shares share rank : ℕ) (es : List Closed) (pending : List (OpenEntry Scene Push)) (ss : List Successor) (v : FoundView) →
    found_view boxes squares start es pending ≡ v →
    found_view boxes squares start es (pending ++ offers_of shares share rank ss) ≡ with_entered v shares share rank ss
offers_appended boxes squares start shares share rank es pending ss v view = grind (arith, fold-append, let_in_offers)

-- ---- how many they are

-- an offer opens at most one more position
length-let_in : (seen : List Closed) (ws : List (OpenEntry Scene Push)) (e : OpenEntry Scene Push) → (length ws ≤ length (let_in seen ws e)) ×
    (length (let_in seen ws e) ≤ length ws + 1)
length-let_in seen ws e = grind (arith, length-offered)

pub length-all_let_in : (seen : List Closed) (offers ws : List (OpenEntry Scene Push)) → (length ws ≤ length (all_let_in seen ws offers)) ×
    (length (all_let_in seen ws offers) ≤ length ws + length offers)
length-all_let_in seen [] ws = (omega arith, omega arith)
length-all_let_in seen (e ∷ offers) ws =
    grind (arith, length-all_let_in seen offers (let_in seen ws e), length-let_in)

-- the entries are the closed ones and the open ones
pub length-split : (start : ℕ) (es : List Closed) → IsFound start es → length es ≡ length (seen_of start es) + length (open_of start es)
length-split start es found = omega (
  arith,
  ap length (split start es found),
  length-append (seen_of start es) (map closed_entry (open_of start es)),
  length-map (open_of start es) closed_entry,
)

-- the map has at most as many positions as were found; with the pending offers it has at least as many
pub length-found : (boxes squares start : ℕ) (es : List Closed) (pending : List (OpenEntry Scene Push)) (v : FoundView) → IsFound start es →
    found_view boxes squares start es pending ≡ v → (length es ≤ length v.seen + length v.waiting) × (length v.seen + length v.waiting ≤ length es + length pending)
length-found boxes squares start es pending v found view = grind (arith, length-split, length-all_let_in)

-- ---- the limit

length-entered-le : (wanted : Scene → Bool) (rank : ℕ) (ss : List Successor) (es : List (OpenEntry Scene Push)) →
    length (fold (entered wanted rank) es ss) ≤ length es + length ss
length-entered-le wanted rank [] es = omega arith
length-entered-le wanted rank (s ∷ ss) es =
    grind (arith, length-entered-le wanted rank ss (entered wanted rank es s), length-offered)

-- if the limit admits all pending offers and all successors, it is not passed
pub within_limit : (limit shares share rank held waits : ℕ) (ss : List Successor) (v : FoundView) → length v.seen + length v.waiting ≤ held + waits →
    held ≤ limit → waits + length ss ≤ limit - held →
    false ≡ ltb limit (length v.seen + length (with_entered v shares share rank ss).waiting)
within_limit limit shares share rank held waits ss v few le room = grind (arith, length-entered-le, nat_tests)

-- otherwise the new positions are counted, once no offer is pending
pub counted_limit : (boxes squares start limit shares share rank held n : ℕ) (es : List Closed) (ss : List Successor) (v : FoundView) → IsFound start es →
    found_view boxes squares start es [] ≡ v → held ≡ length es → held ≤ limit →
    length (fold (entered (is_wanted_in (seen_of start es) shares share) rank) (open_of start es) ss) ≡ length (open_of start es) + n →
    ltb (limit - held) n ≡ ltb limit (length v.seen + length (with_entered v shares share rank ss).waiting)
counted_limit boxes squares start limit shares share rank held n es ss v found view is le count =
    grind (arith, length-split, nat_tests)

-- ---- a close

-- once no offer is pending, the open entries are closed after the others
pub all_closed : (boxes squares start n : ℕ) (es new : List Closed) (v : FoundView) → found_view boxes squares start es [] ≡ v → n ≡ length new →
    IsSortedAppend (seen_of start es) (open_of start es) new → IsSortedAppend v.seen v.waiting (seen_of n new)
all_closed boxes squares start n es new v view long sorted = grind (arith, take-length)

pub on_err : {T E : Type 0} {P : Type 0} (r : Result T E) → P → OnErr r P
on_err (Ok x) h = tt
on_err (Err e) h = h

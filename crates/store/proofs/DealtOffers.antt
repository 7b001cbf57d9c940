-- The offers of successors that are dealt to the shares.
use Rattle.std.proofs.Common.{◌≡◌, ℕ, suc, ◌+◌, ◌<◌, List, [], ◌∷◌, ◌++◌, length, take, get_or, Some, refl, sym, ap, ◌∙◌}
use Rattle.std.proofs.Common.{arith}
use Rattle.std.proofs.lemmas.List.{append-nil, append_assoc, length-append, take_more}
use Rattle.std.proofs.lemmas.Option.{slice_get-get_or}
use Rattle.std.specs.Prelude.{slice_get}
use Rattle.grid.specs.declared.square.Push.{Push}
use Rattle.grid.specs.Board.{Scene}
use Rattle.store.specs.Entries.{OpenEntry}
use Rattle.store.specs.FoundView.{offers_of}
use Rattle.successors.specs.declared.parcel.Successor.{Successor}
use Rattle.successors.specs.inside.Dealt.{share_places, successor_places}
use Rattle.successors.proofs.lemmas.Dealt.{put_if, sums_of}
use Rattle.store.specs.inside.Offers.{offer_in, offers_at}

-- one more place has the last offer
pub offers_at_more : (rank : ℕ) (ss : List Successor) (ps : List ℕ) (p : ℕ) →
    offers_at rank ss (ps ++ p ∷ []) ≡ offers_at rank ss ps ++ offer_in rank (slice_get ss p)
offers_at_more rank ss [] p = append-nil (offer_in rank (slice_get ss p))
offers_at_more rank ss (q ∷ ps) p = grind (arith, offers_at_more rank ss ps p)

-- so one more place is looked at
pub offer_more : (rank i p : ℕ) (ss : List Successor) (places : List ℕ) (s : Successor) (before now after : List (OpenEntry Scene Push)) →
    i < length places → p ≡ get_or places i 0 → p < length ss → s ≡ get_or ss p s →
    now ≡ before ++ offers_at rank ss (take i places) → after ≡ now ++ offer_in rank (Some s) → after ≡ before ++ offers_at rank ss (take (i + 1) places)
offer_more rank i p ss places s before now after lt is within here was e =
    let more : take (i + 1) places ≡ take i places ++ p ∷ [] = take_more places i 0 lt ∙ ap (λ n. take i places ++ n ∷ []) (sym is) in
    let there : slice_get ss p ≡ Some s = slice_get-get_or ss p s within ∙ ap (λ (x : Successor). Some x) (sym here) in
    e ∙ (λ j. was j ++ offer_in rank (sym there j)) ∙ append_assoc before (offers_at rank ss (take i places)) (offer_in rank (slice_get ss p))
    ∙ ap (λ es. before ++ es) (sym (ap (offers_at rank ss) more ∙ offers_at_more rank ss (take i places) p))

at_middle : {A : Type 0} (xs : List A) (y : A) (ys : List A) → slice_get (xs ++ y ∷ ys) (length xs) ≡ Some y
at_middle [] y ys = refl
at_middle (x ∷ xs) y ys = at_middle xs y ys

-- the offers at the places of a share are the offers of the share
share_offers : (shares share rank k : ℕ) (before ss : List Successor) → k ≡ length before →
    offers_at rank (before ++ ss) (share_places shares share k (sums_of ss)) ≡ offers_of shares share rank ss
share_offers shares share rank k before [] e = refl
share_offers shares share rank k before (s ∷ ss) e =
    grind (arith, share_offers shares share rank (suc k) (before ++ s ∷ []) ss (omega (arith, e, length-append before (s ∷ []))), length-append, sums_of, at_middle, put_if, append_assoc)

-- so with the offers at the places of a share appended, those of the share are
pub dealt_offers : (shares share rank told : ℕ) (found ss : List Successor) (places : List ℕ) (before after : List (OpenEntry Scene Push)) →
    after ≡ before ++ offers_at told found places → told ≡ rank → found ≡ ss → places ≡ successor_places shares share ss →
    after ≡ before ++ offers_of shares share rank ss
dealt_offers shares share rank told found ss places before after e same_rank same are =
    e ∙ (λ i. before ++ offers_at (same_rank i) (same i) (are i)) ∙ ap (λ es. before ++ es) (share_offers shares share rank 0 [] ss refl)

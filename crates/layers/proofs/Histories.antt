-- What a book keeps under any list of events, and what their order decides.
use Rattle.std.proofs.Common.{◌≡◌, ℕ, zero, suc, ◌<◌, ◌≤◌, Bool, true, false, List, [], ◌∷◌, ◌++◌, length, drop, get_or, Option, Some, None, refl, sym, ap}
use Rattle.std.proofs.Common.{set, subst, ◌∙◌, arith}
use Rattle.std.proofs.lemmas.List.{length-append, length-map, length-set}
use Rattle.std.proofs.lemmas.Option.{same_Some, slice_get_within}
use Rattle.std.specs.Prelude.{slice_get}
use Rattle.std.specs.declared.cmp.Ordering.TheVariants.{Less}
use Rattle.std.specs.Cmp.Lexicographic.{slice_cmp}
use Rattle.grid.specs.declared.square.Push.{Push}
use Rattle.grid.specs.Board.{Scene, push_cmp}
use Rattle.successors.specs.Problems.{Problem}
use Rattle.grid.specs.Lawful.{IsLevel}
use Rattle.layers.specs.declared.fault.Refusal.{Refusal}
use Rattle.layers.specs.declared.fault.Refusal.TheVariants.{OtherLevel, OtherLayer, NoSuchRank, Double, Over, OutOfMemory}
use Rattle.store.specs.Entries.{Origin, Closed, places_of}
use Rattle.successors.specs.Reaching.{Reaches, IsLayerOf}
use Rattle.layers.specs.Origins.{HasOrigin}
use Rattle.successors.specs.ParcelView.{ParcelView, IsParcel}
use Rattle.layers.specs.BookView.{BookView, HasClosedOrigin, IsShareOfLayer, AreBounds, IsLawfulBook}
use Rattle.layers.specs.Books.{IsNewBook, HandBackRefused, after_refusal, with_closed}
use Rattle.layers.specs.Events.{BookEvent, Happens, History, AreMadeAlike, KeepsClosed, CloseAlike}
use Rattle.layers.specs.Events.BookEvent.{begins, begin_refused, claims, hands_back, hand_back_refused, reopens, closes, close_refused}
use Rattle.layers.specs.Events.History.{nothing, event}
use Rattle.layers.proofs.lemmas.Books.{level_laws, read_at, same_places}
use Rattle.layers.proofs.lemmas.BookEvents.{lawful_begin, lawful_claimed, marks_long, lawful_parcel, lawful_over, lawful_closed}
use Rattle.successors.proofs.lemmas.Lists.{map_at, at_before}
use Rattle.layers.proofs.lemmas.Exchange.{lead_unique}
use Rattle.layers.proofs.First.{lawful_new}
use Rattle.layers.proofs.lemmas.Layers.{layer_unique, place_unique}

-- ---- one event

refused_lawful : (v : BookView) (parcel : ParcelView) (refusal : Refusal) → IsLawfulBook v → IsParcel parcel → HandBackRefused v parcel refusal →
    IsLawfulBook (after_refusal v refusal)
refused_lawful v parcel OtherLevel book is why = book
refused_lawful v parcel OtherLayer book is why = book
refused_lawful v parcel NoSuchRank book is why = book
refused_lawful v parcel Double book is why = book
refused_lawful v parcel Over book is why = lawful_over v parcel book is why.0 why.1 why.2
refused_lawful v parcel OutOfMemory book is why = book

happens_lawful : (v : BookView) (e : BookEvent) (w : BookView) → IsLawfulBook v → Happens v e w → IsLawfulBook w
happens_lawful v (begins layer) w book did = subst IsLawfulBook (sym did.2) (lawful_begin v layer book did.0 did.1)
happens_lawful v (begin_refused layer fault) w book did = subst IsLawfulBook (sym did.2) book
happens_lawful v (claims None) w book did = subst IsLawfulBook (sym did.1) book
happens_lawful v (claims (Some claim)) w book did = subst IsLawfulBook (sym did.3)
    (lawful_claimed v (set v.claimed claim.rank true) (length-set v.claimed claim.rank true) book)
happens_lawful v (hands_back worker parcel) w book did = subst IsLawfulBook (sym did.3) (lawful_parcel v worker parcel book did.0 did.1 did.2)
happens_lawful v (hand_back_refused worker parcel refusal) w book did = subst IsLawfulBook (sym did.3) (refused_lawful v parcel refusal book did.1 did.2)
happens_lawful v reopens w book did = subst IsLawfulBook (sym did) (lawful_claimed v v.done (sym (marks_long v book)) book)
happens_lawful v (closes report) w book did = subst IsLawfulBook (sym did.1.2) (lawful_closed v did.1.0 book did.0 did.1.1)
happens_lawful v (close_refused fault) w book did = subst IsLawfulBook (sym did.1) book

-- what the book was made with, and its closed lists, stay
abbrev Lasts : BookView → BookView → Type 0
Lasts v w = AreMadeAlike v w × KeepsClosed v w

lasts_itself : (v : BookView) → Lasts v v
lasts_itself v = ((refl, refl, refl, refl, refl), λ k es found. found)

lasts_since : (v w u : BookView) → w ≡ u → Lasts v u → Lasts v w
lasts_since v w u e lasts = subst (Lasts v) (sym e) lasts

refused_lasts : (v : BookView) (refusal : Refusal) → Lasts v (after_refusal v refusal)
refused_lasts v OtherLevel = lasts_itself v
refused_lasts v OtherLayer = lasts_itself v
refused_lasts v NoSuchRank = lasts_itself v
refused_lasts v Double = lasts_itself v
refused_lasts v Over = lasts_itself v
refused_lasts v OutOfMemory = lasts_itself v

happens_lasts : (v : BookView) (e : BookEvent) (w : BookView) → Happens v e w → Lasts v w
happens_lasts v (begins layer) w did = lasts_since v w _ did.2 (lasts_itself v)
happens_lasts v (begin_refused layer fault) w did = lasts_since v w v did.2 (lasts_itself v)
happens_lasts v (claims None) w did = lasts_since v w v did.1 (lasts_itself v)
happens_lasts v (claims (Some claim)) w did = lasts_since v w _ did.3 (lasts_itself v)
happens_lasts v (hands_back worker parcel) w did = lasts_since v w _ did.3 (lasts_itself v)
happens_lasts v (hand_back_refused worker parcel refusal) w did = lasts_since v w _ did.3 (refused_lasts v refusal)
happens_lasts v reopens w did = lasts_since v w _ did (lasts_itself v)
happens_lasts v (closes report) w did = lasts_since v w (with_closed v did.1.0) did.1.2
    ((refl, refl, refl, refl, refl), λ k es found. at_before v.closed (did.1.0 ∷ []) k es found)
happens_lasts v (close_refused fault) w did = lasts_since v w v did.1 (lasts_itself v)

-- ---- any list of events

pub history_lawful : (v w : BookView) (es : List BookEvent) → IsLawfulBook v → History v es w → IsLawfulBook w
history_lawful v _ [] book nothing = book
history_lawful v w (e ∷ es) book (event {m = m} did rest) = history_lawful m w es (happens_lawful v e m book did) rest

pub history_made : (v w : BookView) (es : List BookEvent) → History v es w → AreMadeAlike v w
history_made v _ [] nothing = (refl, refl, refl, refl, refl)
history_made v w (e ∷ es) (event {m = m} did rest) = grind (arith, history_made m w es rest)

pub history_closed : (v w : BookView) (es : List BookEvent) → History v es w → KeepsClosed v w
history_closed v _ [] nothing = λ k xs found. found
history_closed v w (e ∷ es) (event {m = m} did rest) = λ k xs found. history_closed m w es rest k xs ((happens_lasts v e m did).1 k xs found)

-- ---- a new book

none_before : (ps qs : List Push) → length ps ≡ 0 → length qs ≡ 0 → slice_cmp push_cmp ps qs ≡ Less → ⊥
none_before [] [] a b e = cc
none_before [] (q ∷ qs) a b e = omega arith
none_before (p ∷ ps) qs a b e = omega arith

-- layer 0 has no more than one position
first_few : (problem : Problem) (shares share : ℕ) (es : List Closed) → IsShareOfLayer problem shares share 0 es → length es ≤ 1
first_few problem shares share [] l = omega arith
first_few problem shares share (x ∷ []) l = omega arith
first_few problem shares share (x ∷ y ∷ es) l =
    let u = (l.layer.leads 0 x.0 refl).1 in let w = (l.layer.leads 1 y.0 refl).1 in
    absurd (none_before u.0 w.0 u.2 w.2 (l.layer.rise 0 1 x.0 y.0 u.0 w.0 (omega arith) refl refl u.1 w.1))

pub new_lawful : (problem : Problem) (limit workers share shares : ℕ) (v : BookView) → IsLevel problem.board → AreBounds limit workers share shares →
    IsNewBook problem limit workers share shares v → IsLawfulBook v
new_lawful problem limit workers share shares v lawful bounds new =
    let m = new.made_with in let c = new.closed in let n = new.nothing in
    let few = first_few problem shares share c.0 c.2 in
    subst IsLawfulBook
    (λ i. record {
      level = sym m.0 i;
      limit = sym m.1 i;
      workers = sym m.2 i;
      share = sym m.3 i;
      shares = sym m.4 i;
      closed = sym c.1 i;
      begun = sym new.begun i;
      claimed = sym n.0 i;
      done = sym n.1 i;
      waiting = sym n.2 i;
      tallies = sym new.tallies i;
      over = sym new.over i;
    }) (lawful_new problem limit workers share shares c.0 lawful bounds c.2 (let some = bounds.limits.0 in omega arith))

-- ---- the order of events

push_same : {A : Type 0} (xs ys : List A) (x y : A) → xs ++ x ∷ [] ≡ ys ++ y ∷ [] → (xs ≡ ys) × (x ≡ y)
push_same [] [] x y e = (refl, same_Some x y (ap (λ zs. slice_get zs 0) e))
push_same [] (b ∷ ys) x y e = absurd (omega (arith, ap length e, length-append ys (y ∷ [])))
push_same (a ∷ xs) [] x y e = absurd (omega (arith, ap length e, length-append xs (x ∷ [])))
push_same (a ∷ xs) (b ∷ ys) x y e = grind (arith, push_same xs ys x y (ap (drop 1) e))

-- a position has one origin in the layer before
one_origin : (problem : Problem) → IsLevel problem.board → (k : ℕ) (xs : List Scene) → IsLayerOf problem k xs → (m : Scene) (o p : Origin Push) → HasOrigin problem k m o →
    HasOrigin problem k m p → o ≡ p
one_origin problem level k xs layer m o p a b =
    let laws = level_laws problem level in
    let u = a xs layer in let w = b xs layer in
    let lead = (layer.leads o.0 u.0 u.1).1 in let other = (layer.leads p.0 w.0 w.1).1 in
    let e = push_same lead.0 other.0 o.1 p.1 (lead_unique laws m (lead.0 ++ o.1 ∷ []) (other.0 ++ p.1 ∷ []) (u.2 lead.0 lead.1) (w.2 other.0 other.1)) in
    let n : u.0 ≡ w.0 = laws.same other.0 u.0 w.0 (subst (λ ps. Reaches problem.board ps u.0) e.0 lead.1.reached) other.1.reached in
    let rank = place_unique laws k xs layer o.0 p.0 w.0 (u.1 ∙ ap (λ (z : Scene). Some z) n) w.1 in
    λ i. (rank i, e.1 i)

closed_origin : (problem : Problem) → IsLevel problem.board → (k : ℕ) → ((j : ℕ) → k ≡ suc j → (xs : List Scene) × IsLayerOf problem j xs) →
    (m : Scene) (o p : Option (Origin Push)) → HasClosedOrigin problem k m o → HasClosedOrigin problem k m p → o ≡ p
closed_origin problem level zero before m o p a b = a ∙ sym b
closed_origin problem level (suc k) before m None p a b = absurd a
closed_origin problem level (suc k) before m (Some o) None a b = absurd b
closed_origin problem level (suc k) before m (Some o) (Some p) a b = let w = before k refl in ap Some (one_origin problem level k w.0 w.1 m o p a b)

-- a closed list is one only
one_list : (problem : Problem) → IsLevel problem.board → (shares share k : ℕ) → ((j : ℕ) → k ≡ suc j → (xs : List Scene) × IsLayerOf problem j xs) →
    (es fs : List Closed) → IsShareOfLayer problem shares share k es → IsShareOfLayer problem shares share k fs → es ≡ fs
one_list problem level shares share k before es fs a b =
    let e = layer_unique (level_laws problem level) k (places_of es) (places_of fs) a.layer b.layer in
    same_places es fs (sym (length-map es (λ (x : Closed). x.0)) ∙ ap length e ∙ length-map fs (λ (x : Closed). x.0))
    (λ i x y at_x at_y.
    let place = same_Some x.0 y.0 (sym (map_at (λ (z : Closed). z.0) es i x at_x) ∙ ap (λ zs. slice_get zs i) e ∙ map_at (λ (z : Closed). z.0) fs i y at_y) in
    let origin = closed_origin problem level k before y.0 x.1 y.1 (subst (λ m. HasClosedOrigin problem k m x.1) place (a.origins i x.0 x.1 at_x))
    (b.origins i y.0 y.1 at_y) in λ n. (place n, origin n))

pub closed_alike : (v w : BookView) → IsLawfulBook v → IsLawfulBook w → v.level ≡ w.level → v.share ≡ w.share → v.shares ≡ w.shares → CloseAlike v w
closed_alike v w book other level share shares k es fs at_v at_w =
    one_list v.level book.level v.shares v.share k (λ j e. (
      get_or book.wholes j [],
      book.whole j (get_or book.wholes j []) (read_at book.wholes j (before j e)),
    )) es fs (book.closed k es at_v)
    (subst (λ b. IsShareOfLayer b v.shares v.share k fs) (sym level) (subst (λ n. IsShareOfLayer w.level n v.share k fs) (sym shares)
    (subst (λ n. IsShareOfLayer w.level w.shares n k fs) (sym share) (other.closed k fs at_w)))) where
      long : (b : Bool) → v.begun ≡ b → length v.closed ≤ suc (length book.wholes)
      long true e = let some = book.some in omega (arith, (book.begun e).0)
      long false e = let some = book.some in omega (arith, (book.not_begun e).0)

      before : (j : ℕ) → k ≡ suc j → j < length book.wholes
      before j e = omega (arith, long v.begun refl, slice_get_within v.closed k es at_v)

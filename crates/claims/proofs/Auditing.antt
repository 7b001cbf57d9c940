-- What a table of a ledger tells of some of its hands, which stand in one view.
use Rattle.std.proofs.Common.{◌≡◌, ℕ, zero, suc, ◌+◌, ◌<◌, ◌≤◌, ⊎_elim, true, false, List, [], ◌∷◌, ◌++◌, get_or, set, refl, sym, ap, ◌∙◌, subst, arith}
use Rattle.std.specs.Prelude.{All, AllPairs, min, nat_lt, sum_by, IsNone, Option, Some, None, ◌==◌}
use mathlib.Core.Option.{some, none, some-injective, some-ne-none}
use lib.ListN.{get_elem?}
use Rattle.atomic_table.specs.Table.{keeps, step, Allows, Enters, Joins}
use Rattle.atomic_table.proofs.Lists.{set_again}
use Rattle.std.proofs.lemmas.Bool.{eq-eqb, lt-ltb, le-ltb, cases_lt}
use Rattle.std.proofs.lemmas.List.{set-get_or, get_or_past, map-append}
use Rattle.std.proofs.lemmas.List.Sums.{sum_by-cons, sum_by-append}
use Rattle.std.proofs.lemmas.List.Elements.{All-nil, All-head, All-tail, All-append, All-weaker}
use Rattle.claims.specs.declared.ledger.TheConstants.{PLACES}
use Rattle.claims.specs.declared.views.Hand.{Hand}
use Rattle.claims.specs.declared.views.View.{View}
use Rattle.claims.specs.Hands.{DrawerView, LedgerView, one_if, times, is_place}
use Rattle.claims.specs.Audit.{hands_of, times_in, having, spent_in, HaveAllPlaces, AreDrawnOnce, AreAudited}
use Rattle.claims.specs.inside.Views.{view_of, joined, spent_view}
use Rattle.claims.specs.inside.Plays.{Sat, gathers, audits}
use Rattle.claims.specs.inside.Fields.{IsSoundLedger, IsSoundDrawer, ledger_view, drawer_view}
use Rattle.claims.specs.declared.drawer.Drawer.TheInside.{Inside as DrawerInside}
use Rattle.claims.specs.declared.ledger.Ledger.TheInside.{Inside as LedgerInside}
use Rattle.claims.specs.Rule.{over_hands, number_count, place_count, spent_count, FitsLedger, IsDrawnOnce, holds, first}
use Rattle.claims.proofs.Totals.{over_cons, over_push}
use Rattle.claims.proofs.Fitting.{InView, fits_none, fits_push}
use Rattle.claims.proofs.Seats.{dealt, joins_meeting}

-- a seat with these hands
abbrev pub seat_of : ℕ → List Hand → Sat
seat_of size hs = (view_of size hs, [])

-- ---- the hands of all views, and of all but one

abbrev all_hands : List View → List Hand
all_hands [] = []
all_hands (v ∷ vs) = v.hands ++ all_hands vs

abbrev besides : List View → ℕ → List Hand
besides [] i = []
besides (v ∷ vs) zero = all_hands vs
besides (v ∷ vs) (suc i) = v.hands ++ besides vs i

module _ (f : Hand → ℕ) where
  sum_all : (vs : List View) → sum_by f (all_hands vs) ≡ over_hands f vs
  sum_all [] = refl
  sum_all (v ∷ vs) = let rest = sum_all vs in let both = sum_by-append f v.hands (all_hands vs) in let all = over_cons f v vs in omega arith

  sum_besides : (vs : List View) (i : ℕ) (v : View) → get_elem? vs i ≡ some v → sum_by f v.hands + sum_by f (besides vs i) ≡ over_hands f vs
  sum_besides [] i v at = absurd (some-ne-none v (sym at))
  sum_besides (x ∷ xs) zero v at =
      let same : sum_by f x.hands ≡ sum_by f v.hands = ap (λ (u : View). sum_by f u.hands) (some-injective x v at) in
      let rest = sum_all xs in
      let all = over_cons f x xs in
      omega arith
  sum_besides (x ∷ xs) (suc i) v at =
      let rest = sum_besides xs i v at in
      let both = sum_by-append f x.hands (besides xs i) in
      let all = over_cons f x xs in
      omega arith

  -- the hands of one view and all others, together
  sum_together : (vs : List View) (i : ℕ) (v : View) → get_elem? vs i ≡ some v → sum_by f (v.hands ++ besides vs i) ≡ over_hands f vs
  sum_together vs i v at = sum_by-append f v.hands (besides vs i) ∙ sum_besides vs i v at

module _ (P : Hand → Type 0) where
  every : (vs : List View) → ((i : ℕ) (v : View) → get_elem? vs i ≡ some v → All P v.hands) → All P (all_hands vs)
  every [] all = All-nil P
  every (v ∷ vs) all = All-append P v.hands (all_hands vs) (all 0 v refl) (every vs (λ i. all (suc i)))

  every_other : (vs : List View) (i : ℕ) → ((j : ℕ) (v : View) → get_elem? vs j ≡ some v → All P v.hands) → All P (besides vs i)
  every_other [] i all = All-nil P
  every_other (v ∷ vs) zero all = every vs (λ j. all (suc j))
  every_other (v ∷ vs) (suc i) all = All-append P v.hands (besides vs i) (all 0 v refl) (every_other vs i (λ j. all (suc j)))

-- ---- the rule of all hands together

module _ (size : ℕ) (words : List ℕ) (views : List View) (i : ℕ) (v : View) (r : IsDrawnOnce size words views) (at : get_elem? views i ≡ some v) where
  abbrev together : List Hand
  together = v.hands ++ besides views i

  fit : All (FitsLedger size words) together
  fit =
      let in_view : (j : ℕ) (u : View) → get_elem? views j ≡ some u → All (FitsLedger size words) u.hands
      = λ j u is. All-weaker (InView size words u.len) (FitsLedger size words) (λ h t. t.1) u.hands (r.views_fit j u is) in
      All-append (FitsLedger size words) v.hands (besides views i) (in_view i v at) (every_other (FitsLedger size words) views i in_view)

  having_is : (p : ℕ) → having p together ≡ get_or words (suc p) 0
  having_is p = sum_together (place_count p) views i v at ∙ r.places p

  places_told : (p : ℕ) → having p together ≤ one_if (nat_lt p PLACES)
  places_told p =
      let all = having_is p in
      ⊎_elim
      (λ near. let one : one_if (nat_lt p PLACES) ≡ 1 = ap one_if (lt-ltb p PLACES near) in let most = r.single p in omega arith)
      (λ far. let past : get_or words (suc p) 0 ≡ 0 = get_or_past words (suc p) 0 (let wide = r.ranges.0 in omega arith) in omega arith)
      (cases_lt p PLACES)

  drawn_once : AreDrawnOnce size (get_or words 0 0) together
  drawn_once = record {
    numbers = λ x. sum_together (number_count x) views i v at ∙ r.numbers x;
    places = places_told;
    taken = All-weaker (FitsLedger size words) (λ (h : Hand). All (λ p. having p together ≡ 1) h.taken)
        (λ h ok. All-weaker (λ p. get_or words (suc p) 0 ≡ 1) (λ p. having p together ≡ 1) (λ p is. having_is p ∙ is) h.taken ok.known) together fit;
    rising = All-weaker (FitsLedger size words) (λ (h : Hand). AllPairs (λ x y. x < y) h.numbers) (λ h ok. ok.rising) together fit;
    bare = All-weaker (FitsLedger size words) (λ (h : Hand). IsNone h.place → (h.numbers ≡ []) × (h.spent ≡ false)) (λ h ok. ok.bare) together fit;
    out = All-weaker (FitsLedger size words) (λ (h : Hand). h.spent ≡ true → size ≤ get_or words 0 0) (λ h ok. ok.out) together fit;
    excess = let all : spent_in together ≡ over_hands spent_count views = sum_together spent_count views i v at in let most = r.excess in omega arith;
  }

-- ---- none is left out

All_behind : (P : Hand → Type 0) (hs others : List Hand) → All P (hs ++ others) → All P others
All_behind P [] others all = all
All_behind P (h ∷ hs) others all = All_behind P hs others (All-tail P h (hs ++ others) all)

abbrev IsBare : Hand → Type 0
IsBare h = IsNone h.place → (h.numbers ≡ []) × (h.spent ≡ false)

placeless : (o : Option ℕ) → ((p : ℕ) → is_place p o ≡ 0) → IsNone o
placeless (Some q) free = let here : one_if (q == q) ≡ 1 = ap one_if (eq-eqb q q refl) in let none = free q in absurd (omega arith)
placeless None free = refl

-- hands without places have free numbers
no_numbers : (x : ℕ) (hs : List Hand) → ((p : ℕ) → having p hs ≡ 0) → All IsBare hs → times_in x hs ≡ 0
no_numbers x [] free bare = refl
no_numbers x (h ∷ hs) free bare =
    let first : (p : ℕ) → is_place p h.place ≡ 0 = λ p. (let all = free p in let cons = sum_by-cons (place_count p) h hs in omega arith) in
    let rest : (p : ℕ) → having p hs ≡ 0 = λ p. (let all = free p in let cons = sum_by-cons (place_count p) h hs in omega arith) in
    let empty : times x h.numbers ≡ 0 = ap (times x) (All-head IsBare h hs bare (placeless h.place first)).0 in
    let others = no_numbers x hs rest (All-tail IsBare h hs bare) in
    let cons = sum_by-cons (number_count x) h hs in
    omega arith

whole_told : (size next : ℕ) (hs others : List Hand) → AreDrawnOnce size next (hs ++ others) → HaveAllPlaces hs → (x : ℕ) →
    times_in x hs ≡ one_if (nat_lt x (min next size))
whole_told size next hs others r all x =
    let free : (p : ℕ) → having p others ≡ 0 = λ p.
    (let both = sum_by-append (place_count p) hs others in
    let most = r.places p in
    ⊎_elim
    (λ near. let one : one_if (nat_lt p PLACES) ≡ 1 = ap one_if (lt-ltb p PLACES near) in let here = all p near in omega arith)
    (λ far. let none : one_if (nat_lt p PLACES) ≡ 0 = ap one_if (le-ltb p PLACES far) in omega arith)
    (cases_lt p PLACES)) in
    let bare = All_behind IsBare hs others r.bare in
    let none = no_numbers x others free bare in
    let both = sum_by-append (number_count x) hs others in
    let drawn = r.numbers x in
    omega arith

-- ---- the steps

pub enters_gathered : (slots size : ℕ) → Enters (holds size) slots 0 (λ n w. gathers (step slots 0 0 0 none) (first size, []) n (w, []))
enters_gathered slots size s r long small =
    let w : View = view_of size [] in (
      w,
      dealt size s.words s.views (s.views ++ w ∷ []) r (λ f none. let pushed = over_push f s.views w in
          omega arith) (fits_push size s.words s.views w r.views_fit (fits_none size s.words size)),
      refl,
    )

audits_view : (slots size id : ℕ) (hs : List Hand) →
    Allows (holds size) slots id (seat_of size hs) 0 (λ n. n) (audits (step slots 0 0 0 none) (seat_of size hs))
audits_view slots size id hs s r long at small =
    let v : View = view_of size hs in
    let same_words = sym (set-get_or s.words 0 0) in
    let same_views = sym (set_again s.views id v at) in
    let told = drawn_once size s.words s.views id v r at in
    let others = besides s.views id in (
      v,
      keeps,
      tt,
      subst (λ (ws : List ℕ). IsDrawnOnce size ws (set s.views id v)) same_words (subst (λ (vs : List View). IsDrawnOnce size s.words vs) same_views r),
      (refl, record { rule = (others, told); whole = whole_told size (get_or s.words 0 0) hs others told }),
    )

-- the same of a seat with these hands
pub audits_seat : (slots size id : ℕ) (me : Sat) (hs : List Hand) → me ≡ seat_of size hs →
    Allows (holds size) slots id me 0 (λ n. n) (audits (step slots 0 0 0 none) me)
audits_seat slots size id me hs is = subst (λ (m : Sat). Allows (holds size) slots id m 0 (λ n. n) (audits (step slots 0 0 0 none) m)) (sym is)
    (audits_view slots size id hs)

-- ---- drawers that are put together

-- a drawer of this length goes into a seat of the same
pub joins_gathered : (size id : ℕ) (me : Sat) (hs : List Hand) (a : DrawerInside) (d : DrawerView) → me ≡ seat_of size hs → drawer_view a ≡ d →
    d.ledger.len ≡ size
    → Joins (holds size) id me.0 a.seat.id a.seat.me.0 (joined me.0 a.seat.me.0) spent_view
joins_gathered size id me hs a d is is_d len =
    joins_meeting size id a.seat.id me.0 a.seat.me.0 (ap (λ (m : Sat). m.0.len) is ∙ sym (ap (λ (x : DrawerView). x.ledger.len) is_d ∙ len))

-- its hand stands behind the others
pub gathered_more : (size : ℕ) (me : Sat) (ds : List DrawerView) (a : DrawerInside) (d : DrawerView) → me ≡ seat_of size (hands_of ds) → drawer_view a ≡ d →
    IsSoundDrawer a
    → (joined me.0 a.seat.me.0, me.1) ≡ seat_of size (hands_of (ds ++ d ∷ []))
gathered_more size me ds a d is is_d sound =
    let hand : a.seat.me.0.hands ≡ d.hand ∷ [] = ap (λ (m : Sat). m.0.hands) sound.seated ∙ ap (λ (x : DrawerView). x.hand ∷ []) is_d in
    let all : me.0.hands ++ a.seat.me.0.hands ≡ hands_of (ds ++ d ∷ []) = (λ i. (is i).0.hands ++ hand i) ∙
    sym (map-append (λ (x : DrawerView). x.hand) ds (d ∷ [])) in
    λ i. (view_of (is i).0.len (all i), (is i).1)

-- drawers of the ledger are drawers of its table
pub of_table : (a : LedgerInside) (l : LedgerView) (ds : List DrawerView) → ledger_view a ≡ l → IsSoundLedger a → All (λ (d : DrawerView). d.ledger ≡ l) ds
    → All (λ (d : DrawerView). (d.ledger.table ≡ a.table.shared.table_id) × (d.ledger.len ≡ a.table.shared.key)) ds
of_table a l ds is sound all = All-weaker (λ (d : DrawerView). d.ledger ≡ l) (λ (d : DrawerView). (d.ledger.table ≡ a.table.shared.table_id) ×
    (d.ledger.len ≡ a.table.shared.key))
    (λ d same.
    let whole = same ∙ sym is in
    (ap (λ (x : LedgerView). x.table) whole, ap (λ (x : LedgerView). x.len) whole ∙ sym sound.1)) ds all

pub audited : (size len next : ℕ) (me : Sat) (hs : List Hand) → me ≡ seat_of size hs → size ≡ len → AreAudited me.0.len next me.0.hands → AreAudited len next hs
audited size len next me hs is same told = subst (λ (n : ℕ). AreAudited n next hs) same (subst (λ (m : Sat). AreAudited m.0.len next m.0.hands) is told)

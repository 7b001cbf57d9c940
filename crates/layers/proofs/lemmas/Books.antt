-- What a lawful book holds: the whole layers behind its lists, the open positions, its marks and its tallies.
use Rattle.std.proofs.Common.{◌≡◌, ℕ, zero, suc, ◌+◌, ◌<◌, ◌≤◌, Bool, true, false, cond, ◌&&◌, ◌==◌, not, List, [], ◌∷◌, ◌++◌, length, fold, sum, take}
use Rattle.std.proofs.Common.{replicate, count_by, get_or, set, Some, ◌⊎◌, inl, inr, refl, sym, ap, subst, ◌∙◌, if◌then◌else◌, arith}
use Rattle.std.proofs.lemmas.Bool.{cases_lt}
use Rattle.std.proofs.lemmas.Bool.Decides.{nat_tests}
use Rattle.std.proofs.lemmas.List.Sums.{count_by-le-length}
use Rattle.layers.specs.declared.limits.TheConstants.{MOST_POSITIONS}
use Rattle.std.proofs.lemmas.List.{length-append}
use Rattle.std.proofs.lemmas.Option.{same_Some, none-some, slice_get-get_or, slice_get_within}
use Rattle.std.specs.Prelude.{slice_get}
use Rattle.std.specs.List.{list_any}
use Rattle.grid.specs.declared.square.Push.{Push}
use Rattle.grid.specs.Board.{Scene, push_cmp}
use Rattle.grid.specs.Lawful.{IsLevel}
use Rattle.grid.proofs.lemmas.Levels.{start_is_scene}
use Rattle.successors.specs.declared.parcel.Successor.{Successor}
use Rattle.successors.specs.Layered.{IsIn}
use Rattle.store.specs.Entries.{OpenEntry, same_scene, places_of, origin_of}
use Rattle.layers.specs.Openings.{IsOpening, IsLayered}
use Rattle.successors.specs.Problems.{Problem}
use Rattle.successors.specs.Capping.{Admits}
use Rattle.successors.specs.Reaching.{Reaches, IsLayerOf, AreLayersOf, total}
use Rattle.successors.specs.Expansion.{IsSuccessor, IsSuccessorIn}
use Rattle.successors.specs.Shares.{share_of}
use Rattle.layers.specs.LayerView.{LayerView, IsWhole}
use Rattle.layers.specs.BookView.{BookView, last_layer, InShare, IsKept, IsLawfulBook}
use Rattle.successors.specs.Distances.{IsAtDistance}
use Rattle.layers.specs.Books.{HasBegun, is_closed, is_wanted}
use Rattle.store.specs.Entering.{offered, entered}
use Rattle.successors.proofs.lemmas.Lists.{at_map, map_at, Distinct, any-find, any-here, sum_by_first, take_short}
use Rattle.layers.proofs.lemmas.Exchange.{found}
use Rattle.store.proofs.lemmas.Offers.{same_true, same_since, origin_of-offered, origin_of-other, open_places, offered-distinct, offered-each, listed-origin}
use Rattle.layers.proofs.lemmas.Layers.{member, layer_unique}
use Rattle.layers.proofs.Open.{reoffered, offer_nothing, offer_one}
use Rattle.layers.proofs.Reaching.{reaching_laws}

-- the layers of a lawful level are layers in lead order
pub level_laws : (problem : Problem) → IsLevel problem.board → IsLayered push_cmp (Reaches problem.board) (IsSuccessor problem.board) (Admits problem)
level_laws problem level = reaching_laws problem (start_is_scene problem.board level)

-- a successor by a push is one place
pub one_successor : (problem : Problem) → IsLevel problem.board → (k : ℕ) (xs : List Scene) → IsLayerOf problem k xs → (r : ℕ) (n : Scene) → slice_get xs r ≡ Some n →
    (p : Push) (m m' : Scene) → IsSuccessor problem.board n p m → IsSuccessor problem.board n p m' → m' ≡ m
one_successor problem level k xs layer r n at p m m' a b =
    let laws = level_laws problem level in
    let lead = (layer.leads r n at).1 in
    laws.same (lead.0 ++ p ∷ []) m' m (laws.grow lead.0 n p m' lead.1.reached b) (laws.grow lead.0 n p m lead.1.reached a)

-- the list at a place of a list of lists, read with an empty list past its end
pub read_at : {A : Type 0} (xss : List (List A)) (j : ℕ) → j < length xss → slice_get xss j ≡ Some (get_or xss j [])
read_at xss j lt = slice_get-get_or xss j [] lt

module _ (v : BookView) (book : IsLawfulBook v) (begun : v.begun ≡ true) where
  abbrev wholes : List (List Scene)
  wholes = book.wholes

  abbrev pub whole_layer : ℕ → List Scene
  whole_layer j = get_or book.wholes j []

  -- the layers up to the last closed one are known whole
  pub whole_layers : (j : ℕ) → j ≤ last_layer v → IsLayerOf v.level j (whole_layer j)
  whole_layers j le = grind (arith, read_at)

  -- what is in a closed list is in the layer
  pub closed-layer : (m : Scene) → is_closed v.closed m ≡ true → (j : ℕ) × (j ≤ last_layer v) × IsIn (whole_layer j) m
  closed-layer m e =
      let a = any-find (λ es. list_any (λ x. same_scene m x.0) es) v.closed e in
      let j = a.0 in let es = a.1 in
      let b = any-find (λ x. same_scene m x.0) es a.3 in
      let share = book.closed j es a.2 in
      let within = slice_get_within v.closed j es a.2 in
      let le : j ≤ last_layer v = omega arith in
      let at : slice_get (places_of es) b.0 ≡ Some m = map_at (λ x. x.0) es b.0 b.1 b.2 ∙ ap Some (sym (same_true m b.1.0 b.3)) in
      let w = share.layer.leads b.0 m at in
      let lead = w.1 in
      (j, le, member (level_laws v.level book.level) j (whole_layer j) (whole_layers j le) m lead.0 lead.1 lead.2 w.0.1)

  -- what is of the share and in a layer is in its closed list
  pub layer-closed : (m : Scene) → InShare v m → (j : ℕ) → j ≤ last_layer v → IsIn (whole_layer j) m → is_closed v.closed m ≡ true
  layer-closed m part j le i =
      let some = book.some in
      let at = read_at v.closed j (omega arith) in
      let share = book.closed j (get_or v.closed j []) at in
      let l = (whole_layers j le).leads i.0 m i.1 in
      let lead = l.1 in
      let w = member (level_laws v.level book.level) j (places_of (get_or v.closed j [])) share.layer m lead.0 lead.1 lead.2 (part, l.0) in
      let x = at_map (λ e. e.0) (get_or v.closed j []) w.0 m w.1 in
      any-here (λ es. list_any (λ e. same_scene m e.0) es) v.closed j (get_or v.closed j []) at
      (any-here (λ e. same_scene m e.0) (get_or v.closed j []) w.0 x.0 x.1 (same_since m x.0.0 (sym x.2)))

  -- an origin of a rank is offered: the open positions are those of the origins offered before and that one
  module _ (rank : ℕ) (n : Scene) (at : slice_get (whole_layer (last_layer v)) rank ≡ Some n) where
    entered_open : {Offered : ℕ → Push → Type 0} (waiting : List (OpenEntry Scene Push)) (s : Successor) →
        IsSuccessorIn v.level (last_layer v) n s.push s.position →
        IsOpening push_cmp (IsSuccessor v.level.board) (IsKept v) whole_layer (last_layer v) Offered (origin_of waiting) →
        IsOpening push_cmp (IsSuccessor v.level.board) (IsKept v) whole_layer (last_layer v) (λ r p. Offered r p ⊎ ((r ≡ rank) × (p ≡ s.push)))
        (origin_of (entered (is_wanted v) rank waiting s))
    entered_open {Offered} waiting s (edge, adm) o = go (share_of v.shares s.position == v.share) refl (is_closed v.closed s.position) refl
      where
        laws : IsLayered push_cmp (Reaches v.level.board) (IsSuccessor v.level.board) (Admits v.level)
        laws = level_laws v.level book.level

        of_share : (share_of v.shares s.position == v.share) ≡ true → InShare v s.position
        of_share e = grind (arith, nat_tests)

        other_share : (share_of v.shares s.position == v.share) ≡ false → ¬ (InShare v s.position)
        other_share e part = grind (arith, nat_tests)

        -- the layer after the last closed one
        admitted : Admits v.level (length v.closed) s.position
        admitted = let some = book.some in subst (λ k. Admits v.level k s.position) (let e : suc (last_layer v) ≡ length v.closed = omega arith in e) adm

        one : (m : Scene) → IsSuccessor v.level.board n s.push m → m ≡ s.position
        one m other = one_successor v.level book.level (last_layer v) (whole_layer (last_layer v))
            (whole_layers (last_layer v) (omega arith)) rank n at s.push s.position m edge other

        others : (m : Scene) → (origin_of (offered waiting s.position (rank, s.push)) m ≡ origin_of waiting m) ⊎ (m ≡ s.position)
        others m = by (same_scene m s.position) refl
          where
            by : (b : Bool) → same_scene m s.position ≡ b → (origin_of (offered waiting s.position (rank, s.push)) m ≡ origin_of waiting m) ⊎ (m ≡ s.position)
            by true e = inr (same_true m s.position e)
            by false e = inl (origin_of-other waiting s.position m (rank, s.push) e)

        go : (a : Bool) → (share_of v.shares s.position == v.share) ≡ a → (b : Bool) → is_closed v.closed s.position ≡ b →
            IsOpening push_cmp (IsSuccessor v.level.board) (IsKept v) whole_layer (last_layer v) (λ r p. Offered r p ⊎ ((r ≡ rank) × (p ≡ s.push)))
            (origin_of (if (share_of v.shares s.position == v.share) && not (is_closed v.closed s.position) then offered waiting s.position
            (rank, s.push) else waiting))
        go true e false f = rw (e, f)
            (offer_one laws.total o rank s.push n s.position at edge one (of_share e, admitted)
            (λ j le i. let w = layer-closed s.position (of_share e) j le i in cc)
            (origin_of (offered waiting s.position (rank, s.push))) (origin_of-offered waiting s.position (rank, s.push)) others)
        go true e true f = rw (e, f) (offer_nothing laws.total o rank s.push n s.position at edge one (λ kept. closed-layer s.position f))
        go false e b f = rw e (offer_nothing laws.total o rank s.push n s.position at edge one (λ kept. absurd (other_share e kept.0)))

    -- some successors have this push
    abbrev PushOf : List Successor → Push → Type 0
    PushOf ss p = (i : ℕ) × (s : Successor) × (slice_get ss i ≡ Some s) × (s.push ≡ p)

    -- the same for all successors of a rank, one after the other
    pub all_open : (ss : List Successor) {Offered : ℕ → Push → Type 0} (waiting : List (OpenEntry Scene Push)) →
        ((i : ℕ) (s : Successor) → slice_get ss i ≡ Some s → IsSuccessorIn v.level (last_layer v) n s.push s.position) →
        IsOpening push_cmp (IsSuccessor v.level.board) (IsKept v) whole_layer (last_layer v) Offered (origin_of waiting) →
        IsOpening push_cmp (IsSuccessor v.level.board) (IsKept v) whole_layer (last_layer v) (λ r p. Offered r p ⊎ ((r ≡ rank) × PushOf ss p))
        (origin_of (fold (entered (is_wanted v) rank) waiting ss))
    all_open [] waiting edges o = reoffered (λ r p. _) (λ r p f. inl f) (λ r p l m f at_r edge kept. elim f
        [ inl old ↦ old | inr w ↦ absurd (none-some w.1.1 w.1.2) ]) o
    all_open (s ∷ ss) {Offered} waiting edges o =
        let next = all_open ss (entered (is_wanted v) rank waiting s) (λ i t at_i. edges (suc i) t at_i) (entered_open waiting s (edges zero s refl) o) in
        reoffered (λ r p. Offered r p ⊎ ((r ≡ rank) × PushOf (s ∷ ss) p))
        (λ r p f. elim f [
          | inl w ↦ elim w [ inl old ↦ inl old | inr e ↦ inr (e.0, (zero, s, refl, sym e.1)) ]
          | inr w ↦ inr (w.0, (suc w.1.0, w.1.1, w.1.2, w.1.3))
        ])
        (λ r p l m f at_r edge kept. elim f [
          | inl old ↦ inl (inl old)
          | inr (e, (zero, t, at_t, f)) ↦ inl (inr (e, sym f ∙ ap (λ (x : Successor). x.push) (sym (same_Some s t at_t))))
          | inr (e, (suc i, t, at_t, f)) ↦ inr (e, (i, t, at_t, f))
        ])
        next

  -- the open positions stay distinct
  pub all_distinct : (rank : ℕ) (ss : List Successor) (waiting : List (OpenEntry Scene Push)) → Distinct (open_places waiting) →
      Distinct (open_places (fold (entered (is_wanted v) rank) waiting ss))
  all_distinct rank [] waiting distinct = distinct
  all_distinct rank (s ∷ ss) waiting distinct = all_distinct rank ss (entered (is_wanted v) rank waiting s) (go (is_wanted v s.position))
    where
      go : (b : Bool) → Distinct (open_places (if b then offered waiting s.position (rank, s.push) else waiting))
      go true = offered-distinct waiting s.position (rank, s.push) distinct
      go false = distinct

  -- and what holds of each place and of each successor holds of them
  pub all_each : (Q : Scene → Type 0) (rank : ℕ) (ss : List Successor) (waiting : List (OpenEntry Scene Push)) →
      ((i : ℕ) (s : Successor) → slice_get ss i ≡ Some s → Q s.position) → ((m : Scene) → IsIn (open_places waiting) m → Q m) → (m : Scene) →
      IsIn (open_places (fold (entered (is_wanted v) rank) waiting ss)) m → Q m
  all_each Q rank [] waiting new old = old
  all_each Q rank (s ∷ ss) waiting new old = all_each Q rank ss (entered (is_wanted v) rank waiting s) (λ i t at. new (suc i) t at)
      (go (is_wanted v s.position)) where
        go : (b : Bool) → (m : Scene) → IsIn (open_places (if b then offered waiting s.position (rank, s.push) else waiting)) m → Q m
        go true = offered-each Q waiting s.position (rank, s.push) (new zero s refl) old
        go false = old

-- a book that has marks has begun
pub begun-since : (v : BookView) → IsLawfulBook v → (r : ℕ) → r < length v.done → v.begun ≡ true
begun-since v book r lt = grind arith

-- a layer has no more ranks than all books may hold
pub few_ranks : (v : BookView) → IsLawfulBook v → (r : ℕ) → r < length v.done → r < MOST_POSITIONS
few_ranks v book r lt =
    let b = book.begun (begun-since v book r lt) in
    let some = book.some in
    omega (arith, b.0, b.2, book.few, whole_length book.wholes (last_layer v))
  where
    whole_length : {A : Type 0} (xss : List (List A)) (k : ℕ) → length (get_or xss k []) ≤ total xss
    whole_length [] k = omega arith
    whole_length (xs ∷ xss) zero = omega (arith, sum_by_first length xs xss)
    whole_length (xs ∷ xss) (suc k) = omega (arith, sum_by_first length xs xss, whole_length xss k)

-- the open places of a book that has begun are at the next distance
pub open-distance : (v : BookView) (book : IsLawfulBook v) (begun : v.begun ≡ true) {Offered : ℕ → Push → Type 0} (waiting : List (OpenEntry Scene Push)) →
    IsOpening push_cmp (IsSuccessor v.level.board) (IsKept v) (whole_layer v book begun) (last_layer v) Offered (origin_of waiting) →
    Distinct (open_places waiting) → (m : Scene) → IsIn (open_places waiting) m → InShare v m × IsAtDistance v.level m (length v.closed)
open-distance v book begun waiting o distinct m w =
    let x = at_map (λ e. e.0) waiting w.0 m w.1 in
    let r = x.0.1.0 in let p = x.0.1.1 in
    let e = listed-origin waiting distinct w.0 x.0.0 (r, p) x.1 in
    let f = o.from x.0.0 r p e in
    let laws = level_laws v.level book.level in
    let layers = whole_layers v book begun in
    let some = book.some in
    let lead = ((layers (last_layer v) (omega arith)).leads r f.2.0 f.2.1).1 in
    let here : InShare v x.0.0 × IsAtDistance v.level x.0.0 (length v.closed) = (
      f.0.0,
      (
        (lead.0 ++ p ∷ [], laws.grow lead.0 f.2.0 p x.0.0 lead.1.reached f.2.2, omega (arith, lead.2, length-append lead.0 (p ∷ []))),
        λ qs reach. elim (cases_lt (length qs) (length v.closed)) [
          | inl lt ↦ (let i = found laws (whole_layer v book begun) (last_layer v) layers (length qs) qs x.0.0 (omega arith) (omega arith) reach
              (laws.earlier (length qs) (length v.closed) x.0.0 (omega arith) f.0.1) in absurd (o.fresh x.0.0 r p e i.0 (omega (arith, i.1)) i.2))
          | inr ge ↦ ge
        ],
        f.0.1,
      ),
    ) in
    subst (λ y. InShare v y × IsAtDistance v.level y (length v.closed)) x.2 here

-- ---- marks

pub true_kept : (bs : List Bool) (k r : ℕ) → get_or bs r false ≡ true → get_or (set bs k true) r false ≡ true
true_kept [] k r e = e
true_kept (b ∷ bs) zero zero e = refl
true_kept (b ∷ bs) zero (suc r) e = e
true_kept (b ∷ bs) (suc k) zero e = e
true_kept (b ∷ bs) (suc k) (suc r) e = true_kept bs k r e

pub true_cases : (bs : List Bool) (k r : ℕ) → get_or (set bs k true) r false ≡ true → (r ≡ k) ⊎ (get_or bs r false ≡ true)
true_cases [] k r e = inr e
true_cases (b ∷ bs) zero zero e = inl refl
true_cases (b ∷ bs) zero (suc r) e = inr e
true_cases (b ∷ bs) (suc k) zero e = inr e
true_cases (b ∷ bs) (suc k) (suc r) e = elim (true_cases bs k r e) [ inl w ↦ inl (ap suc w) | inr w ↦ inr w ]

pub none_marked : (n r : ℕ) → get_or (replicate n false) r false ≡ true → ⊥
none_marked zero r e = cc
none_marked (suc n) zero e = cc
none_marked (suc n) (suc r) e = none_marked n r e

pub none_counted : (n : ℕ) → count_by (λ b. b) (replicate n false) ≡ 0
none_counted zero = refl
none_counted (suc n) = omega (arith, sum_by_first (λ c. cond c 1 0) false (replicate n false), none_counted n)

pub total-push : {A : Type 0} (xss : List (List A)) (xs : List A) → total (xss ++ xs ∷ []) ≡ total xss + length xs
total-push [] xs = omega arith
total-push (ys ∷ xss) xs = omega (arith, sum_by_first length ys (xss ++ xs ∷ []), sum_by_first length ys xss, total-push xss xs)

pub total-take_more : {A : Type 0} (xss : List (List A)) (k : ℕ) → k < length xss → total (take (suc k) xss) ≡ total (take k xss) + length (get_or xss k [])
total-take_more [] k lt = absurd (omega arith)
total-take_more (ys ∷ xss) zero lt = omega (arith, sum_by_first length ys [])
total-take_more (ys ∷ xss) (suc k) lt = omega (
  arith,
  sum_by_first length ys (take (suc k) xss),
  sum_by_first length ys (take k xss),
  total-take_more xss k (omega arith),
)

pub read_push : {A : Type 0} (xss : List (List A)) (xs : List A) → get_or (xss ++ xs ∷ []) (length xss) [] ≡ xs
read_push [] xs = refl
read_push (ys ∷ xss) xs = read_push xss xs

pub get_or_same : {A : Type 0} (xs : List A) (i : ℕ) (a b : A) → i < length xs → get_or xs i a ≡ get_or xs i b
get_or_same [] i a b lt = absurd (omega arith)
get_or_same (x ∷ xs) zero a b lt = refl
get_or_same (x ∷ xs) (suc i) a b lt = get_or_same xs i a b (omega arith)

-- ---- whole layers

-- lists of one length that agree at each place are equal
pub same_places : {A : Type 0} (xs ys : List A) → length xs ≡ length ys → ((i : ℕ) (a b : A) → slice_get xs i ≡ Some a → slice_get ys i ≡ Some b → a ≡ b) →
    xs ≡ ys
same_places [] [] long same = refl
same_places [] (y ∷ ys) long same = absurd (omega arith)
same_places (x ∷ xs) [] long same = absurd (omega arith)
same_places (x ∷ xs) (y ∷ ys) long same = let e = same zero x y refl refl in let f = same_places xs ys (omega arith) (λ i a b. same (suc i) a b) in
    λ n. e n ∷ f n

-- the first layers of a level are one list of lists
pub layers_same : (problem : Problem) → IsLevel problem.board → (xss yss : List (List Scene)) → AreLayersOf problem xss → AreLayersOf problem yss → length xss ≡ length yss →
    xss ≡ yss
layers_same problem level xss yss a b long = same_places xss yss long (λ j xs ys at_x at_y. layer_unique (level_laws problem level) j xs ys (a j xs at_x)
    (b j ys at_y))

-- ---- tallies

summed : (xs : List ℕ) (i : ℕ) → get_or xs i 0 ≤ sum xs
summed [] i = omega arith
summed (x ∷ xs) zero = omega (arith, sum_by_first (λ y. y) x xs)
summed (x ∷ xs) (suc i) = omega (arith, sum_by_first (λ y. y) x xs, summed xs i)

-- a worker has handed back no more ranks than there are
pub tally_bound : (v : BookView) (book : IsLawfulBook v) → v.begun ≡ true → (w : ℕ) → get_or v.tallies w 0 ≤ MOST_POSITIONS
tally_bound v book begun w =
    let b = book.begun begun in let some = book.some in
    omega (
      arith,
      summed v.tallies w,
      book.tallies.1,
      book.few,
      count_by-le-length (λ (x : Bool). x) v.done,
      b.0,
      b.2,
      total-take_more book.wholes (last_layer v) (omega arith),
      ap total (take_short book.wholes (suc (last_layer v)) (omega arith)),
    )

-- ---- ranks

-- a book that has begun has marks for exactly the ranks of its last closed layer
pub begun_ranks : (v : BookView) (layer : LayerView) → IsLawfulBook v → IsWhole layer → HasBegun v layer → length v.done ≡ length layer.places
begun_ranks v layer book whole (level, number, begun) =
    let some = book.some in
    let here : IsLayerOf v.level (last_layer v) layer.places = subst (λ k. IsLayerOf v.level k layer.places) number
    (subst (λ b. IsLayerOf b layer.number layer.places) level whole.layer) in
    let e = layer_unique (level_laws v.level book.level) (last_layer v) layer.places (whole_layer v book begun (last_layer v)) here
    (whole_layers v book begun (last_layer v) (omega arith)) in omega (arith, (book.begun begun).2, ap length e)

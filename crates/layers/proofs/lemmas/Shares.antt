-- The shares of a layer beside the whole layer: one, all, and those of all layers.
use Rattle.std.proofs.Common.{◌≡◌, ℕ, ◌+◌, ◌-◌, ◌<◌, ◌≤◌, List, [], length, map, sum, sum_by, get_or, Some, refl, sym, ap, subst, ◌∙◌, arith}
use Rattle.std.proofs.lemmas.List.{length-map}
use Rattle.std.proofs.lemmas.Nat.{mod_below}
use Rattle.std.proofs.lemmas.Option.{slice_get_within, slice_get-get_or}
use Rattle.std.specs.Prelude.{slice_get}
use Rattle.grid.specs.declared.square.Push.{Push}
use Rattle.grid.specs.Board.{Scene}
use Rattle.grid.specs.Lawful.{IsLevel}
use Rattle.successors.specs.Layered.{IsIn}
use Rattle.successors.specs.Shares.{share_of}
use Rattle.successors.specs.Problems.{Problem}
use Rattle.successors.specs.Capping.{Admits}
use Rattle.successors.specs.Reaching.{IsLayerOf, AreLayersOf, total}
use Rattle.layers.specs.Leads.{IsLeadOf}
use Rattle.layers.specs.BookView.{BookView, last_layer, last_list, IsShareOfLayer, AreSharesOfLayer, IsLawfulBook, AreLawfulBooks}
use Rattle.store.specs.Entries.{Closed, places_of}
use Rattle.layers.specs.Books.{AreAllShares}
use Rattle.layers.proofs.lemmas.Layers.{member, place_unique, layers_apart}
use Rattle.layers.proofs.lemmas.Books.{level_laws, read_at}
use Rattle.layers.proofs.lemmas.Counting.{length-distinct, totals_upto, flat, length-flat, in_flat, of_flat, flat_distinct, total-map, sum_by-same}
use Rattle.successors.proofs.lemmas.Lists.{at_map, map_at, Distinct}
use Rattle.layers.proofs.lemmas.Joins.{total-places}

-- a share of a layer has no more positions than the layer
pub share_upto : (problem : Problem) → IsLevel problem.board → (shares share k : ℕ) (es : List Closed) (xs : List Scene) → IsShareOfLayer problem shares share k es →
    IsLayerOf problem k xs → length es ≤ length xs
share_upto problem level shares share k es xs part whole =
    omega (
      arith,
      length-map es (λ (e : Closed). e.0),
      length-distinct (places_of es) xs (place_unique (level_laws problem level) k (places_of es) part.layer)
          (λ m i. (let w = part.layer.leads i.0 m i.1 in let lead = w.1 in member (level_laws problem level) k xs whole m lead.0 lead.1 lead.2 w.0.1)),
    )

-- a book has closed no more positions than lie in the layers that it has closed
pub closed_upto : (v : BookView) → IsLawfulBook v → (layers : List (List Scene)) → AreLayersOf v.level layers → length v.closed ≤ length layers →
    total v.closed ≤ total layers
closed_upto v book layers are few =
    totals_upto v.closed layers few (λ j es xs at_es at_xs. share_upto v.level book.level v.shares v.share j es xs (book.closed j es at_es) (are j xs at_xs))

-- the share and the lead of a position of a share, which is admitted
share_lead : (problem : Problem) (shares t k : ℕ) (es : List Closed) → IsShareOfLayer problem shares t k es → (m : Scene) → IsIn (places_of es) m →
    ((share_of shares m ≡ t) × Admits problem k m) × ((ps : List Push) × IsLeadOf problem.board m ps × (length ps ≡ k))
share_lead problem shares t k es part m (i, at) = part.layer.leads i m at

-- ---- all the shares of a layer

module _ (problem : Problem) (level : IsLevel problem.board) (shares k : ℕ) (lists : List (List Closed)) (are : AreSharesOfLayer problem shares k lists) (xs : List Scene)
    (whole : IsLayerOf problem k xs) where
  abbrev all_places : List (List Scene)
  all_places = map places_of lists

  -- a list of positions is one of the shares
  share_places : (t : ℕ) (ms : List Scene) → slice_get all_places t ≡ Some ms → (es : List Closed) × IsShareOfLayer problem shares t k es × (places_of es ≡ ms)
  share_places t ms at = let x = at_map places_of lists t ms at in (x.0, are.each t x.0 x.1, x.2)

  lead_among : (t : ℕ) (ms : List Scene) → slice_get all_places t ≡ Some ms → (m : Scene) → IsIn ms m →
      ((share_of shares m ≡ t) × Admits problem k m) × ((ps : List Push) × IsLeadOf problem.board m ps × (length ps ≡ k))
  lead_among t ms at m i = let x = share_places t ms at in share_lead problem shares t k x.0 x.1 m (i.0, ap (λ zs. slice_get zs i.0) x.2 ∙ i.1)

  shares_distinct : Distinct (flat all_places)
  shares_distinct = flat_distinct all_places
      (λ t ms at. let x = share_places t ms at in subst (λ zs. Distinct zs) x.2 (place_unique (level_laws problem level) k (places_of x.0) x.1.layer))
      (λ s t ms ns m at_m at_n in_m in_n. sym (lead_among s ms at_m m in_m).0.0 ∙ (lead_among t ns at_n m in_n).0.0)

  in_layer : (m : Scene) → IsIn (flat all_places) m → IsIn xs m
  in_layer m i =
      let w = of_flat all_places m i in
      let l = lead_among w.0 w.1 w.2 m w.3 in
      let lead = l.1 in
      member (level_laws problem level) k xs whole m lead.0 lead.1 lead.2 l.0.1

  in_shares : 0 < shares → (m : Scene) → IsIn xs m → IsIn (flat all_places) m
  in_shares some m i =
      let t = share_of shares m in
      let at = read_at lists t (omega (arith, mod_below (sum m.boxes + m.player) shares some, are.all)) in
      let l = whole.leads i.0 m i.1 in
      let lead = l.1 in
      in_flat all_places t (places_of (get_or lists t [])) m (map_at places_of lists t (get_or lists t []) at)
      (member (level_laws problem level) k (places_of (get_or lists t [])) (are.each t (get_or lists t []) at).layer m lead.0 lead.1 lead.2 (refl, l.0))

  -- a layer has as many positions as its shares together
  pub shares_sum : 0 < shares → total lists ≡ length xs
  shares_sum some =
      omega (
        arith,
        length-distinct (flat all_places) xs shares_distinct in_layer,
        length-distinct xs (flat all_places) (place_unique (level_laws problem level) k xs whole) (in_shares some),
        length-flat all_places,
        total-places lists,
      )

-- ---- books that are all the shares

module _ (books : List BookView) (all : AreAllShares books) (lawful : AreLawfulBooks books) where
  abbrev first : BookView
  first = all.first

  pub first_book : IsLawfulBook first
  first_book = lawful 0 first all.head

  pub some_shares : 0 < first.shares
  some_shares = omega (arith, slice_get_within books 0 first all.head, all.all)

  -- each closed list of a book is its share of that layer
  closed_share : (t : ℕ) (v : BookView) → slice_get books t ≡ Some v → (j : ℕ) (es : List Closed) → slice_get v.closed j ≡ Some es →
      IsShareOfLayer first.level first.shares t j es
  closed_share t v at j es at_j =
      let e = all.each t v at in
      subst (λ s. IsShareOfLayer first.level first.shares s j es) e.0 (subst (λ n. IsShareOfLayer first.level n v.share j es) e.3
      (subst (λ b. IsShareOfLayer b v.shares v.share j es) e.1 ((lawful t v at).closed j es at_j)))

  -- and so the last ones are all the shares of the last closed layer
  pub last_shares : AreSharesOfLayer first.level first.shares (last_layer first) (map last_list books)
  last_shares = record {
    all = length-map books last_list ∙ all.all;
    each = λ t es at. (let x = at_map last_list books t es at in
        let v : BookView = x.0 in
        let some = (lawful t v x.1).some in
        subst (IsShareOfLayer first.level first.shares t (last_layer first)) x.2
        (subst (λ n. IsShareOfLayer first.level first.shares t (n - 1) (last_list v)) (all.each t v x.1).4
        (closed_share t v x.1 (last_layer v) (last_list v) (read_at v.closed (last_layer v) (omega arith)))));
  }

  -- the positions that a book has closed
  abbrev book_places : BookView → List Scene
  book_places v = flat (map places_of v.closed)

  length-book_places : (v : BookView) → length (book_places v) ≡ total v.closed
  length-book_places v = length-flat (map places_of v.closed) ∙ total-places v.closed

  -- a closed list of positions
  list_of : (t : ℕ) (v : BookView) → slice_get books t ≡ Some v → (j : ℕ) (ms : List Scene) → slice_get (map places_of v.closed) j ≡ Some ms →
      (es : List Closed) × IsShareOfLayer first.level first.shares t j es × (places_of es ≡ ms)
  list_of t v at j ms at_j = let x = at_map places_of v.closed j ms at_j in (x.0, closed_share t v at j x.0 x.1, x.2)

  book_distinct : (t : ℕ) (v : BookView) → slice_get books t ≡ Some v → Distinct (book_places v)
  book_distinct t v at = flat_distinct (map places_of v.closed)
      (λ j ms at_j. let x = list_of t v at j ms at_j in subst (λ zs. Distinct zs) x.2
      (place_unique (level_laws first.level first_book.level) j (places_of x.0) x.1.layer))
      (λ i j ms ns m at_m at_n in_m in_n. let x = list_of t v at i ms at_m in
      let y = list_of t v at j ns at_n in
      layers_apart (level_laws first.level first_book.level) i j (places_of x.0) (places_of y.0) x.1.layer y.1.layer m
      (in_m.0, ap (λ zs. slice_get zs in_m.0) x.2 ∙ in_m.1) (in_n.0, ap (λ zs. slice_get zs in_n.0) y.2 ∙ in_n.1))

  -- a position that a book has closed is of its share, and its lead is as long as its layer's number
  lead_closed : (t : ℕ) (v : BookView) → slice_get books t ≡ Some v → (m : Scene) → IsIn (book_places v) m →
      (share_of first.shares m ≡ t) × ((j : ℕ) × (j < length v.closed) × Admits first.level j m
      × ((ps : List Push) × IsLeadOf first.level.board m ps × (length ps ≡ j)))
  lead_closed t v at m i =
      let w = of_flat (map places_of v.closed) m i in
      let x = list_of t v at w.0 w.1 w.2 in
      let l = share_lead first.level first.shares t w.0 x.0 x.1 m (w.3.0, ap (λ zs. slice_get zs w.3.0) x.2 ∙ w.3.1) in
      (l.0.0, (w.0, omega (arith, slice_get_within (map places_of v.closed) w.0 w.1 w.2, length-map v.closed places_of), l.0.1, l.1))

  abbrev all_closed : List (List Scene)
  all_closed = map book_places books

  closed_distinct : Distinct (flat all_closed)
  closed_distinct = flat_distinct all_closed
      (λ t ms at. let x = at_map book_places books t ms at in subst (λ zs. Distinct zs) x.2 (book_distinct t x.0 x.1))
      (λ s t ms ns m at_m at_n in_m in_n. let x = at_map book_places books s ms at_m in
      let y = at_map book_places books t ns at_n in
      sym (lead_closed s x.0 x.1 m (in_m.0, ap (λ zs. slice_get zs in_m.0) x.2 ∙ in_m.1)).0
      ∙ (lead_closed t y.0 y.1 m (in_n.0, ap (λ zs. slice_get zs in_n.0) y.2 ∙ in_n.1)).0)

  module _ (layers : List (List Scene)) (are : AreLayersOf first.level layers) (long : length layers ≡ length first.closed) where
    layers_distinct : Distinct (flat layers)
    layers_distinct = flat_distinct layers
        (λ j xs at. place_unique (level_laws first.level first_book.level) j xs (are j xs at))
        (λ i j xs ys m at_x at_y in_x in_y. layers_apart (level_laws first.level first_book.level) i j xs ys (are i xs at_x) (are j ys at_y) m in_x in_y)

    closed_in : (m : Scene) → IsIn (flat all_closed) m → IsIn (flat layers) m
    closed_in m i =
        let w = of_flat all_closed m i in
        let x = at_map book_places books w.0 w.1 w.2 in
        let l = (lead_closed w.0 x.0 x.1 m (w.3.0, ap (λ zs. slice_get zs w.3.0) x.2 ∙ w.3.1)).1 in
        let at = read_at layers l.0 (omega (arith, l.1, long, (all.each w.0 x.0 x.1).4)) in
        in_flat layers l.0 (get_or layers l.0 []) m at (member (level_laws first.level first_book.level) l.0 (get_or layers l.0 [])
        (are l.0 (get_or layers l.0 []) at) m l.3.0 l.3.1 l.3.2 l.2)

    layers_in : (m : Scene) → IsIn (flat layers) m → IsIn (flat all_closed) m
    layers_in m i =
        let w = of_flat layers m i in
        let l = (are w.0 w.1 w.2).leads w.3.0 m w.3.1 in
        let lead = l.1 in
        let t = share_of first.shares m in
        let lt : t < length books = omega (arith, mod_below (sum m.boxes + m.player) first.shares some_shares, all.all) in
        let b = book_at t lt in
        let v : BookView = b.0 in
        let at = read_at v.closed w.0 (omega (arith, slice_get_within layers w.0 w.1 w.2, long, (all.each t v b.1).4)) in
        let es = get_or v.closed w.0 [] in
        in_flat all_closed t (book_places v) m (map_at book_places books t v b.1)
        (in_flat (map places_of v.closed) w.0 (places_of es) m (map_at places_of v.closed w.0 es at)
        (member (level_laws first.level first_book.level) w.0 (places_of es) (closed_share t v b.1 w.0 es at).layer m lead.0 lead.1 lead.2 (refl, l.0)))
      where
        book_at : (t : ℕ) → t < length books → (v : BookView) × (slice_get books t ≡ Some v)
        book_at t lt = (get_or books t first, slice_get-get_or books t first lt)

    -- the layers have as many positions as the books have closed together
    pub books_total : total layers ≡ sum_by (λ (v : BookView). total v.closed) books
    books_total =
        omega (
          arith,
          length-distinct (flat layers) (flat all_closed) layers_distinct layers_in,
          length-distinct (flat all_closed) (flat layers) closed_distinct closed_in,
          length-flat layers,
          length-flat all_closed,
          total-map book_places books,
          sum_by-same (λ (v : BookView). length (book_places v)) (λ v. total v.closed) books length-book_places,
        )

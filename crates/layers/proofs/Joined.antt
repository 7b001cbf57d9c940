-- The last closed lists of all the shares, merged, are the whole layer.
use Rattle.std.proofs.Common.{◌≡◌, ℕ, zero, suc, ◌+◌, ◌^◌, ◌<◌, ◌≤◌, List, [], ◌∷◌, ◌++◌, length, map, take, get_or, Option, Some, inl, inr}
use Rattle.std.proofs.Common.{sym, ap, subst, ◌∙◌, arith}
use Rattle.std.proofs.lemmas.List.{length-append}
use Rattle.std.specs.Prelude.{slice_get}
use Rattle.grid.specs.declared.square.Push.{Push}
use Rattle.grid.specs.Board.{Scene}
use Rattle.grid.specs.Lawful.{IsLevel, box_count}
use Rattle.grid.specs.States.{FitsLevel}
use Rattle.layers.specs.declared.limits.TheConstants.{MOST_POSITIONS}
use Rattle.store.specs.Entries.{Origin, Closed, places_of, origins_of}
use Rattle.successors.specs.Reaching.{IsLayerOf, AreLayersOf, total}
use Rattle.layers.specs.LayerView.{LayerView, HaveOrigins, IsWhole}
use Rattle.layers.specs.BookView.{BookView, last_layer, last_list, HasClosedOrigin, IsLawfulBook, AreLawfulBooks}
use Rattle.layers.specs.Books.{AreAllShares}
use Rattle.layers.specs.inside.Merging.{IsMerged}
use Rattle.layers.proofs.Flat.{HaveBoxes}
use Rattle.layers.proofs.Merged.{merged_layer, merged_origin, merged_fits}
use Rattle.layers.proofs.lemmas.Books.{read_at, total-push}
use Rattle.successors.proofs.lemmas.Lists.{take_at, at_map, at-push, sum_by_first}
use Rattle.layers.proofs.lemmas.Counting.{sum_by-word, total-map}
use Rattle.layers.proofs.lemmas.Joins.{no_origins, all_origins}
use Rattle.store.proofs.lemmas.Copies.{length-take_all}
use Rattle.layers.proofs.lemmas.Shares.{some_shares, first_book, last_shares, books_total}

-- the layers before the last closed one are known whole
wholes_long : (v : BookView) (book : IsLawfulBook v) → last_layer v ≤ length book.wholes
wholes_long v book = grind arith

pub one_of_all : {A : Type 0} (xss : List (List A)) (k : ℕ) → length (get_or xss k []) ≤ total xss
one_of_all [] k = omega arith
one_of_all (xs ∷ xss) zero = omega (arith, sum_by_first length xs xss)
one_of_all (xs ∷ xss) (suc k) = omega (arith, sum_by_first length xs xss, one_of_all xss k)

module _ (books : List BookView) (all : AreAllShares books) (lawful : AreLawfulBooks books) where
  abbrev first : BookView
  first = all.first

  first_is : IsLawfulBook first
  first_is = first_book books all lawful

  abbrev lists : List (List Closed)
  lists = map last_list books

  few_books : length books ≤ 16
  few_books = omega (arith, all.all, first_is.bounds.dealt.1)

  small_book : (i : ℕ) (v : BookView) → slice_get books i ≡ Some v → total v.closed < 2 ^ 32
  small_book i v at = let book = lawful i v at in omega (arith, book.within, book.bounds.limits.1)

  -- all the last closed lists are no more than all books may hold
  pub few_last : total lists ≤ MOST_POSITIONS
  few_last = grind (arith, few_books, total-map, sum_by-word, small_book, one_of_all)

  module _ (es : List Closed) (merged : IsMerged lists es) where
    before : (j : ℕ) → last_layer first ≡ suc j → (xs : List Scene) × IsLayerOf first.level j xs
    before j e = (
      get_or first_is.wholes j [],
      first_is.whole j (get_or first_is.wholes j []) (read_at first_is.wholes j (omega (arith, e, wholes_long first first_is))),
    )

    layer : IsLayerOf first.level (last_layer first) (places_of es)
    layer = merged_layer first.level first_is.level first.shares (last_layer first) lists (last_shares books all lawful) before es
        (some_shares books all lawful) merged

    origin : (i : ℕ) (m : Scene) (o : Option (Origin Push)) → slice_get es i ≡ Some (m, o) → HasClosedOrigin first.level (last_layer first) m o
    origin = merged_origin first.level first_is.level first.shares (last_layer first) lists (last_shares books all lawful) es merged

    fits : (r : ℕ) (m : Scene) → slice_get (places_of es) r ≡ Some m → FitsLevel first.level.board m
    fits r m at = let x = at_map (λ (e : Closed). e.0) es r m at in
        subst (FitsLevel first.level.board) x.2 (merged_fits first.level first_is.level first.shares (last_layer first) lists
        (last_shares books all lawful) es merged r x.0.0 x.0.1 x.1)

    -- the layers before it
    abbrev earlier : List (List Scene)
    earlier = take (last_layer first) first_is.wholes

    earlier_long : length earlier ≡ last_layer first
    earlier_long = length-take_all first_is.wholes (last_layer first) (wholes_long first first_is)

    earlier_are : AreLayersOf first.level earlier
    earlier_are j xs at = first_is.whole j xs (take_at first_is.wholes (last_layer first) j xs at).0

    -- with it they are all that the books have closed
    abbrev upto : List (List Scene)
    upto = earlier ++ places_of es ∷ []

    upto_are : AreLayersOf first.level upto
    upto_are j xs at = elim (at-push earlier (places_of es) j xs at) [
      | inl old ↦ earlier_are j xs old
      | inr last ↦ subst (IsLayerOf first.level j) (sym last.1) (subst (λ n. IsLayerOf first.level n (places_of es)) (sym (last.0 ∙ earlier_long)) layer)
    ]

    few : total earlier + length (places_of es) ≤ MOST_POSITIONS
    few = let some = first_is.some in
        omega (
          arith,
          few_books,
          total-push earlier (places_of es),
          books_total books all lawful upto upto_are (omega (arith, length-append earlier (places_of es ∷ []), earlier_long)),
          sum_by-word (λ (v : BookView). total v.closed) books small_book,
        )

    pub joined_boxes : HaveBoxes (box_count first.level.board) (places_of es)
    joined_boxes i m at = (fits i m at).boxes

    -- the layer that shows these positions and origins is whole
    pub joined_whole : (v : LayerView) → v.level ≡ first.level → v.number ≡ last_layer first → v.places ≡ places_of es → v.origins ≡ origins_of es → IsWhole v
    joined_whole v level number places origins = record {
      lawful = subst (λ b. IsLevel b.board) (sym level) first_is.level;
      layer = subst (λ b. IsLayerOf b v.number v.places) (sym level) (subst (λ k. IsLayerOf first.level k v.places) (sym number)
          (subst (IsLayerOf first.level (last_layer first)) (sym places) layer));
      fits = λ r m at. subst (λ b. FitsLevel b.board m) (sym level) (fits r m (ap (λ xs. slice_get xs r) (sym places) ∙ at));
      first = λ z. origins ∙ no_origins first.level es (λ i m o at. subst (λ k. HasClosedOrigin first.level k m o) (sym number ∙ z) (origin i m o at));
      later = λ k e. subst (λ b. HaveOrigins b k v.places v.origins) (sym level)
          (subst (λ ps. HaveOrigins first.level k ps v.origins) (sym places) (subst (HaveOrigins first.level k (places_of es)) (sym origins)
          (all_origins first.level k es (λ i m o at. subst (λ j. HasClosedOrigin first.level j m o) (sym number ∙ e) (origin i m o at)))));
      most = (
        earlier,
        subst (λ b. AreLayersOf b earlier) (sym level) earlier_are,
        earlier_long ∙ sym number,
        omega (arith, few, ap length places),
      );
    }

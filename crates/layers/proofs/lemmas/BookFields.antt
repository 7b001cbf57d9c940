-- The events of a book on its fields: what is taken, the limit, a hand back and a close.
use Rattle.std.proofs.Common.{◌≡◌, ℕ, suc, ◌+◌, ◌<◌, Bool, true, false, ◌&&◌, ◌==◌, not, List, [], ◌∷◌, ◌++◌, length, map, fold, get_or, set, ltb}
use Rattle.std.proofs.Common.{Option, Some, None, inl, inr, refl, sym, ap, subst, ◌∙◌, arith}
use Rattle.std.proofs.lemmas.Bool.{cases_lt, le-ltb}
use Rattle.std.proofs.lemmas.List.{length-append, get_or-set_same, length-map}
use Rattle.std.specs.Prelude.{slice_get, IfSome}
use Rattle.grid.specs.declared.square.Push.{Push}
use Rattle.grid.specs.Board.{Board, Scene}
use Rattle.grid.specs.Lawful.{box_count}
use Rattle.grid.specs.States.{FitsLevel}
use Rattle.successors.specs.declared.parcel.Successor.{Successor}
use Rattle.store.specs.Entries.{OpenEntry, same_scene, Closed}
use Rattle.successors.specs.Problems.{Problem}
use Rattle.successors.specs.Reaching.{total}
use Rattle.successors.specs.Shares.{share_of}
use Rattle.successors.specs.inside.Dealt.{share_places}
use Rattle.successors.specs.inside.Sums.{scene_sum}
use Rattle.store.specs.FoundView.{AllFit, FitsGrid, FoundView}
use Rattle.store.proofs.lemmas.Fitting.{level_fits}
use Rattle.successors.specs.ParcelView.{ParcelView, IsParcel}
use Rattle.layers.specs.BookView.{BookView, IsLawfulBook}
use Rattle.layers.specs.Books.{is_wanted, all_entered, with_parcel, IsAtWork, ExceedsLimit, MayEnter, IsClaimedOrDone, AllDone, with_closed, IsSortedOpen, IsClosedBy}
use Rattle.store.specs.Entering.{is_wanted_in, entered, closed_entry, RiseByOrigin, AreReordered}
use Rattle.layers.proofs.lemmas.Exchange.{found}
use Rattle.layers.specs.declared.book.Book.TheInside.{Inside}
use Rattle.layers.specs.inside.BookInside.{book_view, cut_at, AreCuts}
use Rattle.layers.proofs.Cuts.{length-cut_at, total-cuts, any-cuts, cut_push, cuts_push}
use Rattle.layers.proofs.lemmas.Books.{true_kept}
use Rattle.layers.proofs.lemmas.BookEvents.{lawful_parcel, lawful_over, lawful_closed, sorted_closed}

-- ---- taken ranks

-- once a rank is claimed, each rank up to it is taken
pub claimed-taken : (v : BookView) (k : ℕ) → k < length v.claimed → ((r : ℕ) → r < k → IsClaimedOrDone v r) → (r : ℕ) → r < k + 1 →
    IsClaimedOrDone (record v { claimed = set v.claimed k true }) r
claimed-taken v k lt taken r le = grind (arith, cases_lt, true_kept, get_or-set_same)

-- ---- the limit

-- a position is wanted by what was seen as it is by the closed lists
pub wanted_same : (a : Inside) → AreCuts a.starts.items (length a.found.seen) → is_wanted (book_view a) ≡ is_wanted_in a.found.seen a.shares a.share
wanted_same a cuts = λ i m. (share_of a.shares m == a.share) && not (any-cuts (same_scene m) a.starts.items a.found.seen cuts i)

-- the limit is passed by the fields where it is by the view
pub limit_same : (a : Inside) → AreCuts a.starts.items (length a.found.seen) → (now : BookView) → book_view a ≡ now →
    (rank : ℕ) (ss successors : List Successor) → ss ≡ successors → (passes : Bool) →
    passes ≡ ltb a.limit (length a.found.seen + length (fold (entered (is_wanted_in a.found.seen a.shares a.share) rank) a.found.waiting ss)) →
    passes ≡ ltb now.limit (total now.closed + length (all_entered now rank successors))
limit_same a cuts now view rank ss successors same passes e = grind (arith, total-cuts, found, wanted_same)

-- where the new positions pass the limit, the book would hold too many
pub over_limit : (now : BookView) (parcel : ParcelView) → true ≡ ltb now.limit (total now.closed + length (all_entered now parcel.rank parcel.successors)) →
    ExceedsLimit now parcel
over_limit now parcel more = grind arith

-- and where they don't, the parcel may enter
pub may_enter : (now : BookView) (parcel : ParcelView) → IsAtWork now parcel × (slice_get now.done parcel.rank ≡ Some false) → now.over ≡ false →
    false ≡ ltb now.limit (total now.closed + length (all_entered now parcel.rank parcel.successors)) → MayEnter now parcel
may_enter now parcel found over less = grind arith

-- ---- a hand back, on the fields

module _ (a : Inside) (book : IsLawfulBook (book_view a)) (cuts : AreCuts a.starts.items (length a.found.seen)) (parcel : ParcelView) (is : IsParcel parcel)
    (now : BookView) (view : book_view a ≡ now) (found : IsAtWork now parcel × (slice_get now.done parcel.rank ≡ Some false)) where
  at_work : IsAtWork (book_view a) parcel × (slice_get (book_view a).done parcel.rank ≡ Some false)
  at_work = subst (λ v. IsAtWork v parcel × (slice_get v.done parcel.rank ≡ Some false)) (sym view) found

  -- the book after an accepted parcel is a function of the one before
  pub handed_view : (worker rank tally : ℕ) (waiting : List (OpenEntry Scene Push)) → rank ≡ parcel.rank → tally ≡ get_or a.tallies.items worker 0 + 1 →
      waiting ≡ fold (entered (is_wanted_in a.found.seen a.shares a.share) parcel.rank) a.found.waiting parcel.successors →
      record (book_view a) { done = set a.done rank true; waiting = waiting; tallies = set a.tallies.items worker tally } ≡ with_parcel now worker parcel
  handed_view worker rank tally waiting e f g = grind (arith, found, wanted_same)

  -- and is lawful
  pub handed : (worker rank tally : ℕ) (waiting : List (OpenEntry Scene Push)) → rank ≡ parcel.rank → tally ≡ get_or a.tallies.items worker 0 + 1 →
      waiting ≡ fold (entered (is_wanted_in a.found.seen a.shares a.share) parcel.rank) a.found.waiting parcel.successors →
      worker < a.workers → a.over ≡ false → (false ≡ ltb now.limit (total now.closed + length (all_entered now parcel.rank parcel.successors))) →
      IsLawfulBook (record (book_view a) { done = set a.done rank true; waiting = waiting; tallies = set a.tallies.items worker tally })
  handed worker rank tally waiting e f g lt over below = grind (arith, may_enter, found, handed_view, lawful_parcel)

  -- where the limit is passed the book is over
  pub over_lawful : (true ≡ ltb now.limit (total now.closed + length (all_entered now parcel.rank parcel.successors))) →
      IsLawfulBook (record (book_view a) { over = true })
  over_lawful more = lawful_over (book_view a) parcel book is at_work.0 at_work.1 (subst (λ v. ExceedsLimit v parcel) (sym view) (over_limit now parcel more))

  -- both, on lists that have names
  pub handed_all : (worker rank : ℕ) (seen : List Closed) (waiting : List (OpenEntry Scene Push)) (done : List Bool) (tallies : List ℕ) →
      seen ≡ a.found.seen → waiting ≡ fold (entered (is_wanted_in a.found.seen a.shares a.share) parcel.rank) a.found.waiting parcel.successors →
      done ≡ set a.done rank true → rank ≡ parcel.rank → tallies ≡ set a.tallies.items worker (get_or a.tallies.items worker 0 + 1) →
      worker < a.workers → a.over ≡ false → (false ≡ ltb now.limit (total now.closed + length (all_entered now parcel.rank parcel.successors))) →
      IsLawfulBook (record (book_view a) { closed = cut_at a.starts.items seen; done = done; waiting = waiting; tallies = tallies })
      × (record (book_view a) { closed = cut_at a.starts.items seen; done = done; waiting = waiting; tallies = tallies } ≡ with_parcel now worker parcel)
  handed_all worker rank seen waiting done tallies s w d r t lt over below =
      let e : record (book_view a) { closed = cut_at a.starts.items seen; done = done; waiting = waiting; tallies = tallies } ≡ record (book_view a) {
        done = set a.done rank true;
        waiting = waiting;
        tallies = set a.tallies.items worker (get_or a.tallies.items worker 0 + 1);
      } = λ i. record (book_view a) { closed = cut_at a.starts.items (s i); done = d i; waiting = waiting; tallies = t i } in (
        subst IsLawfulBook (sym e) (handed worker rank (get_or a.tallies.items worker 0 + 1) waiting r refl w lt over below),
        e ∙ handed_view worker rank (get_or a.tallies.items worker 0 + 1) waiting r refl w,
      )

-- where none of the successors is of the share, nothing enters
pub none_entered : (seen : List Closed) (shares share rank k : ℕ) (ss : List Successor) (waiting : List (OpenEntry Scene Push)) →
    share_places shares share k (map (λ s. scene_sum s.position) ss) ≡ [] → fold (entered (is_wanted_in seen shares share) rank) waiting ss ≡ waiting
none_entered seen shares share rank k [] waiting none = refl
none_entered seen shares share rank k (s ∷ ss) waiting none =
    grind (arith, none_entered seen shares share rank (suc k) ss waiting)

-- where nothing enters, the limit is not passed
pub nothing_passes : (a : Inside) → IsLawfulBook (book_view a) → AreCuts a.starts.items (length a.found.seen) → (now : BookView) → book_view a ≡ now →
    (rank : ℕ) (ss : List Successor) → fold (entered (is_wanted_in a.found.seen a.shares a.share) rank) a.found.waiting ss ≡ a.found.waiting →
    false ≡ ltb now.limit (total now.closed + length (all_entered now rank ss))
nothing_passes a book cuts now view rank ss same = grind (arith, limit_same, le-ltb, found, total-cuts)

pub first_fits : (board : Board) (boxes squares : ℕ) (first : Option Scene) → boxes ≡ box_count board → squares ≡ length board.cells →
    IfSome first (FitsLevel board) → IfSome first (FitsGrid boxes squares)
first_fits board boxes squares None boxes_are squares_are fits = tt
first_fits board boxes squares (Some m) boxes_are squares_are fits = level_fits board boxes squares m boxes_are squares_are fits

-- the successors of a parcel have as many boxes as its level, and stand on its grid
pub fits_few : (parcel : ParcelView) → IsParcel parcel → (problem : Problem) → parcel.level ≡ problem → (v : FoundView) → v.boxes ≡ box_count problem.board →
    v.squares ≡ length problem.board.cells → (ss : List Successor) → ss ≡ parcel.successors → AllFit v ss
fits_few parcel is problem same v boxes_are squares_are ss e = record {
  each = λ i s at.
      level_fits problem.board v.boxes v.squares s.position boxes_are squares_are
      (subst (λ (t : Problem). FitsLevel t.board s.position) same (is.fits i s (ap (λ xs. slice_get xs i) (sym e) ∙ at)));
}

-- ranks stay taken when one more is done
pub taken_done : (v : BookView) (k r : ℕ) → IsClaimedOrDone v r → IsClaimedOrDone (record v { done = set v.done k true }) r
taken_done v k r taken = elim taken [ inl c ↦ inl c | inr d ↦ inr (true_kept v.done k r d) ]

-- ---- a close, on the fields

module _ (a : Inside) (book : IsLawfulBook (book_view a)) (cuts : AreCuts a.starts.items (length a.found.seen)) (all : AllDone (book_view a))
    (ys : List (OpenEntry Scene Push)) (same : AreReordered a.found.waiting ys) (rise : RiseByOrigin ys) where
  sorted_open : IsSortedOpen (book_view a) (map closed_entry ys)
  sorted_open = sorted_closed (book_view a) book all ys same.2 same.1 same.0 rise

  module _ (starts : List ℕ) (seen : List Closed) (claimed done : List Bool) (waiting : List (OpenEntry Scene Push)) (n : ℕ)
      (starts_are : starts ≡ a.starts.items ++ n ∷ []) (n_is : n ≡ length a.found.seen)
      (seen_are : seen ≡ a.found.seen ++ map closed_entry ys) (no_claims : claimed ≡ []) (none_done : done ≡ []) (none_waits : waiting ≡ []) where
    -- the book after a close is a function of the one before and the sorted entries
    pub closed_view : record (book_view a) { closed = cut_at starts seen; begun = false; claimed = claimed; done = done; waiting = waiting } ≡ with_closed
        (book_view a) (map closed_entry ys)
    closed_view = grind (arith, found, cut_push)

    pub closed_lawful : IsLawfulBook (record (book_view a) { closed = cut_at starts seen; begun = false; claimed = claimed; done = done; waiting = waiting })
    closed_lawful = subst IsLawfulBook (sym closed_view) (lawful_closed (book_view a) (map closed_entry ys) book all sorted_open)

    pub closed_cuts : AreCuts starts (length seen)
    closed_cuts =
        let long : length a.found.seen + length (map closed_entry ys) ≡ length seen = omega
        (arith, ap length seen_are, length-append a.found.seen (map closed_entry ys)) in
        subst (λ s. AreCuts s (length seen)) (sym (starts_are ∙ ap (λ k. a.starts.items ++ k ∷ []) n_is))
        (subst (AreCuts (a.starts.items ++ length a.found.seen ∷ [])) long (cuts_push a.starts.items (length a.found.seen) (length (map closed_entry ys)) cuts))

    -- and so the close is as it should be
    pub closed_by : (now : BookView) → book_view a ≡ now → (layer count : ℕ) → layer ≡ length a.starts.items → count ≡ length a.found.waiting →
        IsClosedBy now (record { layer = layer; count = count })
        (record (book_view a) { closed = cut_at starts seen; begun = false; claimed = claimed; done = done; waiting = waiting })
    closed_by now view layer count layer_is count_is =
        grind (arith, sorted_open, closed_view, length-cut_at, found, length-map)

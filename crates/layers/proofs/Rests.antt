-- Lists that are merged by their origins.
use Rattle.std.proofs.Common.{◌≡◌, ℕ, zero, suc, ◌+◌, ◌-◌, ◌<◌, ◌≤◌, true, false, is_some, ◌⊎◌, inl, MatchOption, List, [], ◌∷◌, ◌++◌, length, drop}
use Rattle.std.proofs.Common.{get_or, set, Some, None, Option, option_map, inr, refl, sym, ap, subst, ◌∙◌, arith}
use Rattle.std.proofs.lemmas.Bool.{cases_lt, true≢false}
use Rattle.std.proofs.lemmas.Cmp.{tied_itself}
use Rattle.std.proofs.lemmas.List.{length-append, length-drop}
use Rattle.std.proofs.Math.Seq.{take-length}
use Rattle.std.proofs.lemmas.Option.{same_Some, none-some, slice_get_within, slice_get_past, get_or_from_slice_get}
use Rattle.std.specs.Prelude.{slice_get}
use Rattle.std.specs.Option.{option_to_list}
use Rattle.std.specs.declared.cmp.Ordering.{Ordering}
use Rattle.std.specs.declared.cmp.Ordering.TheVariants.{Less, Equal, Greater}
use Rattle.std.specs.Ordering.{ordering_reverse, is_gt, is_lt}
use Rattle.grid.specs.declared.square.Push.{Push}
use Rattle.grid.specs.Board.{push_cmp}
use Rattle.grid.proofs.lemmas.Orders.{push_cmp_total}
use Rattle.store.specs.Entries.{Origin, origin_cmp, Closed, places_of, origins_of}
use Rattle.successors.specs.Reaching.{total}
use Rattle.layers.specs.BookView.{last_list}
use Rattle.store.specs.FoundView.{origin_in}
use Rattle.layers.specs.declared.book.Book.TheInside.{Inside}
use Rattle.layers.specs.inside.BookInside.{book_view, cut_at}
use Rattle.store.specs.inside.Copies.{IsCopied, squares_of}
use Rattle.layers.specs.inside.Merging.{HasLeastFirst, Takes, first_origin}
use Rattle.layers.specs.inside.Merging.Takes.{nothing, one}
use Rattle.layers.proofs.Cuts.{length-cut_at, cut_piece}
use Rattle.successors.proofs.lemmas.Lists.{sum_by_first}
use Rattle.store.proofs.lemmas.Copies.{squares-push, places-push, origins-push}
use Rattle.layers.proofs.lemmas.Orders.{less_upto, upto-less}
use Rattle.store.proofs.lemmas.Origins.{origin_total}

-- ---- what is left of a list

-- what is left begins with what stands at the place
pub drop_first : {A : Type 0} (xs : List A) (p : ℕ) (x : A) (rest : List A) → drop p xs ≡ x ∷ rest → (slice_get xs p ≡ Some x) × (drop (suc p) xs ≡ rest)
drop_first [] zero x rest e = cc
drop_first [] (suc p) x rest e = cc
drop_first (y ∷ ys) zero x rest e = grind arith
drop_first (y ∷ ys) (suc p) x rest e = drop_first ys p x rest e

-- where something is left, the place is within the list
pub first_left : {A : Type 0} (xs : List A) (p : ℕ) (rest : List A) → drop p xs ≡ rest → 0 < length rest → suc p ≤ length xs
first_left xs p rest e some = omega (arith, length-drop p xs, ap length e)

-- and so does its first origin
pub first_at : (es : List Closed) (p : ℕ) → option_map (λ (e : Closed). origin_in e.1) (slice_get es p) ≡ first_origin (drop p es)
first_at [] zero = refl
first_at [] (suc p) = refl
first_at (e ∷ es) zero = refl
first_at (e ∷ es) (suc p) = first_at es p

-- the last closed list is what was seen from the last beginning on
pub last_seen : (a : Inside) (from : ℕ) → 1 ≤ length a.starts.items → slice_get a.starts.items (length a.starts.items - 1) ≡ Some from →
    last_list (book_view a) ≡ drop from a.found.seen
last_seen a from some at =
    let long = length-cut_at a.starts.items a.found.seen in
    let k = length a.starts.items - 1 in
    ap (λ n. get_or (cut_at a.starts.items a.found.seen) (n - 1) []) long
    ∙ cut_piece a.starts.items a.found.seen k from (length a.found.seen) (at, inr (slice_get_past a.starts.items (suc k) (omega arith), refl))
    ∙ ap (drop from) (take-length a.found.seen)

-- ---- one is taken

pub total-set : {A : Type 0} (xss : List (List A)) (s : ℕ) (x : A) (xs : List A) → slice_get xss s ≡ Some (x ∷ xs) → total xss ≡ suc (total (set xss s xs))
total-set [] s x xs at = absurd (none-some (x ∷ xs) at)
total-set (ys ∷ xss) zero x xs at = omega (arith, sum_by_first length ys xss, sum_by_first length xs xss, ap length (same_Some ys (x ∷ xs) at))
total-set (ys ∷ xss) (suc s) x xs at = omega (arith, sum_by_first length ys xss, sum_by_first length ys (set xss s xs), total-set xss s x xs at)

-- as many entries are taken as are no longer left
pub taken_counted : {lists : List (List Closed)} {taken : List Closed} {rests : List (List Closed)} → Takes lists taken rests →
    length taken + total rests ≡ total lists
taken_counted nothing = omega arith
taken_counted (one {taken} {rests} {s} {e} {rest} before least) =
    omega (arith, taken_counted before, total-set rests s e rest least.here, length-append taken (e ∷ []))

-- ---- the least first entry

is_less : (o : Ordering) → is_lt o ≡ true → o ≡ Less
is_less Less e = refl
is_less Equal e = absurd (true≢false (sym e))
is_less Greater e = absurd (true≢false (sym e))

-- where the second is not before the first, the first is not after the second
no_greater : (a b : Origin Push) → is_lt (origin_cmp push_cmp b a) ≡ false → is_gt (origin_cmp push_cmp a b) ≡ false
no_greater a b e = ap is_gt ((origin_total push_cmp_total).antisymm a b) ∙ turned (origin_cmp push_cmp b a) e
  where
    turned : (o : Ordering) → is_lt o ≡ false → is_gt (ordering_reverse o) ≡ false
    turned Less f = absurd (true≢false f)
    turned Equal f = refl
    turned Greater f = refl

-- of the lists before a place, the one chosen has the least first entry, whose origin is the bound; or none is chosen,
-- and they are empty
abbrev pub IsLeastSoFar : List (List Closed) → ℕ → Option ℕ → Origin Push → Type 0
IsLeastSoFar rests place None bound = (t : ℕ) (f : Closed) (more : List Closed) → t < place → slice_get rests t ≡ Some (f ∷ more) → ⊥
IsLeastSoFar rests place (Some s) bound =
    (e : Closed) × (rest : List Closed) × (slice_get rests s ≡ Some (e ∷ rest)) × (bound ≡ origin_in e.1)
    × ((t : ℕ) (f : Closed) (more : List Closed) → t < place → slice_get rests t ≡ Some (f ∷ more) →
    is_gt (origin_cmp push_cmp (origin_in e.1) (origin_in f.1)) ≡ false)

module _ (rests : List (List Closed)) (place : ℕ) (list : List Closed) (at : slice_get rests place ≡ Some list) where
  upto : (t : ℕ) → t < place + 1 → (t < place) ⊎ (t ≡ place)
  upto t lt = elim (cases_lt t place) [ inl less ↦ inl less | inr more ↦ inr (omega arith) ]

  here_is : (t : ℕ) (f : Closed) (more : List Closed) → t ≡ place → slice_get rests t ≡ Some (f ∷ more) → first_origin list ≡ Some (origin_in f.1)
  here_is t f more e at_t = ap first_origin (same_Some list (f ∷ more) (sym at ∙ ap (slice_get rests) (sym e) ∙ at_t))

  -- an empty list changes nothing
  pub least_kept : (least : Option ℕ) (bound : Origin Push) → IsLeastSoFar rests place least bound → first_origin list ≡ None →
      IsLeastSoFar rests (place + 1) least bound
  least_kept None bound before none = grind arith
  least_kept (Some s) bound before none = (
    before.0,
    before.1,
    before.2,
    before.3,
    λ t f more lt at_t. elim (upto t lt) [
      | inl less ↦ before.4 t f more less at_t
      | inr e ↦ absurd (none-some (origin_in f.1) (sym none ∙ here_is t f more e at_t))
    ],
  )

  -- nor does one that begins with no lesser origin
  pub least_passed : (least : Option ℕ) (bound o : Origin Push) → IsLeastSoFar rests place least bound → is_some least ≡ true → first_origin list ≡ Some o →
      is_lt (origin_cmp push_cmp o bound) ≡ false → IsLeastSoFar rests (place + 1) least bound
  least_passed None bound o before some first later = absurd (true≢false (sym some))
  least_passed (Some s) bound o before some first later = (
    before.0,
    before.1,
    before.2,
    before.3,
    λ t f more lt at_t. elim (upto t lt) [
      | inl less ↦ before.4 t f more less at_t
      | inr e ↦ (let same : o ≡ origin_in f.1 = same_Some o (origin_in f.1) (sym first ∙ here_is t f more e at_t) in
          (λ i. is_gt (origin_cmp push_cmp (sym before.3 i) (sym same i))) ∙ no_greater bound o later)
    ],
  )

  -- one that begins with a lesser origin is chosen
  pub least_chosen : (least : Option ℕ) (bound o : Origin Push) → IsLeastSoFar rests place least bound →
      (is_some least ≡ false) ⊎ (is_lt (origin_cmp push_cmp o bound) ≡ true) → first_origin list ≡ Some o → IsLeastSoFar rests (place + 1) (Some place) o
  least_chosen least bound o before why first = go list refl
    where
      others : (l : Option ℕ) → IsLeastSoFar rests place l bound → (is_some l ≡ false) ⊎ (is_lt (origin_cmp push_cmp o bound) ≡ true) →
          (t : ℕ) (f : Closed) (more : List Closed) → t < place → slice_get rests t ≡ Some (f ∷ more) → is_gt (origin_cmp push_cmp o (origin_in f.1)) ≡ false
      others None was because t f more lt at_t = absurd (was t f more lt at_t)
      others (Some s) was (inl none) t f more lt at_t = absurd (true≢false none)
      others (Some s) was (inr lesser) t f more lt at_t =
          let later : is_gt (origin_cmp push_cmp bound (origin_in f.1)) ≡ false = ap (λ p. is_gt (origin_cmp push_cmp p (origin_in f.1))) was.3
          ∙ was.4 t f more lt at_t in upto-less (origin_cmp push_cmp o (origin_in f.1)) (less_upto (origin_total push_cmp_total) o bound (origin_in f.1)
          (is_less (origin_cmp push_cmp o bound) lesser) later)

      go : (es : List Closed) → list ≡ es → IsLeastSoFar rests (place + 1) (Some place) o
      go [] e = absurd (none-some o (ap first_origin (sym e) ∙ first))
      go (x ∷ es) e =
          let same : o ≡ origin_in x.1 = same_Some o (origin_in x.1) (sym first ∙ ap first_origin e) in (
            x,
            es,
            at ∙ ap (λ (ys : List Closed). Some ys) e,
            same,
            λ t f more lt at_t. ap (λ p. is_gt (origin_cmp push_cmp p (origin_in f.1))) (sym same) ∙ elim (upto t lt) [
              | inl less ↦ others least before why t f more less at_t
              | inr eq ↦ (let own : o ≡ origin_in f.1 = same_Some o (origin_in f.1) (sym first ∙ here_is t f more eq at_t) in
                  ap (λ p. is_gt (origin_cmp push_cmp o p)) (sym own) ∙ ap is_gt (tied_itself (origin_total push_cmp_total) o))
            ],
          )

-- once all lists were looked at, the one chosen has the least first entry; or nothing is left
none_left : {A : Type 0} (xss : List (List A)) → ((t : ℕ) (x : A) (xs : List A) → slice_get xss t ≡ Some (x ∷ xs) → ⊥) → total xss ≡ 0
none_left [] none = refl
none_left ([] ∷ xss) none = omega (arith, sum_by_first length [] xss, none_left xss (λ t x xs at. none (suc t) x xs at))
none_left ((y ∷ ys) ∷ xss) none = absurd (none zero y ys refl)

pub least_found : (rests : List (List Closed)) (place : ℕ) (least : Option ℕ) (bound : Origin Push) → length rests ≤ place →
    IsLeastSoFar rests place least bound → MatchOption least (total rests ≡ 0) (λ s. HasLeastFirst rests s)
least_found rests place None bound le so = none_left rests (λ t f more at. so t f more (omega (arith, slice_get_within rests t (f ∷ more) at)) at)
least_found rests place (Some s) bound le so =
    (so.0, so.1, record { here = so.2; least = λ t f more at. so.4 t f more (omega (arith, slice_get_within rests t (f ∷ more) at)) at })

-- ---- one entry more

-- the place of a least first entry is that of a list, and something is left of it
pub first_there : (rests : List (List Closed)) (s : ℕ) (list : List Closed) → HasLeastFirst rests s → list ≡ get_or rests s list →
    (s < length rests) × (0 < length list)
first_there rests s list (e, rest, least) is = grind (arith, slice_get_within, get_or_from_slice_get)

-- it is taken, copied, and less is left
pub one_more : (lists rests : List (List Closed)) (s : ℕ) (list now : List Closed) (squares more_squares : List ℕ)
    (origins more_origins : List (Origin Push)) → HasLeastFirst rests s → list ≡ get_or rests s list →
    ((e : Closed) (rest : List Closed) → list ≡ e ∷ rest → (now ≡ rest) × IsCopied e squares more_squares origins more_origins) →
    ((taken : List Closed) × Takes lists taken rests × (squares ≡ squares_of (places_of taken)) × (origins ≡ origins_of taken)) →
    ((taken : List Closed) × Takes lists taken (set rests s now) × (more_squares ≡ squares_of (places_of taken)) × (more_origins ≡ origins_of taken))
    × (total (set rests s now) < total rests)
one_more lists rests s list now squares more_squares origins more_origins (e, rest, least) is copied (taken, takes, squares_are, origins_are) =
    let w = copied e rest (is ∙ get_or_from_slice_get rests s (e ∷ rest) list least.here) in (
      (
        taken ++ e ∷ [],
        subst (λ xs. Takes lists (taken ++ e ∷ []) (set rests s xs)) (sym w.0) (one takes least),
        w.1.0 ∙ ap (λ xs. xs ++ (e.0.boxes ++ e.0.player ∷ [])) squares_are ∙ sym (squares-push (places_of taken) e.0)
            ∙ ap squares_of (sym (places-push taken e)),
        w.1.1 ∙ ap (λ xs. xs ++ option_to_list e.1) origins_are ∙ sym (origins-push taken e),
      ),
      subst (λ xs. total (set rests s xs) < total rests) (sym w.0) (omega (arith, total-set rests s e rest least.here)),
    )

-- The events of a book keep it lawful.
use Rattle.std.proofs.Common.{◌≡◌, ℕ, suc, ◌-◌, ◌<◌, ◌≤◌, Bool, true, false, List, [], ◌∷◌, ◌++◌, length, map, take, count_by, get_or, set, Some, inl, inr}
use Rattle.std.proofs.Common.{refl, sym, ap, subst, ◌∙◌, arith}
use Rattle.std.proofs.lemmas.Bool.{true≢false}
use Rattle.std.proofs.lemmas.List.{length-append, length-set, length-replicate, get_or-set_same, length-map}
use Rattle.std.proofs.Math.Seq.{take-append_seam}
use Rattle.std.proofs.lemmas.Option.{same_Some, none-some, slice_get_within, get_or_from_slice_get}
use Rattle.std.specs.Prelude.{slice_get}
use Rattle.std.specs.declared.cmp.Ordering.{Ordering}
use Rattle.std.specs.declared.cmp.Ordering.TheVariants.{Less, Equal, Greater}
use Rattle.std.specs.Ordering.{is_gt}
use Rattle.grid.specs.declared.square.Push.{Push}
use Rattle.grid.specs.Board.{Scene, push_cmp}
use Rattle.grid.specs.States.{FitsLevel}
use Rattle.successors.specs.Layered.{IsLayer}
use Rattle.store.specs.Entries.{Origin, origin_cmp, OpenEntry, Closed, places_of, origin_of}
use Rattle.layers.specs.Openings.{IsNext, IsOpening, IsLayered}
use Rattle.successors.specs.Capping.{Admits}
use Rattle.successors.specs.Reaching.{Reaches, IsLayerOf, total}
use Rattle.successors.specs.Expansion.{IsSuccessor}
use Rattle.layers.specs.Origins.{HasOrigin}
use Rattle.layers.specs.LayerView.{LayerView, IsWhole}
use Rattle.successors.specs.ParcelView.{ParcelView, AreSuccessors, IsParcel}
use Rattle.layers.specs.BookView.{BookView, last_layer, InShare, IsKept, HasClosedOrigin, IsShareOfLayer, IsLawfulBook}
use Rattle.layers.specs.Books.{MayBegin, with_begun, all_entered, with_parcel, IsAtWork, ExceedsLimit, MayEnter, AllDone, with_closed}
use Rattle.layers.specs.Books.{IsSortedOpen}
use Rattle.store.specs.Entering.{closed_entry}
use Rattle.successors.proofs.lemmas.Lists.{at_map, map_at, Distinct, at-push, sum-set_more, count-set_true, count-all, take_short}
use Rattle.layers.proofs.lemmas.Exchange.{lead_unique, entry_lead, next_layer}
use Rattle.store.proofs.lemmas.Offers.{open_places, listed-origin, origin-listed}
use Rattle.layers.proofs.lemmas.Layers.{layer_unique, recut}
use Rattle.layers.proofs.Open.{reoffered, closed_next}
use Rattle.layers.proofs.lemmas.Orders.{nat_cmp_equal}
use Rattle.layers.proofs.lemmas.Books.{level_laws, one_successor, whole_layer, whole_layers, all_open, all_distinct, all_each, begun-since, open-distance}
use Rattle.layers.proofs.lemmas.Books.{true_kept, true_cases, none_marked, none_counted, total-push, total-take_more, read_push, layers_same}
use Rattle.layers.proofs.lemmas.Books.{get_or_same}

-- ---- begin

pub lawful_begin : (v : BookView) (layer : LayerView) → IsLawfulBook v → IsWhole layer → MayBegin v layer → IsLawfulBook (with_begun v (length layer.places))
lawful_begin v layer book whole may =
    let some = book.some in
    let not = book.not_begun may.2 in
    let same : layer.number ≡ length book.wholes = may.1 ∙ sym not.0 in
    record {
      level = book.level;
      bounds = book.bounds;
      some = some;
      closed = book.closed;
      wholes = book.wholes ++ layer.places ∷ [];
      whole = λ j xs at. elim (at-push book.wholes layer.places j xs at) [
        | inl old ↦ book.whole j xs old
        | inr last ↦ (let l : IsLayerOf v.level layer.number layer.places = subst (λ b. IsLayerOf b layer.number layer.places) may.0 whole.layer in
            subst (λ zs. IsLayerOf v.level j zs) (sym last.1) (subst (λ i. IsLayerOf v.level i layer.places) (same ∙ sym last.0) l))
      ];
      few = omega (
        arith,
        total-push book.wholes layer.places,
        whole.most.3,
        ap total (layers_same v.level book.level book.wholes whole.most.0 book.whole (λ j xs at. subst (λ b. IsLayerOf b j xs) may.0 (whole.most.1 j xs at))
            (sym same ∙ sym whole.most.2)),
      );
      begun = λ e. (
        omega (arith, not.0, length-append book.wholes (layer.places ∷ [])),
        refl,
        length-replicate (length layer.places) false ∙ ap length (sym (ap (λ k. get_or (book.wholes ++ layer.places ∷ []) k []) (sym not.0)
            ∙ read_push book.wholes layer.places)),
      );
      not_begun = λ e. cc;
      waiting = λ e. record {
        from = λ m r p f. cc;
        fresh = λ m r p f. cc;
        least = λ m r p f. cc;
        whole = λ r p n m done at edge part. absurd (none_marked (length layer.places) r done);
      };
      distinct = λ i j a at_i at_j. cc;
      fits = λ m w. absurd (none-some m w.1);
      tallies = (
        book.tallies.0,
        omega (
          arith,
          book.tallies.1,
          none_counted (length layer.places),
          ap (count_by (λ b. b)) not.2,
          ap total (ap (λ k. take k (book.wholes ++ layer.places ∷ [])) (sym not.0) ∙ take-append_seam book.wholes (layer.places ∷ [])),
          ap total (take_short book.wholes (last_layer v) (omega (arith, not.0))),
        ),
      );
      within = omega (arith, book.within, ap length not.3);
      over = λ e. absurd (let w = (book.over e).1 in omega (arith, w.1, ap length not.2));
    }

-- ---- claim, reopen

-- there are as many marks of either kind
pub marks_long : (v : BookView) → IsLawfulBook v → length v.claimed ≡ length v.done
marks_long v book = grind arith

-- a book stays lawful with other claims, as many as before
pub lawful_claimed : (v : BookView) (claimed : List Bool) → length claimed ≡ length v.claimed → IsLawfulBook v
    → IsLawfulBook (record v { claimed = claimed })
lawful_claimed v claimed long book = record {
  level = book.level;
  bounds = book.bounds;
  some = book.some;
  closed = book.closed;
  wholes = book.wholes;
  whole = book.whole;
  few = book.few;
  begun = λ e. (let b = book.begun e in (b.0, long ∙ b.1, b.2));
  not_begun = λ e. (let b = book.not_begun e in (b.0, empty claimed (long ∙ ap length b.1), b.2, b.3));
  waiting = book.waiting;
  distinct = book.distinct;
  fits = book.fits;
  tallies = book.tallies;
  within = book.within;
  over = λ e. (let o = book.over e in (search, o.1));
}
  where
    empty : (bs : List Bool) → length bs ≡ 0 → bs ≡ []
    empty [] e = refl
    empty (b ∷ bs) e = absurd (omega (arith, e))

-- ---- hand back

-- the parcel's rank is a rank of the layer at work, and its successors are those of the position there
pub parcel-place : (v : BookView) (book : IsLawfulBook v) (begun : v.begun ≡ true) (parcel : ParcelView) → IsParcel parcel → IsAtWork v parcel →
    (n : Scene) × (slice_get (whole_layer v book begun (last_layer v)) parcel.rank ≡ Some n) × AreSuccessors v.level (last_layer v) n parcel.successors
parcel-place v book begun parcel is work =
    let some = book.some in
    let layer : IsLayerOf v.level (last_layer v) is.places = subst (λ k. IsLayerOf v.level k is.places) work.1
    (subst (λ b. IsLayerOf b parcel.layer is.places) work.0 is.layer) in
    let e = layer_unique (level_laws v.level book.level) (last_layer v) is.places (whole_layer v book begun (last_layer v)) layer
    (whole_layers v book begun (last_layer v) (omega arith)) in (
      is.place.0,
      ap (λ xs. slice_get xs parcel.rank) (sym e) ∙ is.place.1,
      subst (λ k. AreSuccessors v.level k is.place.0 parcel.successors) work.1
          (subst (λ b. AreSuccessors b parcel.layer is.place.0 parcel.successors) work.0 is.place.2),
    )

-- the open positions after the parcel's successors have entered
pub parcel_open : (v : BookView) (book : IsLawfulBook v) (begun : v.begun ≡ true) (parcel : ParcelView) → IsParcel parcel → IsAtWork v parcel →
    IsOpening push_cmp (IsSuccessor v.level.board) (IsKept v) (whole_layer v book begun) (last_layer v)
    (λ r p. get_or (set v.done parcel.rank true) r false ≡ true) (origin_of (all_entered v parcel.rank parcel.successors))
parcel_open v book begun parcel is work =
    let w = parcel-place v book begun parcel is work in
    let n = w.0 in
    let o = all_open v book begun parcel.rank n w.1 parcel.successors v.waiting w.2.each (book.waiting begun) in
    reoffered (λ r p. get_or (set v.done parcel.rank true) r false ≡ true)
    (λ r p f. elim f [
      | inl old ↦ true_kept v.done parcel.rank r old
      | inr new ↦ subst (λ k. get_or (set v.done parcel.rank true) k false ≡ true) (sym new.0) (get_or-set_same v.done parcel.rank true false work.2)
    ])
    (λ r p l m f at edge kept. elim (true_cases v.done parcel.rank r f) [
      | inl here ↦ (let e : l ≡ n = same_Some l n (sym at ∙ ap (slice_get (whole_layer v book begun (last_layer v))) here ∙ w.1) in
          let i = w.2.whole p m (
            subst (λ x. IsSuccessor v.level.board x p m) e edge,
            subst (λ k. Admits v.level k m) (let some = book.some in let g : length v.closed ≡ suc (last_layer v) = omega arith in g) kept.1,
          ) in inr (here, (i.0, record { push = p; position = m }, i.1, refl)))
      | inr old ↦ inl old
    ])
    o

pub parcel_distinct : (v : BookView) (book : IsLawfulBook v) (begun : v.begun ≡ true) (parcel : ParcelView) →
    Distinct (open_places (all_entered v parcel.rank parcel.successors))
parcel_distinct v book begun parcel = all_distinct v book begun parcel.rank parcel.successors v.waiting book.distinct

pub lawful_parcel : (v : BookView) (worker : ℕ) (parcel : ParcelView) → IsLawfulBook v → worker < v.workers → IsParcel parcel → MayEnter v parcel →
    IsLawfulBook (with_parcel v worker parcel)
lawful_parcel v worker parcel book lt is may =
    let work = may.0 in
    let begun = begun-since v book parcel.rank work.2 in
    record {
      level = book.level;
      bounds = book.bounds;
      some = book.some;
      closed = book.closed;
      wholes = book.wholes;
      whole = book.whole;
      few = book.few;
      begun = λ e. (let b = book.begun e in (b.0, b.1 ∙ sym (length-set v.done parcel.rank true), length-set v.done parcel.rank true ∙ b.2));
      not_begun = λ e. absurd (let f = begun in true≢false (sym f ∙ e));
      waiting = λ e. parcel_open v book begun parcel is work;
      distinct = parcel_distinct v book begun parcel;
      fits = all_each v book begun (λ m. FitsLevel v.level.board m) parcel.rank parcel.successors v.waiting
          (λ i s at. subst (λ b. FitsLevel b.board s.position) work.0 (is.fits i s at)) book.fits;
      tallies = (
        length-set v.tallies worker (suc (get_or v.tallies worker 0)) ∙ book.tallies.0,
        omega (arith, book.tallies.1, sum-set_more v.tallies worker (omega (arith, book.tallies.0)), count-set_true v.done parcel.rank may.1),
      );
      within = may.3;
      over = λ e. absurd (true≢false (sym e ∙ may.2));
    }

pub lawful_over : (v : BookView) (parcel : ParcelView) → IsLawfulBook v → IsParcel parcel → IsAtWork v parcel → slice_get v.done parcel.rank ≡ Some false →
    ExceedsLimit v parcel → IsLawfulBook (record v { over = true })
lawful_over v parcel book is work free passes =
    let begun = begun-since v book parcel.rank work.2 in
    record {
      level = book.level;
      bounds = book.bounds;
      some = book.some;
      closed = book.closed;
      wholes = book.wholes;
      whole = book.whole;
      few = book.few;
      begun = book.begun;
      not_begun = book.not_begun;
      waiting = book.waiting;
      distinct = book.distinct;
      fits = book.fits;
      tallies = book.tallies;
      within = book.within;
      over = λ e. (
        elim passes [
          | inl before ↦ (let o = (book.over before).0 in record { places = o.places; distinct = o.distinct; next = o.next; passed = o.passed })
          | inr now ↦ record {
            places = open_places (all_entered v parcel.rank parcel.successors);
            distinct = parcel_distinct v book begun parcel;
            next = open-distance v book begun (all_entered v parcel.rank parcel.successors) (parcel_open v book begun parcel is work)
                (parcel_distinct v book begun parcel);
            passed = omega (arith, length-map (all_entered v parcel.rank parcel.successors) (λ (x : OpenEntry Scene Push). x.0));
          }
        ],
        (parcel.rank, work.2, get_or_from_slice_get v.done parcel.rank false true free),
      );
    }

-- ---- close

all_true : (bs : List Bool) (i : ℕ) (b : Bool) → ((r : ℕ) → r < length bs → get_or bs r false ≡ true) → slice_get bs i ≡ Some b → b ≡ true
all_true bs i b all at = sym (get_or_from_slice_get bs i b false at) ∙ all i (slice_get_within bs i b at)

after-last : {A : Type 0} (xs : List A) (x : A) → 1 ≤ length xs → length (xs ++ x ∷ []) - 1 ≡ suc (length xs - 1)
after-last xs x some = omega (arith, length-append xs (x ∷ []))

pub lawful_closed : (v : BookView) (es : List Closed) → IsLawfulBook v → AllDone v → IsSortedOpen v es → IsLawfulBook (with_closed v es)
lawful_closed v es book all sorted =
    let some = book.some in
    let begun = book.begun all.0 in
    record {
      level = book.level;
      bounds = book.bounds;
      some = omega (arith, length-append v.closed (es ∷ []));
      closed = λ k xs at. elim (at-push v.closed es k xs at) [
        | inl old ↦ book.closed k xs old
        | inr last ↦ subst (λ zs. IsShareOfLayer v.level v.shares v.share k zs) (sym last.1)
            (subst (λ i. IsShareOfLayer v.level v.shares v.share i es) (sym last.0) sorted.next)
      ];
      wholes = book.wholes;
      whole = book.whole;
      few = book.few;
      begun = λ e. cc;
      not_begun = λ e. (omega (arith, begun.0, length-append v.closed (es ∷ [])), refl, refl, refl);
      waiting = λ e. cc;
      distinct = λ i j a at_i at_j. cc;
      fits = λ m w. absurd (none-some m w.1);
      tallies = (
        book.tallies.0,
        omega (
          arith,
          book.tallies.1,
          begun.0,
          begun.2,
          count-all v.done (λ i b at. all_true v.done i b all.1 at),
          total-take_more book.wholes (last_layer v) (omega (arith, begun.0)),
          ap (λ k. total (take k book.wholes)) (after-last v.closed es some),
        ),
      );
      within = omega (arith, book.within, total-push v.closed es, sorted.all);
      over = λ e. absurd (let w = (book.over e).1 in let f = all.1 w.0 w.1 in let g = get_or_same v.done w.0 false true w.1 in cc);
    }

places-closed : (ys : List (OpenEntry Scene Push)) → places_of (map closed_entry ys) ≡ open_places ys
places-closed [] = refl
places-closed (y ∷ ys) = ap (λ xs. y.0 ∷ xs) (places-closed ys)

module _ (v : BookView) (book : IsLawfulBook v) (all : AllDone v) (ys : List (OpenEntry Scene Push)) (distinct : Distinct (open_places ys))
    (same : (m : Scene) → origin_of ys m ≡ origin_of v.waiting m) (long : length ys ≡ length v.waiting)
    (sorted : (i j : ℕ) (x y : OpenEntry Scene Push) → i < j → slice_get ys i ≡ Some x → slice_get ys j ≡ Some y →
    is_gt (origin_cmp push_cmp x.1 y.1) ≡ false) where
  listed : (i : ℕ) (m : Scene) (o : Origin Push) → slice_get ys i ≡ Some (m, o) → origin_of v.waiting m ≡ Some o
  listed i m o at = sym (same m) ∙ listed-origin ys distinct i m o at

  -- two entries have the same origin only if they are one
  sorted_rise : (i j : ℕ) (x y : OpenEntry Scene Push) → i < j → slice_get ys i ≡ Some x → slice_get ys j ≡ Some y → origin_cmp push_cmp x.1 y.1 ≡ Less
  sorted_rise i j x y lt at_i at_j = go (origin_cmp push_cmp x.1 y.1) refl (sorted i j x y lt at_i at_j)
    where
      go : (o : Ordering) → origin_cmp push_cmp x.1 y.1 ≡ o → is_gt o ≡ false → o ≡ Less
      go Less e f = refl
      go Equal e f =
          let laws = level_laws v.level book.level in
          let w = nat_cmp_equal x.1.0 y.1.0 (push_cmp x.1.1 y.1.1) e in
          let p = laws.exact x.1.1 y.1.1 w.1 in
          let a = ((book.waiting all.0).from x.0 x.1.0 x.1.1 (listed i x.0 x.1 at_i)).2 in
          let b = ((book.waiting all.0).from y.0 y.1.0 y.1.1 (listed j y.0 y.1 at_j)).2 in
          let c = last_layer v in
          let n : b.0 ≡ a.0 = same_Some b.0 a.0 (sym b.1 ∙ ap (slice_get (whole_layer v book all.0 c)) (sym w.0) ∙ a.1) in
          let edge : IsSuccessor v.level.board a.0 x.1.1 y.0 = subst (λ z. IsSuccessor v.level.board z x.1.1 y.0) n
          (subst (λ q. IsSuccessor v.level.board b.0 q y.0) (sym p) b.2) in
          let m = one_successor v.level book.level c (whole_layer v book all.0 c) (whole_layers v book all.0 c (omega arith)) x.1.0 a.0 a.1 x.1.1 x.0 y.0 a.2
          edge in let i_is = distinct i j x.0 (map_at (λ z. z.0) ys i x at_i) (map_at (λ z. z.0) ys j y at_j ∙ ap (λ (z : Scene). Some z) m) in
          absurd (omega arith)
      go Greater e f = cc

  entries_next : IsNext push_cmp (IsSuccessor v.level.board) (IsKept v) (whole_layer v book all.0) (last_layer v) ys
  entries_next = closed_next (book.waiting all.0)
      (λ r n p at. all.1 r (let b = (book.begun all.0).2 in let w = slice_get_within (whole_layer v book all.0 (last_layer v)) r n at in omega arith))
      ys listed (λ m o e. origin-listed ys m o (same m ∙ e)) sorted_rise

  -- the open positions, by rank and push, are the share of the next layer
  pub sorted_closed : IsSortedOpen v (map closed_entry ys)
  sorted_closed = record {
    from = λ i m o at. (let x = at_map closed_entry ys i (m, o) at in
        (x.0.1, sym (ap (λ (z : Closed). z.1) x.2), subst (λ z. origin_of v.waiting z ≡ Some x.0.1) (ap (λ (z : Closed). z.0) x.2) (listed i x.0.0 x.0.1 x.1)));
    all = length-map ys closed_entry ∙ long;
    next = record {
      layer = subst (λ xs. IsLayer push_cmp (Reaches v.level.board) (λ j m. InShare v m × Admits v.level j m) (length v.closed) xs) (sym (places-closed ys))
          (recut (length v.closed) (open_places ys) (λ m w. w) (λ m w. w)
          (subst (λ k. IsLayer push_cmp (Reaches v.level.board) (λ j m. IsKept v m) k (open_places ys)) number
          (next_layer laws (whole_layer v book all.0) (last_layer v) layers kept ys entries_next)));
      origins = λ i m o at. (let x = at_map closed_entry ys i (m, o) at in
          subst (λ k. HasClosedOrigin v.level k m o) number
          (subst (λ p. HasClosedOrigin v.level (suc (last_layer v)) m p) (ap (λ (z : Closed). z.1) x.2)
          (subst (λ z. HasOrigin v.level (last_layer v) z x.0.1) (ap (λ (z : Closed). z.0) x.2) (has-origin i x.0.0 x.0.1 x.1))));
      fits = λ i m o at. (let x = at_map closed_entry ys i (m, o) at in
          let w = origin-listed v.waiting x.0.0 x.0.1 (listed i x.0.0 x.0.1 x.1) in
          subst (λ z. FitsLevel v.level.board z) (ap (λ (z : Closed). z.0) x.2) (book.fits x.0.0 (w.0, map_at (λ z. z.0) v.waiting w.0 (x.0.0, x.0.1) w.1)));
    };
  }
    where
      laws : IsLayered push_cmp (Reaches v.level.board) (IsSuccessor v.level.board) (Admits v.level)
      laws = level_laws v.level book.level

      number : suc (last_layer v) ≡ length v.closed
      number = let some = book.some in omega arith

      layers : (j : ℕ) → j ≤ last_layer v → IsLayerOf v.level j (whole_layer v book all.0 j)
      layers = whole_layers v book all.0

      kept : (m : Scene) → IsKept v m → Admits v.level (suc (last_layer v)) m
      kept m w = subst (λ k. Admits v.level k m) (sym number) w.1

      has-origin : (i : ℕ) (m : Scene) (o : Origin Push) → slice_get ys i ≡ Some (m, o) → HasOrigin v.level (last_layer v) m o
      has-origin i m o at xs layer =
          let e = layer_unique laws (last_layer v) (whole_layer v book all.0 (last_layer v)) xs (layers (last_layer v) (omega arith)) layer in
          let f = ((book.waiting all.0).from m o.0 o.1 (listed i m o at)).2 in (
            f.0,
            ap (λ zs. slice_get zs o.0) (sym e) ∙ f.1,
            λ ps lead. (let u = ((layers (last_layer v) (omega arith)).leads o.0 f.0 f.1).1 in
                let long_ps = ap length (lead_unique laws f.0 ps u.0 lead u.1) ∙ u.2 in
                entry_lead laws (whole_layer v book all.0) (last_layer v) layers kept ys entries_next i m o.0 o.1 at f.0 ps f.1 lead long_ps),
          )

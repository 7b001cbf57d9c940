-- What entering a position with its label, or setting its least total, does to the entries of a map.
use Rattle.std.proofs.Common.{◌≡◌, ℕ, zero, suc, ◌+◌, ◌<◌, ◌≤◌, Bool, true, false, cond, not, List, [], ◌∷◌, ◌++◌, length, map, Option, Some, None}
use Rattle.std.proofs.Common.{option_map, inr, refl, sym, ap, subst, ◌∙◌, if◌then◌else◌, arith}
use Rattle.std.proofs.lemmas.Option.{same_Some, none-some, slice_get-map}
use Rattle.std.proofs.lemmas.List.{length-map}
use Rattle.std.specs.Prelude.{slice_get, slice_set}
use Rattle.std.specs.List.{position_or_len}
use Rattle.std.specs.Map.{lookup, keys_of, values_of}
use Rattle.indexmap.specs.IndexMap.{insert_entry}
use Rattle.indexmap.specs.Layout.{set_value_at}
use Rattle.grid.specs.Board.{Scene}
use Rattle.successors.proofs.lemmas.Lists.{map-push}
use Rattle.store.specs.Entries.{same_scene}
use Rattle.store.specs.Visited.{Node, HasEntered, IsNew, VisitedView, entries_of, entry_of, visited_view, with_least}
use Rattle.store.specs.declared.visited.Label.{Label}
use Rattle.store.proofs.lemmas.Offers.{same_since, same_true}

abbrev Labelled : Type 0
Labelled = Scene × Label

-- ---- how entries are shown

pub shown_at : (es : List Labelled) (place : ℕ) (e : Labelled) → slice_get es place ≡ Some e → slice_get (entries_of es) place ≡ Some (entry_of e)
shown_at es place e at = slice_get-map entry_of es place ∙ ap (option_map entry_of) at

set_shown : (es : List Labelled) (place : ℕ) (e : Labelled) → entries_of (slice_set es place e) ≡ slice_set (entries_of es) place (entry_of e)
set_shown [] place e = refl
set_shown (x ∷ es) zero e = refl
set_shown (x ∷ es) (suc place) e = ap (λ ys. entry_of x ∷ ys) (set_shown es place e)

pub keys_shown : (es : List Labelled) → keys_of es ≡ map (λ (x : Node). x.position) (entries_of es)
keys_shown [] = refl
keys_shown (e ∷ es) = ap (λ ms. e.0 ∷ ms) (keys_shown es)

-- ---- a position that no entry has

new_rest : (m : Scene) (e : Labelled) (es : List Labelled) → lookup (same_scene m) (e ∷ es) ≡ None →
    (same_scene m e.0 ≡ false) × (lookup (same_scene m) es ≡ None)
new_rest m e es none = grind arith

none_has : (m : Scene) (es : List Labelled) → lookup (same_scene m) es ≡ None → IsNew (entries_of es) m
none_has m [] none i x at same = none-some x at
none_has m (e ∷ es) none zero x at same = grind (arith, same_Some, same_since, new_rest)
none_has m (e ∷ es) none (suc i) x at same = none_has m es (new_rest m e es none).1 i x at same

put_last : (m : Scene) (w : Label) (es : List Labelled) → lookup (same_scene m) es ≡ None → insert_entry same_scene es m w ≡ es ++ (m, w) ∷ []
put_last m w [] none = refl
put_last m w (x ∷ es) none =
    let rest = new_rest m x es none in
    ap (λ b. if b then (x.0, w) ∷ es else x ∷ insert_entry same_scene es m w) rest.0 ∙ ap (λ ys. x ∷ ys) (put_last m w es rest.1)

last_place : (m : Scene) (es : List Labelled) → lookup (same_scene m) es ≡ None → position_or_len (same_scene m) (keys_of es) ≡ length es
last_place m [] none = refl
last_place m (x ∷ es) none =
    let rest = new_rest m x es none in
    let more = last_place m es rest.1 in
    ap (λ b. cond (not b) (1 + position_or_len (same_scene m) (keys_of es)) 0) rest.0 ∙ omega (arith, more)

-- comes last
pub comes_last : (m : Scene) (w : Label) (es after : List Labelled) (place : ℕ) → lookup (same_scene m) es ≡ None →
    place ≡ position_or_len (same_scene m) (keys_of es) → after ≡ insert_entry same_scene es m w →
    HasEntered (entries_of es) (entries_of after) (entry_of (m, w)) (Some place)
comes_last m w es after place none at put = grind (arith, last_place, length-map, put_last, map-push, none_has)

-- ---- a position that an entry has

-- where it stands, and what is put there
abbrev HasKeyAt : Scene → Label → Label → Labelled → List Labelled → Bool → ℕ → Type 0
HasKeyAt m v w x es here place = (slice_get (x ∷ es) place ≡ Some (m, v)) ×
    ((if here then (x.0, w) ∷ es else x ∷ insert_entry same_scene es m w) ≡ slice_set (x ∷ es) place (m, w))

stands : (m : Scene) (v w : Label) (es : List Labelled) → lookup (same_scene m) es ≡ Some v →
    (slice_get es (position_or_len (same_scene m) (keys_of es)) ≡ Some (m, v)) ×
    (insert_entry same_scene es m w ≡ slice_set es (position_or_len (same_scene m) (keys_of es)) (m, w))
stands m v w [] found = absurd (none-some v found)
stands m v w (x ∷ es) found = by (same_scene m x.0) refl found (stands m v w es)
  where
    by : (b : Bool) → same_scene m x.0 ≡ b → cond b (Some x.1) (lookup (same_scene m) es) ≡ Some v →
        (lookup (same_scene m) es ≡ Some v → (slice_get es (position_or_len (same_scene m) (keys_of es)) ≡ Some (m, v)) ×
        (insert_entry same_scene es m w ≡ slice_set es (position_or_len (same_scene m) (keys_of es)) (m, w))) →
        HasKeyAt m v w x es b (cond (not b) (1 + position_or_len (same_scene m) (keys_of es)) 0)
    by true same found rest =
        let key : m ≡ x.0 = same_true m x.0 same in
        let value : x.1 ≡ v = same_Some x.1 v found in
        ((λ i. Some (sym key i, value i)), (λ i. (sym key i, w) ∷ es))
    by false other found rest =
        let more = rest found in
        let next : suc (position_or_len (same_scene m) (keys_of es)) ≡ 1 + position_or_len (same_scene m) (keys_of es) = omega arith in
        subst (HasKeyAt m v w x es false) next (more.0, ap (λ ys. x ∷ ys) more.1)

-- with no more pushes than are offered
pub is_known : (m : Scene) (v w : Label) (es after : List Labelled) → lookup (same_scene m) es ≡ Some v → v.pushes ≤ w.pushes → after ≡ es →
    HasEntered (entries_of es) (entries_of after) (entry_of (m, w)) None
is_known m v w es after found few same = (
  ap entries_of same,
  (
    position_or_len (same_scene m) (keys_of es),
    entry_of (m, v),
    shown_at es (position_or_len (same_scene m) (keys_of es)) (m, v) (stands m v w es found).0,
    refl,
    few,
  ),
)

-- or with more
pub gives_way : (m : Scene) (v w : Label) (es after : List Labelled) (place : ℕ) → lookup (same_scene m) es ≡ Some v →
    place ≡ position_or_len (same_scene m) (keys_of es) → w.pushes < v.pushes → after ≡ insert_entry same_scene es m w →
    HasEntered (entries_of es) (entries_of after) (entry_of (m, w)) (Some place)
gives_way m v w es after place found at few put =
    let here = stands m v w es found in inr (
      entry_of (m, v),
      shown_at es place (m, v) (ap (slice_get es) at ∙ here.0),
      refl,
      few,
      ap entries_of (put ∙ here.1 ∙ ap (λ k. slice_set es k (m, w)) (sym at)) ∙ set_shown es place (m, w),
    )

-- ---- an entry whose least total is set

written : (es : List Labelled) (place : ℕ) (w : Label) (x : Node) → slice_get (entries_of es) place ≡ Some x →
    entries_of (set_value_at es place w) ≡ slice_set (entries_of es) place (entry_of (x.position, w))
written [] place w x at = absurd (none-some x at)
written (e ∷ es) zero w x at = ap (λ (y : Node). entry_of (y.position, w) ∷ entries_of es) (same_Some (entry_of e) x at)
written (e ∷ es) (suc place) w x at = ap (λ ys. entry_of e ∷ ys) (written es place w x at)

label_at : (es : List Labelled) (place : ℕ) (label : Label) (x : Node) → slice_get (values_of es) place ≡ Some label →
    slice_get (entries_of es) place ≡ Some x → x ≡ entry_of (x.position, label)
label_at [] place label x is at = absurd (none-some x at)
label_at (e ∷ es) zero label x is at = grind arith
label_at (e ∷ es) (suc place) label x is at = label_at es place label x is at

-- nothing else changes
pub least_set : (boxes squares : ℕ) (es : List Labelled) (place : ℕ) (least : Option ℕ) (label : Label) (v : VisitedView) → visited_view boxes squares es ≡ v →
    slice_get (values_of es) place ≡ Some label → (x : Node) → slice_get v.entries place ≡ Some x →
    entries_of (set_value_at es place (record { pushes = label.pushes; least = least; parent = label.parent })) ≡
    slice_set v.entries place (with_least least x)
least_set boxes squares es place least label v view_is is x at =
    let here : slice_get (entries_of es) place ≡ Some x = subst (λ (u : VisitedView). slice_get u.entries place ≡ Some x) (sym view_is) at in
    let same = label_at es place label x is here in
    written es place (record { pushes = label.pushes; least = least; parent = label.parent }) x here
    ∙ (λ i. slice_set ((view_is i).entries) place (with_least least (sym same i)))

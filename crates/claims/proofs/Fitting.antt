-- Hands that fit the words, where a view or a word changes.
use Rattle.std.proofs.Common.{◌≡◌, ℕ, suc, ◌<◌, ◌≤◌, ⊎_elim, true≢false, List, [], ◌∷◌, ◌++◌, get_or, set, refl, sym, ◌∙◌, subst, arith}
use Rattle.std.specs.Prelude.{All, IsSome}
use mathlib.Core.Option.{some}
use lib.ListN.{get_elem?}
use Rattle.atomic_table.proofs.Lists.{at_set, at_snoc}
use Rattle.std.proofs.lemmas.List.Elements.{All-nil, All-cons, All-head, All-push, All-weaker}
use Rattle.std.proofs.lemmas.List.Quantifiers.{all_pairs_push}
use Rattle.claims.specs.declared.views.Hand.{Hand}
use Rattle.claims.specs.declared.views.View.{View}
use Rattle.claims.specs.Hands.{empty_hand, with_place, with_taken, with_number, spent_out}
use Rattle.claims.specs.inside.Views.{view_of}
use Rattle.claims.specs.Rule.{FitsLedger}

module _ (size : ℕ) (words : List ℕ) where
  -- what the rule says of a hand of a view with this length
  abbrev pub InView : ℕ → Hand → Type 0
  InView len h = (len ≡ size) × FitsLedger size words h

  abbrev pub Fits : View → Type 0
  Fits v = All (InView v.len) v.hands

  abbrev pub AllFit : List View → Type 0
  AllFit views = (i : ℕ) (v : View) → get_elem? views i ≡ some v → Fits v

  pub fits_one : (h : Hand) → FitsLedger size words h → Fits (view_of size (h ∷ []))
  fits_one h fit = All-cons (InView size) h [] (refl, fit) (All-nil (InView size))

  pub fit_of : (len : ℕ) (h : Hand) (hs : List Hand) → Fits (view_of len (h ∷ hs)) → FitsLedger size words h
  fit_of len h hs all = (All-head (InView len) h hs all).1

  pub fits_none : (len : ℕ) → Fits (view_of len [])
  fits_none len = All-nil (InView len)

  pub fits_set : (views : List View) (i : ℕ) (w : View) → AllFit views → Fits w → AllFit (set views i w)
  fits_set views i w all fit j u at = ⊎_elim (λ t. subst Fits t.1 fit) (λ t. all j u t.1) (at_set views i j w u at)

  pub fits_push : (views : List View) (w : View) → AllFit views → Fits w → AllFit (views ++ w ∷ [])
  fits_push views w all fit j u at = ⊎_elim (λ t. all j u t) (λ t. subst Fits t fit) (at_snoc views w u j at)

  pub fits_empty : FitsLedger size words empty_hand
  fits_empty = record {
    rising = λ i j d lt inside. absurd (omega arith);
    known = All-nil (λ p. get_or words (suc p) 0 ≡ 1);
    bare = λ _. (refl, refl);
    out = λ e. absurd (true≢false (sym e));
  }

-- The words change, so that the next number is no less and no place becomes free
module _ (size : ℕ) (words after : List ℕ) (more : get_or words 0 0 ≤ get_or after 0 0) (stays : (p : ℕ) → get_or words (suc p) 0 ≡ 1 →
    get_or after (suc p) 0 ≡ 1) where
  pub known_later : (ps : List ℕ) → All (λ p. get_or words (suc p) 0 ≡ 1) ps → All (λ p. get_or after (suc p) 0 ≡ 1) ps
  known_later ps all = All-weaker (λ p. get_or words (suc p) 0 ≡ 1) (λ p. get_or after (suc p) 0 ≡ 1) stays ps all

  later : (h : Hand) → FitsLedger size words h → FitsLedger size after h
  later h fit = record {
    rising = fit.rising;
    known = known_later h.taken fit.known;
    bare = fit.bare;
    out = λ e. let reached = fit.out e in omega arith;
  }

  pub fits_later : (views : List View) → AllFit size words views → AllFit size after views
  fits_later views all i v at = All-weaker (InView size words v.len) (InView size after v.len) (λ h t. (t.0, later h t.1)) v.hands (all i v at)

  -- a number at the end, above all earlier ones
  pub number_fits : (h : Hand) (x : ℕ) → IsSome h.place → All (λ y. y < x) h.numbers → FitsLedger size words h → FitsLedger size after (with_number x h)
  number_fits h x has above fit = record {
    rising = all_pairs_push (λ y z. y < z) h.numbers x fit.rising (λ k d lt. above k d lt);
    known = known_later h.taken fit.known;
    bare = λ none. absurd (true≢false (sym has ∙ none));
    out = λ e. let reached = fit.out e in omega arith;
  }

  pub spent_fits : (h : Hand) → IsSome h.place → size ≤ get_or after 0 0 → FitsLedger size words h → FitsLedger size after (spent_out h)
  spent_fits h has reached fit = record {
    rising = fit.rising;
    known = known_later h.taken fit.known;
    bare = λ none. absurd (true≢false (sym has ∙ none));
    out = λ _. reached;
  }

  pub place_fits : (h : Hand) (p : ℕ) → FitsLedger size words h → FitsLedger size after (with_place p h)
  place_fits h p fit = record {
    rising = fit.rising;
    known = known_later h.taken fit.known;
    bare = λ none. absurd (true≢false none);
    out = λ e. let reached = fit.out e in omega arith;
  }

pub taken_fits : (size : ℕ) (words : List ℕ) (h : Hand) (p : ℕ) → get_or words (suc p) 0 ≡ 1 → FitsLedger size words h → FitsLedger size words (with_taken p h)
taken_fits size words h p taken fit = record {
  rising = fit.rising;
  known = All-push (λ q. get_or words (suc q) 0 ≡ 1) h.taken p fit.known taken;
  bare = fit.bare;
  out = fit.out;
}

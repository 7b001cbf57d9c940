-- Layer 0, and a new book.
use Rattle.std.proofs.Common.{◌≡◌, ℕ, zero, suc, ◌<◌, ◌≤◌, false, List, [], ◌∷◌, ◌++◌, length, sum, drop, replicate, Bool, Option, Some, None, inl, inr, refl}
use Rattle.std.proofs.Common.{sym, ap, subst, ◌∙◌, arith}
use Rattle.std.proofs.lemmas.List.{length-replicate}
use Rattle.std.proofs.lemmas.Option.{same_Some, none-some}
use Rattle.std.specs.Prelude.{slice_get}
use Rattle.std.specs.Ordering.{is_gt}
use Rattle.grid.specs.declared.square.Push.{Push}
use Rattle.grid.specs.Board.{Scene, start, push_cmp}
use Rattle.grid.specs.Lawful.{IsLevel}
use Rattle.grid.specs.States.{FitsLevel}
use Rattle.grid.specs.Plays.{shortlex}
use Rattle.grid.specs.Plays.Play.{stay}
use Rattle.grid.proofs.lemmas.Plays.{play_first, walk_keeps_boxes}
use Rattle.area.specs.Area.{IsNorm}
use Rattle.doom.specs.Deadlocks.{Doomed, Undoomed}
use Rattle.successors.specs.Layered.{IsLead}
use Rattle.store.specs.Entries.{Origin, OpenEntry, Closed}
use Rattle.successors.specs.Problems.{Problem}
use Rattle.successors.specs.Capping.{Admits}
use Rattle.successors.specs.Reaching.{Reaches}
use Rattle.successors.specs.Shares.{share_of}
use Rattle.layers.specs.BookView.{BookView, IsShareOfLayer, AreBounds, IsLawfulBook}
use Rattle.store.specs.FoundView.{first_entries}
use Rattle.layers.specs.inside.BookInside.{cut_at, AreCuts, IsFirst}
use Rattle.layers.specs.Books.{AreNewInOrder, IsNewBook}
use Rattle.layers.proofs.lemmas.Admissions.{admitted_alike}
use Rattle.layers.proofs.lemmas.Books.{level_laws}
use Rattle.successors.proofs.lemmas.Lists.{at-push, sum_by_first}
use Rattle.layers.proofs.lemmas.Orders.{shortlex_shorter}

no_later : (qs : List Push) → is_gt (shortlex push_cmp [] qs) ≡ false
no_later [] = refl
no_later (q ∷ qs) = shortlex_shorter push_cmp [] (q ∷ qs) (omega arith)

-- the start's normal position is layer 0 of its own share
pub first_layer : (problem : Problem) → IsLevel problem.board → (shares share : ℕ) (n : Scene) → Undoomed problem.board (start problem.board) →
    IsNorm problem.board (start problem.board) n → FitsLevel problem.board n → Admits problem 0 n → share_of shares n ≡ share →
    IsShareOfLayer problem shares share 0 ((n, None) ∷ [])
first_layer problem level shares share n safe norm fits adm own = record {
  layer = record {
    leads = λ r m at. leads r m at;
    rise = λ r s m l ps qs lt at_r at_s. absurd (past r s l lt at_s);
    whole = λ ps m reach long part. inl (zero, ap (λ (x : Scene). Some x) (same ps m reach long));
  };
  origins = λ i m o at. origin i m o at;
  fits = λ i m o at. fit i m o at;
}
  where
    here : Reaches problem.board [] n
    here = ([], start problem.board, stay safe, norm)

    lead : IsLead push_cmp (Reaches problem.board) n []
    lead = record { reached = here; least = λ qs reach. no_later qs }

    leads : (r : ℕ) (m : Scene) → slice_get (n ∷ []) r ≡ Some m → ((share_of shares m ≡ share) × Admits problem 0 m)
        × ((ps : List Push) × IsLead push_cmp (Reaches problem.board) m ps × (length ps ≡ 0))
    leads zero m at = (
      (ap (share_of shares) (sym (same_Some n m at)) ∙ own, subst (Admits problem 0) (same_Some n m at) adm),
      ([], subst (λ x. IsLead push_cmp (Reaches problem.board) x []) (same_Some n m at) lead, refl),
    )
    leads (suc r) m at = absurd (none-some m at)

    past : (r s : ℕ) (l : Scene) → r < s → slice_get (n ∷ []) s ≡ Some l → ⊥
    past r zero l lt at = omega arith
    past r (suc s) l lt at = none-some l at

    same : (ps : List Push) (m : Scene) → Reaches problem.board ps m → length ps ≡ 0 → n ≡ m
    same [] m reach long = (level_laws problem level).same [] n m here reach
    same (p ∷ ps) m reach long = absurd (omega arith)

    origin : (i : ℕ) (m : Scene) (o : Option (Origin Push)) → slice_get {X = Closed} ((n, None) ∷ []) i ≡ Some (m, o) → o ≡ None
    origin zero m o at = sym (ap (λ (x : Closed). x.1) (same_Some (n, None) (m, o) at))
    origin (suc i) m o at = absurd (none-some (m, o) at)

    fit : (i : ℕ) (m : Scene) (o : Option (Origin Push)) → slice_get {X = Closed} ((n, None) ∷ []) i ≡ Some (m, o) → FitsLevel problem.board m
    fit zero m o at = subst (FitsLevel problem.board) (ap (λ (x : Closed). x.0) (same_Some (n, None) (m, o) at)) fits
    fit (suc i) m o at = absurd (none-some (m, o) at)

-- where no position that is reached without a push is of a share, its layer 0 is empty
empty_layer : (problem : Problem) (shares share : ℕ) → ((ps : List Push) (m : Scene) → Reaches problem.board ps m
    → length ps ≡ 0 → (share_of shares m ≡ share) × Admits problem 0 m → ⊥) → IsShareOfLayer problem shares share 0 []
empty_layer problem shares share none = grind arith

-- so is that of another share
pub other_layer : (problem : Problem) → IsLevel problem.board → (shares share : ℕ) (n : Scene)
    → Undoomed problem.board (start problem.board) → IsNorm problem.board (start problem.board) n
    → ¬ (share_of shares n ≡ share) → IsShareOfLayer problem shares share 0 []
other_layer problem level shares share n safe norm other =
    empty_layer problem shares share (λ ps m reach long part. other (ap (share_of shares) (same ps m reach long) ∙ part.0))
  where
    same : (ps : List Push) (m : Scene) → Reaches problem.board ps m → length ps ≡ 0 → n ≡ m
    same [] m reach long = (level_laws problem level).same [] n m ([], start problem.board, stay safe, norm) reach
    same (p ∷ ps) m reach long = absurd (omega arith)

-- where the start is doomed layer 0 is empty
pub doomed_layer : (problem : Problem) (shares share : ℕ) → Doomed problem.board (start problem.board).boxes
    → IsShareOfLayer problem shares share 0 []
doomed_layer problem shares share doomed =
    empty_layer problem shares share (λ ps m reach long part. play_first reach.2 doomed)

-- and where the start is not admitted
barred_layer : (problem : Problem) → IsLevel problem.board → (shares share : ℕ)
    → ¬ (Admits problem 0 (start problem.board)) → IsShareOfLayer problem shares share 0 []
barred_layer problem level shares share barred = empty_layer problem shares share (λ ps m reach long part.
    barred (admitted_alike problem 0 m (start problem.board) (unmoved ps m reach long) part.1))
  where
    unmoved : (ps : List Push) (m : Scene) → Reaches problem.board ps m → length ps ≡ 0
        → m.boxes ≡ (start problem.board).boxes
    unmoved [] m (ds, t, play, norm) long = norm.boxes ∙ walk_keeps_boxes play
    unmoved (p ∷ ps) m reach long = absurd (omega arith)

-- layer 0 of a share by the first position of the level
pub share_without : (problem : Problem) → IsLevel problem.board → (shares share : ℕ) (first : Option Scene) → IsFirst problem first → first ≡ None →
    IsShareOfLayer problem shares share 0 []
share_without problem level shares share first is none = by (subst (IsFirst problem) none is)
  where
    by : IsFirst problem None → IsShareOfLayer problem shares share 0 []
    by (inl doomed) = doomed_layer problem shares share doomed
    by (inr barred) = barred_layer problem level shares share barred

pub share_with : (problem : Problem) → IsLevel problem.board → (shares share : ℕ) (first : Option Scene) (m : Scene) → IsFirst problem first → first ≡ Some m →
    share_of shares m ≡ share → IsShareOfLayer problem shares share 0 ((m, None) ∷ [])
share_with problem level shares share first m is some own = grind (arith, first_layer)

pub share_beside : (problem : Problem) → IsLevel problem.board → (shares share : ℕ) (first : Option Scene) (m : Scene) → IsFirst problem first → first ≡ Some m →
    ¬ (share_of shares m ≡ share) → IsShareOfLayer problem shares share 0 []
share_beside problem level shares share first m is some other = grind (arith, other_layer)

pub first_few : (m : Option Scene) → length (first_entries m) ≤ 1
first_few None = omega arith
first_few (Some m) = omega arith

none_summed : (n : ℕ) → sum (replicate n 0) ≡ 0
none_summed zero = refl
none_summed (suc n) = omega (arith, sum_by_first (λ (x : ℕ). x) 0 (replicate n 0), none_summed n)

-- a book before its first begin
abbrev new_book : Problem → ℕ → ℕ → ℕ → ℕ → List (List Closed) → List Bool → List Bool → List (OpenEntry Scene Push)
    → List ℕ → BookView
new_book problem limit workers share shares closed claimed done waiting tallies = record {
  level = problem;
  limit = limit;
  workers = workers;
  share = share;
  shares = shares;
  closed = closed;
  begun = false;
  claimed = claimed;
  done = done;
  waiting = waiting;
  tallies = tallies;
  over = false;
}

-- a new book is lawful
pub lawful_new : (problem : Problem) (limit workers share shares : ℕ) (es : List Closed) → IsLevel problem.board
    → AreBounds limit workers share shares → IsShareOfLayer problem shares share 0 es → length es ≤ limit
    → IsLawfulBook (new_book problem limit workers share shares (es ∷ []) [] [] [] (replicate workers 0))
lawful_new problem limit workers share shares es level bounds layer few = record {
  level = level;
  bounds = bounds;
  some = omega arith;
  closed = λ k xs at. closed k xs at;
  wholes = [];
  whole = λ j xs at. absurd (none-some xs at);
  few = omega arith;
  begun = λ e. cc;
  not_begun = λ e. (omega arith, refl, refl, refl);
  waiting = λ e. cc;
  distinct = λ i j m at_i at_j. absurd (none-some m at_i);
  fits = λ m w. absurd (none-some m w.1);
  tallies = (length-replicate workers 0, omega (arith, none_summed workers));
  within = omega (arith, sum_by_first length es []);
  over = λ e. cc;
}
  where
    closed : (k : ℕ) (xs : List Closed) → slice_get (es ∷ []) k ≡ Some xs → IsShareOfLayer problem shares share k xs
    closed zero xs at = subst (IsShareOfLayer problem shares share 0) (same_Some es xs at) layer
    closed (suc k) xs at = absurd (none-some xs at)

drop_none : {A : Type 0} (xs : List A) → drop 0 xs ≡ xs
drop_none [] = refl
drop_none (x ∷ xs) = refl

-- ---- a new book, on the fields

module _ (problem : Problem) (limit workers share shares : ℕ) (starts tallies : List ℕ) (es : List Closed) (claimed done : List Bool)
    (waiting : List (OpenEntry Scene Push)) (layer : IsShareOfLayer problem shares share 0 es × (length es ≤ 1))
    (starts_are : starts ≡ replicate 1 0) (tallies_are : tallies ≡ replicate workers 0) (no_claims : claimed ≡ []) (none_done : done ≡ [])
    (none_waits : waiting ≡ []) where
  abbrev fresh : BookView
  fresh = new_book problem limit workers share shares (cut_at starts es) claimed done waiting tallies

  closed_is : cut_at starts es ≡ es ∷ []
  closed_is = ap (λ s. cut_at s es) starts_are ∙ ap (λ xs. xs ∷ []) (drop_none es)

  pub fresh_lawful : IsLevel problem.board → AreBounds limit workers share shares → IsLawfulBook fresh
  fresh_lawful level bounds = grind (arith, closed_is, lawful_new)

  pub fresh_cuts : AreCuts starts (length es)
  fresh_cuts = grind arith

  pub fresh_new : IsNewBook problem limit workers share shares fresh
  fresh_new = grind arith

-- ---- new books, one share after the other
pub one_share_more : (problem : Problem) (limit workers share shares : ℕ) (books : List BookView) (book : BookView) → length books ≡ share →
    AreNewInOrder problem limit workers shares books → IsNewBook problem limit workers share shares book → AreNewInOrder problem limit workers shares (books ++ book ∷ [])
one_share_more problem limit workers share shares books book long before last = grind (arith, at-push)

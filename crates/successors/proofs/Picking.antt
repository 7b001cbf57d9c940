-- What is left of the successors under a cap.
use Rattle.std.proofs.Common.{◌≡◌, ℕ, suc, true, eqb, ◌+◌, ◌<◌, ◌≤◌, List, [], ◌∷◌, ◌++◌, length, take, get_or}
use Rattle.std.proofs.Common.{Option, Some, inl, inr, refl, sym, ap, subst, ◌∙◌, arith}
use Rattle.std.proofs.lemmas.Bool.{or_cases, eqb-true}
use Rattle.std.proofs.lemmas.List.Edits.{length-swap}
use Rattle.std.proofs.lemmas.Option.{none-some, slice_get_within, slice_get-get_or, get_or_from_slice_get}
use Rattle.std.specs.Prelude.{slice_get}
use Rattle.std.specs.List.{swap}
use Rattle.grid.specs.Squares.{Squares, contains}
use Rattle.grid.specs.Board.{Board, Scene}
use Rattle.grid.specs.States.{FitsLevel}
use Rattle.doom.specs.Deadlocks.{Live, IsDead}
use Rattle.doom.specs.Bounds.{IsLower}
use Rattle.doom.specs.Sums.{HaveDead}
use Rattle.doom.proofs.lemmas.Bounds.{lower_once}
use Rattle.successors.specs.declared.parcel.Successor.{Successor}
use Rattle.successors.specs.Layered.{IsIn}
use Rattle.successors.specs.Problems.{Problem}
use Rattle.successors.specs.Capping.{capped, uncapped}
use Rattle.successors.specs.ParcelView.{AreSuccessors, FitLevel}
use Rattle.successors.specs.inside.Pruned.{Picks, IsWithin, ArePicked}
use Rattle.successors.specs.inside.Pruned.Picks.{nothing, kept, left_out}
use Rattle.successors.proofs.Bringing.{front_more, later_same}
use Rattle.successors.proofs.lemmas.Lists.{take_push, Rises, at_before, at_seam, at-push, at_take}

-- ---- what is picked

module _ {A : Type 0} {Holds : A → Type 0} where
  -- what is picked was there, and holds
  picked_from : {xs ys : List A} → Picks Holds xs ys → (y : A) → IsIn ys y → IsIn xs y × Holds y
  picked_from nothing y (i, at) = absurd (none-some y at)
  picked_from (kept {xs = xs} {ys = ys} {x = x} rest holds) y (i, at) = elim (at-push ys x i y at) [
    | inl old ↦ (let w = picked_from rest y (i, old) in ((w.0.0, at_before xs (x ∷ []) w.0.0 y w.0.1), w.1))
    | inr last ↦ ((length xs, at_seam xs x ∙ ap (λ (z : A). Some z) (sym last.1)), subst Holds (sym last.1) holds)
  ]
  picked_from (left_out {xs = xs} {x = x} rest fails) y there =
      let w = picked_from rest y there in ((w.0.0, at_before xs (x ∷ []) w.0.0 y w.0.1), w.1)

  -- what was there and holds is picked
  picked_all : {xs ys : List A} → Picks Holds xs ys → (y : A) → IsIn xs y → Holds y → IsIn ys y
  picked_all nothing y there holds = there
  picked_all (kept {xs = xs} {ys = ys} {x = x} rest here) y (i, at) holds = elim (at-push xs x i y at) [
    | inl old ↦ (let w = picked_all rest y (i, old) holds in (w.0, at_before ys (x ∷ []) w.0 y w.1))
    | inr last ↦ (length ys, at_seam ys x ∙ ap (λ (z : A). Some z) (sym last.1))
  ]
  picked_all (left_out {xs = xs} {x = x} rest fails) y (i, at) holds = elim (at-push xs x i y at) [
    | inl old ↦ picked_all rest y (i, old) holds
    | inr last ↦ absurd (fails (subst Holds last.1 holds))
  ]

  -- and in the same order
  picked_rise : {Before : A → A → Type 0} {xs ys : List A} → Picks Holds xs ys → Rises Before xs → Rises Before ys
  picked_rise nothing rises i j a b lt at_a at_b = absurd (none-some a at_a)
  picked_rise {Before} (kept {xs = xs} {ys = ys} {x = x} rest holds) rises i j a b lt at_a at_b =
      elim (at-push ys x j b at_b) [
        | inl old ↦ elim (at-push ys x i a at_a) [
          | inl first ↦ picked_rise rest (λ k l c d less at_c at_d. rises k l c d less (at_before xs (x ∷ []) k c at_c)
              (at_before xs (x ∷ []) l d at_d)) i j a b lt
              first old
          | inr past ↦ absurd (let w = slice_get_within ys j b old in omega (arith, lt, w, past.0))
        ]
        | inr last ↦ elim (at-push ys x i a at_a) [
          | inl first ↦ (let w = (picked_from rest a (i, first)).0 in
              rises w.0 (length xs) a b (slice_get_within xs w.0 a w.1) (at_before xs (x ∷ []) w.0 a w.1)
              (at_seam xs x ∙ ap (λ (z : A). Some z) (sym last.1)))
          | inr past ↦ absurd (omega (arith, lt, past.0, last.0))
        ]
      ]
  picked_rise (left_out {xs = xs} {x = x} rest fails) rises i j a b lt at_a at_b =
      grind (arith, picked_rise rest (λ k l c d less at_c at_d. rises k l c d less (at_before xs (x ∷ []) k c at_c) (at_before xs (x ∷ []) l d at_d)) i j a b lt at_a at_b)

-- ---- picked successors

-- the successors that the cap admits
pub picked_successors : (board : Board) (most room k : ℕ) (n : Scene) (before after : List Successor)
    → k + 1 + room ≡ most
    → ArePicked board room before after → AreSuccessors (uncapped board) k n before
    → AreSuccessors (capped board (Some most)) k n after
picked_successors board most room k n before after sum picks all = record {
  each = λ i s at. (let w = picked_from picks s (i, at) in
      ((all.each w.0.0 s w.0.1).0, (w.1.0, w.1.1, omega (arith, sum, w.1.2))));
  rise = picked_rise picks all.rise;
  whole = λ p m come. picked_all picks (record { push = p; position = m }) (all.whole p m (come.0, tt))
      (come.1.0, come.1.1, omega (arith, sum, come.1.2));
}

pub picked_fit : (board : Board) (room : ℕ) (before after : List Successor) → ArePicked board room before after
    → FitLevel board before → FitLevel board after
picked_fit board room before after picks fit i s at = let w = (picked_from picks s (i, at)).0 in fit w.0 s w.1

-- the successors under a cap are those of the level with it
pub under_cap : (problem : Problem) (board : Board) (cap : Option ℕ) → board ≡ problem.board → problem.cap ≡ cap
    → (k : ℕ) (n : Scene) (ss : List Successor)
    → AreSuccessors (capped board cap) k n ss → AreSuccessors problem k n ss
under_cap problem board cap same e k n ss all =
    subst (λ (t : Problem). AreSuccessors t k n ss) (λ i. record { board = same i; cap = sym e i }) all

-- ---- one more is looked at

-- so many of a list were picked, and stand in front; from a place on it is as it was
pub record IsPicking (board : Board) (room : ℕ) (before now : List Successor) (front place : ℕ) : Type 0 where
  pub picked : ArePicked board room (take place before) (take front now)
  pub rest : (i : ℕ) (s : Successor) → place ≤ i → slice_get before i ≡ Some s → slice_get now i ≡ Some s
  pub order : front ≤ place
  pub long : length now ≡ length before

pub none_picked : (board : Board) (room : ℕ) (before : List Successor) → IsPicking board room before before 0 0
none_picked board room before = record {
  picked = none before;
  rest = λ i s le at. at;
  order = omega arith;
  long = refl;
}
  where
    none : (xs : List Successor) → ArePicked board room (take 0 xs) (take 0 xs)
    none [] = nothing
    none (x ∷ xs) = nothing

take_more : {A : Type 0} (xs : List A) (n : ℕ) (a : A) → slice_get xs n ≡ Some a → take (n + 1) xs ≡ take n xs ++ a ∷ []
take_more xs n a at = ap (λ k. take k xs) (let e : n + 1 ≡ suc n = omega arith in e) ∙ take_push xs n a at

module _ (board : Board) (room : ℕ) (before now : List Successor) (front place : ℕ) (s : Successor)
    (is : IsPicking board room before now front place)
    (there : slice_get before place ≡ Some s) where
  here : slice_get now place ≡ Some s
  here = is.rest place s (omega arith) there

  inside : place < length now
  inside = slice_get_within now place s here

  in_front : take (front + 1) (swap now front place) ≡ take front now ++ s ∷ []
  in_front = front_more now front place s is.order here

  pub one_picked : IsWithin board s.position.boxes room
      → IsPicking board room before (swap now front place) (front + 1) (place + 1)
  one_picked holds = record {
    picked = subst (λ xs. ArePicked board room xs (take (front + 1) (swap now front place)))
        (sym (take_more before place s there))
        (subst (λ ys. ArePicked board room (take place before ++ s ∷ []) ys) (sym in_front) (kept is.picked holds));
    rest = λ i t le at. later_same now front place s is.order here i (omega (arith, le))
        ∙ is.rest i t (omega (arith, le)) at;
    order = omega (arith, is.order);
    long = length-swap now front place ∙ is.long;
  }

  pub one_left_out : ¬ (IsWithin board s.position.boxes room) → IsPicking board room before now front (place + 1)
  one_left_out fails = record {
    picked = subst (λ xs. ArePicked board room xs (take front now)) (sym (take_more before place s there))
        (left_out is.picked fails);
    rest = λ i t le at. is.rest i t (omega (arith, le)) at;
    order = omega (arith, is.order);
    long = is.long;
  }

-- ---- where the sum is known

no_sum : (board : Board) (q : ℕ) → IsDead board q → (xs : Squares) (n : ℕ) → contains xs q ≡ true → IsLower board xs n
    → ⊥
no_sum board q dead [] n here sum = cc
no_sum board q dead (x ∷ xs) n here (a, b, far, rest, sum) = elim (or_cases (eqb x q) (contains xs q) here) [
  | inl head ↦ dead (subst (λ y. Live board y) (eqb-true x q head) far.0.0)
  | inr tail ↦ no_sum board q dead xs b tail rest
]

-- boxes with one on a dead square have no sum
pub dead_unbounded : (board : Board) (boxes : Squares) (most : ℕ) → HaveDead board boxes → ¬ (IsWithin board boxes most)
dead_unbounded board boxes most (q, there, dead) (low, lower, le) = no_sum board q dead boxes low there lower

-- and others have one only
pub sum_within : (board : Board) (boxes : Squares) (low most : ℕ) → IsLower board boxes low → IsWithin board boxes most
    → low ≤ most
sum_within board boxes low most lower (other, same, le) = omega (arith, lower_once board boxes low other lower same, le)

-- ---- on the fields

-- what stands at the place stood there before
pub stood : (board : Board) (room : ℕ) (before now : List Successor) (front place : ℕ)
    → IsPicking board room before now front place → place < length before
    → (s : Successor) → s ≡ get_or now place s → slice_get before place ≡ Some s
stood board room before now front place is lt s read =
    let t = get_or before place s in
    let at : slice_get before place ≡ Some t = slice_get-get_or before place s lt in
    let e : t ≡ s = sym (get_or_from_slice_get now place t s (is.rest place t (omega arith) at)) ∙ sym read in
    at ∙ ap (λ (x : Successor). Some x) e

pub stood_fits : (board : Board) (room : ℕ) (before now : List Successor) (front place count : ℕ)
    → IsPicking board room before now front place
    → place < count → count ≤ length before → FitLevel board (take count before) → (s : Successor)
    → s ≡ get_or now place s
    → FitsLevel board (get_or now place s).position
stood_fits board room before now front place count is lt few fit s read =
    subst (λ (x : Successor). FitsLevel board x.position) read
    (fit place s (at_take before count place s lt
    (stood board room before now front place is (omega (arith, lt, few)) s read)))

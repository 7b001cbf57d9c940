-- How the list of the successors by the first pushes grows, and the parcel of a rank.
use Rattle.std.proofs.Common.{◌≡◌, ℕ, ◌+◌, ◌<◌, ◌≤◌, List, [], ◌∷◌, ◌++◌, length, Some, ◌⊎◌, inl, inr, sym, ap, subst, ◌∙◌, arith}
use Rattle.std.proofs.lemmas.Option.{slice_get_within}
use Rattle.std.specs.Prelude.{slice_get}
use Rattle.std.specs.declared.cmp.Ordering.TheVariants.{Less}
use Rattle.grid.specs.declared.square.Push.{Push}
use Rattle.grid.specs.Board.{Board, Scene, push_cmp}
use Rattle.grid.specs.States.{IsScene, FitsLevel}
use Rattle.successors.specs.declared.parcel.Successor.{Successor}
use Rattle.successors.specs.declared.expansion.RankedPosition.{RankedPosition}
use Rattle.successors.specs.ParcelView.{AreSuccessors, FitLevel, IsParcel, IsRanked}
use Rattle.successors.specs.Capping.{capped, uncapped}
use Rattle.successors.specs.Expansion.{IsSuccessor}
use Rattle.successors.proofs.lemmas.Successors.{successor_unique}
use Rattle.area.specs.Pushes.{CanPush, AreAll, ArePushes}
use Rattle.area.proofs.lemmas.PushOrder.{pushed_at, all_same, all_push}

-- ---- what the pushes lead to

-- x is among the first elements of the list
abbrev pub IsAmong : {A : Type 0} → ℕ → List A → A → Type 0
IsAmong k xs x = (i : ℕ) × (i < k) × (slice_get xs i ≡ Some x)

-- the successors by the first pushes of a list
abbrev pub AreSuccessorsBy : Board → Scene → ℕ → List Push → List Successor → Type 0
AreSuccessorsBy board n k ps ss = AreAll (λ s. s.push) (λ s. IsSuccessor board n s.push s.position × IsAmong k ps s.push) ss

module _ (board : Board) (n : Scene) (scene : IsScene board n) (ps : List Push) where
  among_more : (k : ℕ) (p q : Push) → slice_get ps k ≡ Some p → IsAmong (k + 1) ps q → IsAmong k ps q ⊎ (q ≡ p)
  among_more k p q at (i, lt, e) = grind arith

  pub by_same : (k : ℕ) (p : Push) (ss : List Successor) → slice_get ps k ≡ Some p → AreSuccessorsBy board n k ps ss →
      ((m : Scene) → ¬ (IsSuccessor board n p m)) → AreSuccessorsBy board n (k + 1) ps ss
  by_same k p ss at all none = all_same _ _ ss all
      (λ s h. (h.0, (h.1.0, omega (arith, h.1.1), h.1.2)))
      (λ s h. (
        h.0,
        elim (among_more k p s.push at h.1) [
          | inl w ↦ w
          | inr e ↦
              absurd (none s.position (subst (λ (q : Push). IsSuccessor board n q s.position) e h.0))
        ],
      ))

  pub by_more : (k : ℕ) (p : Push) (ss : List Successor) (new : Successor) → ArePushes board n ps → slice_get ps k ≡ Some p → AreSuccessorsBy board n k ps ss →
      new.push ≡ p → IsSuccessor board n p new.position → AreSuccessorsBy board n (k + 1) ps (ss ++ new ∷ [])
  by_more k p ss new pushes at all named come =
      all_push (λ s. IsSuccessor board n s.push s.position × IsAmong k ps s.push) (λ s. IsSuccessor board n s.push s.position ×
      IsAmong (k + 1) ps s.push) ss new all
      (subst (λ (q : Push). IsSuccessor board n q new.position) (sym named) come, (k, omega arith, at ∙ ap Some (sym named)))
      (λ s h. (h.0, (h.1.0, omega (arith, h.1.1), h.1.2)))
      (λ s h. elim (among_more k p s.push at h.1) [
        | inl w ↦ inl (h.0, w)
        | inr e ↦ inr (let f = successor_unique board n scene p s.position new.position (subst (λ (q : Push). IsSuccessor board n q s.position) e h.0) come in
            let g = e ∙ sym named in λ i. record { push = g i; position = f i })
      ])
      (λ s h. subst (λ (q : Push). push_cmp s.push q ≡ Less) (sym named) (pushes.rise h.1.0 k s.push p h.1.1 h.1.2 at))

  -- the successors by all the pushes are all successors
  pub by_all : (k : ℕ) (ss : List Successor) → length ps ≤ k → ArePushes board n ps → ((p : Push) (m : Scene) → IsSuccessor board n p m → CanPush board n p) →
      AreSuccessorsBy board n k ps ss → (layer : ℕ) → AreSuccessors (uncapped board) layer n ss
  by_all k ss long pushes can all layer = record {
    each = λ i s e. ((all.each i s e).0, tt);
    rise = all.rise;
    whole = λ p m come. (let w = pushes.whole p (can p m come.0) in
        all.whole (record { push = p; position = m }) (come.0, (w.0, (let lt = slice_get_within ps w.0 p w.1 in omega (arith, lt, long)), w.1)));
  }

-- one more successor that is a position of the level
pub fit_more : (board : Board) (ss : List Successor) (new : Successor) → FitLevel board ss → FitsLevel board new.position → FitLevel board (ss ++ new ∷ [])
fit_more board ss new fit here i s e = elim (pushed_at ss new s i e) [
  | inl h ↦ fit i s h
  | inr h ↦
      subst (λ (x : Successor). FitsLevel board x.position) (sym h.1) here
]

-- ---- the parcel of a rank

-- the successors of the position make a parcel
pub is_parcel : (board : Board) (s : RankedPosition) → IsRanked board s → (ss : List Successor) → AreSuccessors (capped board s.cap) s.layer s.position ss →
    FitLevel board ss →
    IsParcel (record { level = capped board s.cap; layer = s.layer; rank = s.rank; successors = ss })
is_parcel board s is ss come fit = grind arith

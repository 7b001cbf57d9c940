-- The open positions while a search makes a layer, and the next layer. The definitions hold for any positions N and
-- pushes P: Edge n p m says that the push p leads from n to m.
use Rattle.std.specs.Prelude.{◌≡◌, ℕ, suc, ◌<◌, ◌≤◌, false, List, length, slice_get, Option, Some, ◌⊎◌, [], ◌∷◌, ◌++◌}
use Rattle.std.specs.declared.cmp.Ordering.{Ordering}
use Rattle.std.specs.declared.cmp.Ordering.TheVariants.{Less, Equal}
use Rattle.std.specs.Ordering.{is_gt}
use Rattle.std.specs.Cmp.{IsTotalOrder}
use Rattle.successors.specs.Layered.{IsIn}
use Rattle.store.specs.Entries.{Origin, origin_cmp, OpenEntry}

-- ys is the kept successors of layer k that are in no layer up to k, each once, with its least origin, in the order
-- of the origins
pub record IsNext {N P : Type 0} (cmp : P → P → Ordering) (Edge : N → P → N → Type 0) (Kept : N → Type 0) (layer : ℕ →
    List N) (k : ℕ) (ys : List (OpenEntry N P)) : Type 0 where
  pub from : (i : ℕ) (m : N) (r : ℕ) (p : P) → slice_get ys i ≡ Some (m, (r, p)) → Kept m ×
      ((n : N) × (slice_get (layer k) r ≡ Some n) × Edge n p m)
  pub fresh : (i : ℕ) (m : N) (r : ℕ) (p : P) → slice_get ys i ≡ Some (m, (r, p)) → (j : ℕ) → j ≤ k →
      ¬ (IsIn (layer j) m)
  pub least : (i : ℕ) (m : N) (r : ℕ) (p : P) → slice_get ys i ≡ Some (m, (r, p)) → (s : ℕ) (q : P) (n : N) →
      slice_get (layer k) s ≡ Some n → Edge n q m →
      is_gt (origin_cmp cmp (r, p) (s, q)) ≡ false
  pub rise : (i j : ℕ) (x y : OpenEntry N P) → i < j → slice_get ys i ≡ Some x → slice_get ys j ≡ Some y →
      origin_cmp cmp x.1 y.1 ≡ Less
  pub whole : (r : ℕ) (n : N) (p : P) (m : N) → slice_get (layer k) r ≡ Some n → Edge n p m → Kept m →
      ((j : ℕ) × (j ≤ k) × IsIn (layer j) m) ⊎ ((i : ℕ) × (o : Origin P) × (slice_get ys i ≡ Some (m, o)))

-- the open positions after some origins were offered: the kept successors with these origins that are in no layer up to
-- k, each with its least origin.  look m is the origin of m, if m is open.
pub record IsOpening {N P : Type 0} (cmp : P → P → Ordering) (Edge : N → P → N → Type 0) (Kept : N → Type 0)
    (layer : ℕ → List N) (k : ℕ) (Offered : ℕ → P →
    Type 0) (look : N → Option (Origin P)) : Type 0 where
  pub from : (m : N) (r : ℕ) (p : P) → look m ≡ Some (r, p) → Kept m × Offered r p ×
      ((n : N) × (slice_get (layer k) r ≡ Some n) × Edge n p m)
  pub fresh : (m : N) (r : ℕ) (p : P) → look m ≡ Some (r, p) → (j : ℕ) → j ≤ k → ¬ (IsIn (layer j) m)
  pub least : (m : N) (r : ℕ) (p : P) → look m ≡ Some (r, p) → (s : ℕ) (q : P) (n : N) → Offered s q →
      slice_get (layer k) s ≡ Some n → Edge n q m →
      is_gt (origin_cmp cmp (r, p) (s, q)) ≡ false
  pub whole : (r : ℕ) (p : P) (n m : N) → Offered r p → slice_get (layer k) r ≡ Some n → Edge n p m → Kept m →
      ((j : ℕ) × (j ≤ k) × IsIn (layer j) m) ⊎ ((o : Origin P) × (look m ≡ Some o))

-- what the order of layers rests on: the order of pushes is total and exact; a push leads on from a place that is
-- reached, and what more than no push reaches is reached by such a last push; equal push lists end in one place; what
-- is admitted at some number of pushes is admitted at fewer; and a place from which a push leads to an admitted one was
-- admitted one push before
pub record IsLayered {N P : Type 0} (cmp : P → P → Ordering) (Reach : List P → N → Type 0) (Edge : N → P → N → Type 0)
    (Adm : ℕ → N → Type 0) : Type 0 where
  pub total : IsTotalOrder cmp
  pub exact : (p q : P) → cmp p q ≡ Equal → p ≡ q
  pub grow : (ps : List P) (n : N) (p : P) (m : N) → Reach ps n → Edge n p m → Reach (ps ++ p ∷ []) m
  pub split : (qs : List P) (m : N) (k : ℕ) → Reach qs m → length qs ≡ suc k → (ps : List P) × (p : P) × (n : N) ×
      (qs ≡ ps ++ p ∷ []) × Reach ps n × Edge n p m
  pub same : (ps : List P) (m n : N) → Reach ps m → Reach ps n → m ≡ n
  pub closed : (k : ℕ) (ps : List P) (n : N) (p : P) (m : N) → Reach ps n → Edge n p m → Adm (suc k) m → Adm k n
  pub earlier : (j k : ℕ) (n : N) → j ≤ k → Adm k n → Adm j n

-- Layers of places in the order of the least push lists that lead to them. Over any places N and pushes P, so that
-- nothing here speaks of a board: Reach ps n says that the pushes ps lead from the start to n, and Adm k n that n is
-- admitted at k pushes.
use Rattle.std.specs.Prelude.{◌≡◌, ℕ, ◌<◌, false, List, length, slice_get, Some, ◌⊎◌}
use Rattle.std.specs.declared.cmp.Ordering.{Ordering}
use Rattle.std.specs.declared.cmp.Ordering.TheVariants.{Less}
use Rattle.std.specs.Ordering.{is_gt}
use Rattle.std.specs.Cmp.Lexicographic.{slice_cmp}
use Rattle.grid.specs.Plays.{shortlex}

-- the list has the place
abbrev pub IsIn : {N : Type 0} → List N → N → Type 0
IsIn xs m = (r : ℕ) × (slice_get xs r ≡ Some m)

-- ps is the lead of n: the least push list that leads there, the shorter before the longer
pub record IsLead {N P : Type 0} (cmp : P → P → Ordering) (Reach : List P → N → Type 0) (n : N) (ps : List P) : Type 0
  where
    pub reached : Reach ps n
    pub least : (qs : List P) → Reach qs n → is_gt (shortlex cmp ps qs) ≡ false

-- xs is layer k: the admitted places whose leads have length k, each once, in the order of their leads.  That it is
-- whole is said without asking whether fewer pushes lead to a place: it is in the list, or fewer pushes lead there.
pub record IsLayer {N P : Type 0} (cmp : P → P → Ordering) (Reach : List P → N → Type 0) (Adm : ℕ → N → Type 0)
    (k : ℕ) (xs : List N) : Type 0 where
  pub leads : (r : ℕ) (n : N) → slice_get xs r ≡ Some n → Adm k n ×
      ((ps : List P) × IsLead cmp Reach n ps × (length ps ≡ k))
  pub rise : (r s : ℕ) (m n : N) (ps qs : List P) → r < s → slice_get xs r ≡ Some m → slice_get xs s ≡ Some n →
      IsLead cmp Reach m ps → IsLead cmp Reach n qs →
      slice_cmp cmp ps qs ≡ Less
  pub whole : (ps : List P) (n : N) → Reach ps n → length ps ≡ k → Adm k n → IsIn xs n ⊎
      ((qs : List P) × Reach qs n × (length qs < k))

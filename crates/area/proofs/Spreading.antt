-- One look at a square beside the one at the head of the queue keeps what is true in the midst of a search.
use Rattle.std.proofs.Common.{◌≡◌, ◌≢◌, ℕ, suc, ◌<◌, ◌≤◌, false, ◌⊎◌, inl, inr, sym, ap, subst, ◌∙◌, arith}
use Rattle.std.proofs.lemmas.Bool.{cases_eq, cases_lt}
use Rattle.grid.specs.declared.dir.Dir.{Dir}
use Rattle.grid.specs.Board.{Board, is_wall, next, dir_number}
use Rattle.grid.proofs.lemmas.Directions.{dir_number-lt, more_dirs}
use Rattle.area.specs.inside.Spread.{ReachesNext, HasCome, IsSpreading}

module _ (board : Board) (base from : ℕ) (mark place : ℕ → ℕ) (head seen tail : ℕ) (d : Dir) (n : ℕ)
    (s : IsSpreading board base from mark place head seen tail)
    (here : head < tail) (at : dir_number d ≡ seen) (is : next board (place head) d ≡ n) where
  module _ (mark' place' : ℕ → ℕ) (clear : is_wall board n ≡ false) (new : mark n < base)
      (set : mark' n ≡ suc (mark (place head))) (kept : (q : ℕ) → q ≢ n →
      mark' q ≡ mark q) (put : place' tail ≡ n) (stays : (i : ℕ) → i < tail → place' i ≡ place i) where
    apart : (q : ℕ) → base < mark q → q ≢ n
    apart q lt e = let f : mark q ≡ mark n = ap mark e in absurd (omega arith)

    -- the mark of a square that was reached before
    old_mark : (q : ℕ) → base < mark q → mark' q ≡ mark q
    old_mark q lt = kept q (apart q lt)

    old_place : (i : ℕ) → i < tail → mark' (place' i) ≡ mark (place i)
    old_place i lt = ap mark' (stays i lt) ∙ old_mark (place i) (s.queued i lt)

    reached : (q : ℕ) → base < mark' q → (q ≡ n) ⊎ (base < mark q)
    reached q lt = grind arith

    above : base < mark (place head)
    above = s.queued head here

    -- a square of the queue is an old one, with its old mark, or the new one
    more : (i : ℕ) → i < suc tail → ((i < tail) × (mark' (place' i) ≡ mark (place i)))
        ⊎ ((i ≡ tail) × (mark' (place' i) ≡ suc (mark (place head))))
    more i lt = grind arith

    keeps : (q : ℕ) (e : Dir) → base < mark q → ReachesNext board base mark q e → ReachesNext board base mark' q e
    keeps q e lt closed clear' unblocked = grind (arith, cases_eq, reached, old_mark)

    come : (q : ℕ) → base < mark q → HasCome board base mark q → HasCome board base mark' q
    come q lt h = grind arith

    new_come : HasCome board base mark' n
    new_come = grind arith

    -- a free square that was not reached yet goes to the queue's end, with one step more
    pub visited : IsSpreading board base from mark' place' head (suc seen) (suc tail)
    visited = record {
      start = old_mark from (let e = s.start in omega arith) ∙ s.start;
      free = λ q lt. elim (reached q lt) [
        | inl e ↦ ap (is_wall board) e ∙ clear
        | inr old ↦ s.free q old
      ];
      came = λ q lt. elim (reached q lt) [
        | inl e ↦ inr (subst (λ (x : ℕ). HasCome board base mark' x) (sym e) new_come)
        | inr old ↦ elim (s.came q old) [
          | inl f ↦ inl f
          | inr h ↦ inr (come q old h)
        ]
      ];
      listed = λ q lt. elim (reached q lt) [
        | inl e ↦ (tail, omega arith, put ∙ sym e)
        | inr old ↦ (let l = s.listed q old in
            let lt' : l.0 < tail = l.1 in
            (l.0, omega arith, stays l.0 l.1 ∙ l.2))
      ];
      queued = λ i lt. elim (more i lt) [
        | inl (less, e) ↦ omega (arith, e, s.queued i less)
        | inr (_, e) ↦ omega (arith, e, above)
      ];
      bound = λ i lt. elim (more i lt) [
        | inl (less, e) ↦ omega (arith, e, s.bound i less)
        | inr (z, e) ↦ omega (arith, z, e, s.bound head here)
      ];
      sorted = λ i j le lt. elim (more j lt) [
        | inl (less, f) ↦ omega (arith, old_place i (omega arith), f, s.sorted i j le less)
        | inr (z, f) ↦ elim (more i (omega arith)) [
          | inl (less, e) ↦ omega (arith, e, f, s.close head i (omega arith) here less)
          | inr (_, e) ↦ omega (arith, e, f)
        ]
      ];
      close = λ i j low lt lt'. elim (more i lt) [
        | inl (less, e) ↦ elim (more j lt') [
          | inl (less', f) ↦ omega (arith, e, f, s.close i j low less less')
          | inr (_, f) ↦ omega (arith, e, f, s.sorted head i low less)
        ]
        | inr (_, e) ↦ elim (more j lt') [
          | inl (less', f) ↦ omega (arith, e, f, s.close head j (omega arith) here less')
          | inr (_, f) ↦ omega (arith, e, f)
        ]
      ];
      done = λ i before lt e. subst (λ (x : ℕ). ReachesNext board base mark' x e) (sym (stays i (omega arith)))
          (keeps (place i) e (s.queued i (omega arith)) (s.done i before (omega arith) e));
      now = λ e lt. elim (more_dirs seen d e at lt) [
        | inl less ↦ subst (λ (x : ℕ). ReachesNext board base mark' x e) (sym (stays head here))
            (keeps (place head) e above (s.now e less))
        | inr same ↦ subst (λ (x : Dir). ReachesNext board base mark' (place' head) x) same closed
      ];
      order = let o = s.order in omega arith;
    }
      where
        closed_at : is_wall board n ≡ false → mark' n ≢ base → (base < mark' n) × (mark' n ≤ suc (mark' (place' head)))
        closed_at clear' unblocked =
            let e : mark' n ≡ suc (mark (place head)) = set in
            let f : mark' (place' head) ≡ mark (place head) = old_place head here in
            let b : base < mark (place head) = above in
            (omega arith, omega arith)

        closed_here : ReachesNext board base mark' (place head) d
        closed_here = subst (λ (x : ℕ). is_wall board x ≡ false → mark' x ≢ base → (base < mark' x) ×
            (mark' x ≤ suc (mark' (place head)))) (sym is)
            (subst (λ (x : ℕ). is_wall board n ≡ false → mark' n ≢ base → (base < mark' n) ×
            (mark' n ≤ suc (mark' x))) (stays head here) closed_at)

        closed : ReachesNext board base mark' (place' head) d
        closed = subst (λ (x : ℕ). ReachesNext board base mark' x d) (sym (stays head here)) closed_here

-- the square at the head was looked round from: the next is at the head
pub turned : (board : Board) (base from : ℕ) (mark place : ℕ → ℕ) (head tail : ℕ)
    → IsSpreading board base from mark place head 4 tail → head < tail
    → IsSpreading board base from mark place (suc head) 0 tail
turned board base from mark place head tail s here =
    let done : (i : ℕ) → i < suc head → i < tail → (e : Dir) → ReachesNext board base mark (place i) e =
    λ i before lt e. elim (cases_lt i head) [
      | inl less ↦ s.done i less lt e
      | inr at_least ↦ subst (λ (x : ℕ). ReachesNext board base mark (place x) e)
          (let f : head ≡ i = omega arith in f) (s.now e (dir_number-lt e))
    ] in
    let now : (e : Dir) → dir_number e < 0 → ReachesNext board base mark (place (suc head)) e =
    λ e lt. absurd (omega arith) in
    search (s.close, arith)

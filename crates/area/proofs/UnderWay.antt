-- What one look at a square does to the marks and the queue.
use Rattle.std.proofs.Common.{◌≡◌, ◌≢◌, ℕ, suc, ◌+◌, ◌<◌, ◌≤◌, false, cond, ltb, inl, inr, List, [], ◌∷◌, length}
use Rattle.std.proofs.Common.{get_or, replicate, set, sym, ap, subst, ◌∙◌, arith}
use Rattle.std.proofs.lemmas.Bool.{cases_eq, cases_lt, lt-ltb, le-ltb}
use Rattle.std.proofs.lemmas.List.{get_or_past, get_or-replicate, get_or-set_same, get_or-set_other}
use Rattle.std.proofs.lemmas.List.{length-replicate, length-set}
use Rattle.std.proofs.lemmas.List.Sums.{sum_by-set, sum_by-cons}
use Rattle.grid.specs.declared.dir.Dir.{Dir}
use Rattle.grid.specs.Board.{Board, is_wall, next, dir_number}
use Rattle.grid.proofs.lemmas.Steps.{inside_grid}
use Rattle.area.specs.inside.Spread.{IsLook, passes, takes, IsSpreading, IsUnderWay, untouched}
use Rattle.area.proofs.Spreading.{visited, turned}
use Rattle.area.proofs.Nearness.{tally_one}

-- a mark that reaches `base` makes one square less that was not come upon
pub untouched-set : (base : ℕ) (marks : List ℕ) (n v : ℕ) → n < length marks → get_or marks n 0 < base → base ≤ v →
    suc (untouched base (set marks n v)) ≡ untouched base marks
untouched-set base marks n v lt low high = grind (arith, lt-ltb, le-ltb, sum_by-set)

module _ (board : Board) (base from : ℕ) (old marks queue : List ℕ) (head seen tail : ℕ)
    (u : IsUnderWay board base from old marks queue head seen tail) where
  -- the queue has room for each square that was not come upon yet
  pub has_room : (n : ℕ) → is_wall board n ≡ false → get_or marks n 0 < base → tail < length queue
  has_room n clear low =
      let inside : n < length marks = let g : n < length board.cells = inside_grid board n clear in let r = u.room in
      omega arith in
      let t = untouched-set base marks n base inside low (omega arith) in
      let c = u.count in
      let r = u.room in
      let s = u.places in
      omega (arith, t)

  -- a square in the queue is a square of the grid
  pub queued_inside : (i : ℕ) → i < tail → get_or queue i 0 < length board.cells
  queued_inside i lt = grind (arith, cases_lt, get_or_past)

  -- where the queue ends
  pub tail_bound : tail ≤ length board.cells
  tail_bound = let c = u.count in let r = u.room in omega arith

-- the search after one look, with what the next look needs to know
pub record IsLooked (board : Board) (base from : ℕ) (old marks queue : List ℕ)
    (head seen tail square mark : ℕ) : Type 0 where
  pub under : IsUnderWay board base from old marks queue head seen tail
  pub here : head < tail
  pub at : get_or queue head 0 ≡ square
  pub marked : suc (get_or marks square 0) ≡ mark

-- after one look at the next square in a direction
pub looked : (board : Board) (base from : ℕ) (old marks queue : List ℕ) (head seen tail square mark : ℕ) (d : Dir)
    (n : ℕ) {tail' : ℕ}
    {marks' queue' : List ℕ} → IsLooked board base from old marks queue head seen tail square mark → dir_number d ≡ seen
    → next board square d ≡ n
    → IsLook board base n mark tail marks queue tail' marks' queue'
    → IsLooked board base from old marks' queue' head (suc seen) tail' square mark
looked board base from old marks queue head seen tail square mark d n k at is (passes seen_before) = grind arith
looked board base from old marks queue head seen tail square mark d n k at is (takes clear low) =
    let u = k.under in
    let inside : n < length marks = let g : n < length board.cells = inside_grid board n clear in let r = u.room in
    omega arith in
    let space : tail < length queue = has_room board base from old marks queue head seen tail u n clear low in
    let here : head < tail = k.here in
    let above : base < get_or marks (get_or queue head 0) 0 = u.spreading.queued head here in
    let at_square : get_or marks (get_or queue head 0) 0 ≡ get_or marks square 0 = ap (λ x. get_or marks x 0) k.at in
    let marked : suc (get_or marks square 0) ≡ mark = k.marked in
    let put : get_or (set marks n mark) n 0 ≡ mark = get_or-set_same marks n mark 0 inside in
    let kept : (q : ℕ) → q ≢ n → get_or (set marks n mark) q 0 ≡ get_or marks q 0 =
    λ q ne. get_or-set_other marks n q mark 0 ne in
    let apart : square ≢ n = λ e. (let f : get_or marks square 0 ≡ get_or marks n 0 = ap (λ x. get_or marks x 0) e in
    omega arith) in
    let one_more : tail + 1 ≡ suc tail = omega arith in
    record {
      under = record {
        room = length-set marks n mark ∙ u.room;
        places = length-set queue tail n ∙ u.places;
        spreading =
            subst (λ (t : ℕ). IsSpreading board base from (λ q. get_or (set marks n mark) q 0)
            (λ i. get_or (set queue tail n) i 0) head (suc seen) t)
            (sym one_more)
            (visited board base from (λ q. get_or marks q 0)
            (λ i. get_or queue i 0) head seen tail d n u.spreading here at (ap (λ x. next board x d) k.at ∙ is)
            (λ q. get_or (set marks n mark) q 0) (λ i. get_or (set queue tail n) i 0) clear low
            (let f : get_or (set marks n mark) n 0 ≡ suc (get_or marks (get_or queue head 0) 0) = omega arith in f)
            kept (get_or-set_same queue tail n 0 space) (λ i lt. get_or-set_other queue tail i n 0 (λ e. omega arith)));
        count = (let t = untouched-set base marks n mark inside low (omega arith) in
            let c = u.count in
            let l : length (set marks n mark) ≡ length marks = length-set marks n mark in
            omega (arith, t));
        blocked = λ q. elim (cases_eq q n) [
          | inl e ↦ (let f : get_or marks q 0 ≡ get_or marks n 0 = ap (λ x. get_or marks x 0) e in
              let g : get_or (set marks n mark) q 0 ≡ mark = ap (λ x. get_or (set marks n mark) x 0) e ∙ put in (
                λ h. absurd (let o : get_or marks q 0 ≡ base = (u.blocked q).0 h in
                    omega arith),
                λ h. absurd (omega arith),
              ))
          | inr ne ↦ (let f : get_or (set marks n mark) q 0 ≡ get_or marks q 0 = kept q ne in
              (λ h. f ∙ (u.blocked q).0 h, λ h. (u.blocked q).1 (sym f ∙ h)))
        ];
      };
      here = omega arith;
      at = get_or-set_other queue tail head n 0 (λ e. omega arith) ∙ k.at;
      marked = ap suc (kept square apart) ∙ k.marked;
    }

pub untouched-le : (base : ℕ) (marks : List ℕ) → untouched base marks ≤ length marks
untouched-le base [] = omega arith
untouched-le base (m ∷ ms) =
    rw (sum_by-cons (λ (x : ℕ). cond (ltb x base) 1 0) m ms)
    (tally_one (ltb m base) (untouched base ms) (length ms) (untouched-le base ms))

-- no mark is left
pub cleared : (marks : List ℕ) (n q : ℕ) → marks ≡ replicate n 0 → get_or marks q 0 ≡ 0
cleared marks n q e = grind (arith, cases_lt, get_or-replicate, get_or_past, length-replicate)

-- a search as it begins: one square is reached, with no step, and stands in the queue
pub started : (board : Board) (base from : ℕ) (marks queue : List ℕ) → length marks ≡ length board.cells
    → length queue ≡ length board.cells
    → ((q : ℕ) → get_or marks q 0 ≤ base) → is_wall board from ≡ false → get_or marks from 0 < base →
    IsUnderWay board base from marks (set marks from (base + 1)) (set queue 0 from) 0 0 1
started board base from marks queue room places fresh clear low =
    let inside : from < length marks = let g : from < length board.cells = inside_grid board from clear in
    omega arith in
    let some : 0 < length queue = omega arith in
    let mark : ℕ → ℕ = λ q. get_or (set marks from (base + 1)) q 0 in
    let place : ℕ → ℕ = λ i. get_or (set queue 0 from) i 0 in
    let put : mark from ≡ base + 1 = get_or-set_same marks from (base + 1) 0 inside in
    let first : place 0 ≡ from = get_or-set_same queue 0 from 0 some in
    let kept : (q : ℕ) → q ≢ from → mark q ≡ get_or marks q 0 = λ q ne. get_or-set_other marks from q (base + 1) 0 ne in
    let only : (q : ℕ) → base < mark q → q ≡ from = λ q lt. elim (cases_eq q from) [
      | inl e ↦ e
      | inr ne ↦ absurd (let f : mark q ≡ get_or marks q 0 = kept q ne in let g : get_or marks q 0 ≤ base = fresh q in
          omega arith)
    ] in
    let mark_first : (i : ℕ) → i < 1 → mark (place i) ≡ base + 1 =
    λ i lt. (let z : i ≡ 0 = omega arith in ap (λ x. mark (place x)) z ∙
    (ap mark first ∙ put)) in
    record {
      room = length-set marks from (base + 1) ∙ room;
      places = length-set queue 0 from ∙ places;
      spreading = record {
        start = let e = put in omega arith;
        free = λ q lt. ap (is_wall board) (only q lt) ∙ clear;
        came = λ q lt. inl (only q lt);
        listed = λ q lt. (0, omega arith, first ∙ sym (only q lt));
        queued = λ i lt. (let e : mark (place i) ≡ base + 1 = mark_first i lt in omega arith);
        bound = λ i lt. (let e : mark (place i) ≡ base + 1 = mark_first i lt in omega arith);
        sorted = λ i j le lt. (let e : mark (place i) ≡ base + 1 = mark_first i (omega arith) in
            let f : mark (place j) ≡ base + 1 = mark_first j lt in
            omega arith);
        close = λ i j low lt lt'. (let e : mark (place i) ≡ base + 1 = mark_first i lt in
            let f : mark (place j) ≡ base + 1 = mark_first j lt' in omega arith);
        done = λ i before lt e. absurd (omega arith);
        now = λ e lt. absurd (omega arith);
        order = omega arith;
      };
      count = (let t = untouched-set base marks from (base + 1) inside low (omega arith) in
          let b = untouched-le base marks in
          let l : length (set marks from (base + 1)) ≡ length marks = length-set marks from (base + 1) in
          omega (arith, t));
      blocked = λ q. elim (cases_eq q from) [
        | inl e ↦ (let f : get_or marks q 0 ≡ get_or marks from 0 = ap (λ x. get_or marks x 0) e in
            let g : mark q ≡ base + 1 = ap mark e ∙ put in
            (λ h. absurd (omega arith), λ h. absurd (omega arith)))
        | inr ne ↦ (let f : mark q ≡ get_or marks q 0 = kept q ne in (λ h. f ∙ h, λ h. sym f ∙ h))
      ];
    }

-- before the first look round from the square at the head
pub begun : (board : Board) (base from : ℕ) (old marks queue : List ℕ) (head tail square x : ℕ)
    → IsUnderWay board base from old marks queue head 0 tail
    → head < tail → get_or queue head 0 ≡ square → x ≡ square
    → IsLooked board base from old marks queue head 0 tail square (get_or marks x 0 + 1)
begun board base from old marks queue head tail square x u here at same = grind arith

-- after the last look
pub passed : (board : Board) (base from : ℕ) (old marks queue : List ℕ) (head tail square mark : ℕ) →
    IsLooked board base from old marks queue head 4 tail square mark
    → IsUnderWay board base from old marks queue (head + 1) 0 tail
passed board base from old marks queue head tail square mark k =
    let more = turned board base from (λ q. get_or marks q 0) (λ i. get_or queue i 0) head tail k.under.spreading
    k.here in
    let now : IsUnderWay board base from old marks queue (suc head) 0 tail = search in
    subst (λ (h : ℕ). IsUnderWay board base from old marks queue h 0 tail) (omega arith) now

-- There is at most one answer.
use Rattle.std.proofs.Common.{◌≡◌, ℕ, zero, suc, ◌+◌, ◌-◌, ◌<◌, ◌≤◌, false, true, List, [], ◌∷◌, length, take, get_or}
use Rattle.std.proofs.Common.{Some, inl, inr, refl, sym, ap, subst, ◌∙◌, arith}
use Rattle.std.proofs.lemmas.Bool.{cases_lt}
use Rattle.std.proofs.lemmas.List.{length-take-le}
use Rattle.std.proofs.lemmas.Option.{slice_get_within}
use Rattle.grid.specs.declared.dir.Dir.{Dir}
use Rattle.grid.specs.declared.square.Push.{Push}
use Rattle.grid.specs.declared.moves.Letter.{Letter}
use Rattle.grid.specs.Board.{Board, Scene, Walks, Pushes, start}
use Rattle.grid.specs.Lawful.{IsLevel}
use Rattle.grid.specs.Plays.{Play, Any, stay, walk, push, dirs_of, letters_of}
use Rattle.grid.proofs.lemmas.Orders.{least_solution_same}
use Rattle.grid.proofs.lemmas.Steps.{walk_same, push_same, not_both}
use Rattle.successors.specs.Layered.{IsIn}
use Rattle.successors.specs.Problems.{Problem}
use Rattle.successors.specs.Capping.{Admits}
use Rattle.successors.specs.Reaching.{IsLayerOf, AreLayersOf, total}
use Rattle.successors.specs.Distances.{AreDistinct, IsAtDistance}
use Rattle.layers.proofs.lemmas.Exchange.{lead-length}
use Rattle.layers.proofs.lemmas.Layers.{layer_unique}
use Rattle.successors.proofs.lemmas.Lists.{take_at}
use Rattle.layers.proofs.lemmas.Books.{level_laws, read_at, layers_same, total-take_more}
use Rattle.solo.specs.declared.answer.Answer.{Answer}
use Rattle.solo.specs.declared.answer.Answer.TheVariants.{Solved, Unsolvable, NoneWithin, Limit}
use Rattle.solo.specs.Answers.{KeepsCap, IsSolutionOf, WritesLeastSolution, HaveTotal, HasInAll, HasNone, PassesLimit}
use Rattle.solo.specs.Answers.{IsAnswer}
use Rattle.layers.proofs.lemmas.Counting.{length-distinct, total-take, total-front}
use Rattle.solo.proofs.Solving.{sooner}

-- ---- letters

-- plays from one state with the same directions are written by the same letters
letters_same : {board : Board} {ok other : Scene → Type 0} {s t u v : Scene} {ds : List Dir} {ps qs : List Push}
    (one : Play board ok s ds ps t) (two : Play board other u ds qs v) → s ≡ u → letters_of one ≡ letters_of two
letters_same (stay o) (stay o') from = refl
letters_same {board = board} (walk {s = s} {m = m} {d = d} o h p) (walk {m = n} o' k q) from =
    let step = subst (λ (x : Scene). Walks board x d n) (sym from) k in
    let later = letters_same p q (walk_same board s d m n h step) in
    λ i. record { dir = d; push = false } ∷ later i
letters_same {board = board} (walk {s = s} {m = m} {d = d} o h p) (push {m = n} o' k q) from =
    absurd (not_both board s d m n h (subst (λ (x : Scene). Pushes board x d n) (sym from) k))
letters_same {board = board} (push {s = s} {m = m} {d = d} o h p) (walk {m = n} o' k q) from =
    absurd (not_both board s d n m (subst (λ (x : Scene). Walks board x d n) (sym from) k) h)
letters_same {board = board} (push {s = s} {m = m} {d = d} o h p) (push {m = n} o' k q) from =
    let step = subst (λ (x : Scene). Pushes board x d n) (sym from) k in
    let later = letters_same p q (push_same board s d m n h step) in
    λ i. record { dir = d; push = true } ∷ later i

-- the least solution is written by one list of letters, and has one number of pushes
writing_same : (board : Board) (xs ys : List Letter) (k l : ℕ) → WritesLeastSolution board xs k →
    WritesLeastSolution board ys l → (xs ≡ ys) × (k ≡ l)
writing_same board xs ys k l a b =
    let same = least_solution_same board (dirs_of xs) (dirs_of ys) a.list b.list a.least b.least in
    let letters = subst
    (λ (ds : List Dir). (two : Play board Any (start board) ds b.list b.end) → letters_of a.play ≡ letters_of two) same.0
    (λ two. letters_same a.play two refl) b.play in
    (sym a.written ∙ (letters ∙ b.written), sym a.count ∙ (ap length same.1 ∙ b.count))

-- ---- the first layers

-- some of the first layers are the first layers
front_are : (problem : Problem) (n : ℕ) (xss : List (List Scene)) → AreLayersOf problem xss →
    AreLayersOf problem (take n xss)
front_are problem n xss are j xs at_j = are j xs (take_at xss n j xs at_j).0

-- what is k pushes away is in layer k
distant_in : (problem : Problem) (k : ℕ) (xs : List Scene) → IsLayerOf problem k xs → (n : Scene) →
    IsAtDistance problem n k → IsIn xs n
distant_in problem k xs layer n far = elim (layer.whole far.0.0 n far.0.1 far.0.2 far.2) [
  | inl i ↦ i
  | inr w ↦ absurd (omega (arith, w.2, far.1 w.0 w.1))
]

-- the number of the first empty layer
abbrev empty_layer : {problem : Problem} {positions : ℕ} → HasInAll problem positions → ℕ
empty_layer all = length all.layers - 1

some_layers : {problem : Problem} {positions : ℕ} (all : HasInAll problem positions) →
    empty_layer all < length all.layers
some_layers all = slice_get_within all.layers (empty_layer all) [] all.last

-- nothing is in a layer after an empty one
pub past_empty : (problem : Problem) (empty later : ℕ) (places : List Scene) → IsLevel problem.board →
    IsLayerOf problem empty [] → empty ≤ later → IsLayerOf problem later places → places ≡ []
past_empty problem empty later [] level none past layer = refl
past_empty problem empty later (n ∷ places) level none past layer =
    let there = layer.leads zero n refl in
    let l = there.1 in
    let w = sooner problem level empty none l.0 n l.1.reached (subst (λ k. Admits problem k n) (sym l.2) there.0) in
    absurd (omega (arith, w.2, l.2, lead-length (level_laws problem level) n l.0 w.0 l.1 w.1))

module _ (problem : Problem) (level : IsLevel problem.board) where
  -- layers that are as many have as many positions
  totals_same : (m n s t : ℕ) → HaveTotal problem m s → HaveTotal problem n t → m ≡ n → s ≡ t
  totals_same m n s t a b long =
      sym a.3 ∙ (ap total (layers_same problem level a.0 b.0 a.1 b.1 (a.2 ∙ (long ∙ sym b.2))) ∙ b.3)

  -- fewer of the first layers are the first of them
  front_same : (xss yss : List (List Scene)) → AreLayersOf problem xss → AreLayersOf problem yss →
      length xss ≤ length yss → take (length xss) yss ≡ xss
  front_same xss yss a b short =
      layers_same problem level (take (length xss) yss) xss (front_are problem (length xss) yss b) a (length-take-le (length xss) yss short)

  -- the first layers and distinct positions of the next one are no more than more layers have
  next_within : (layers : List (List Scene)) (more : List Scene) (yss : List (List Scene)) →
      AreLayersOf problem layers → AreDistinct more →
      ((n : Scene) → IsIn more n → IsAtDistance problem n (length layers)) → AreLayersOf problem yss →
      length layers < length yss → total layers + length more ≤ total yss
  next_within layers more yss are distinct next b lt =
      let k = length layers in
      let ys = get_or yss k [] in
      omega (
        arith,
        ap total (front_same layers yss are b (omega arith)),
        length-distinct more ys distinct (λ n i. distant_in problem k ys (b k ys (read_at yss k lt)) n (next n i)),
        total-take_more yss k lt,
        total-take (suc k) yss,
      )

  -- ---- all layers

  -- no list of all layers is longer than another
  in_all_short : (s t : ℕ) (a : HasInAll problem s) (b : HasInAll problem t) → length a.layers ≤ length b.layers
  in_all_short s t a b = elim (cases_lt (length b.layers) (length a.layers)) [
    | inl lt ↦ (let k = empty_layer b in
        let here = read_at a.layers k (omega (arith, some_layers b)) in
        let same = layer_unique (level_laws problem level) k (get_or a.layers k []) [] (a.are k (get_or a.layers k []) here)
        (b.are k [] b.last) in
        absurd (omega (arith, a.first k (here ∙ ap (λ xs. Some xs) same), some_layers a, some_layers b)))
    | inr ge ↦ omega arith
  ]

  in_all_same : (s t : ℕ) → HasInAll problem s → HasInAll problem t → s ≡ t
  in_all_same s t a b =
      let long : length a.layers ≡ length b.layers = omega (arith, in_all_short s t a b, in_all_short t s b a) in
      sym a.total ∙ (ap total (layers_same problem level a.layers b.layers a.are b.are long) ∙ b.total)

  -- nothing is as many pushes away as there are layers, or more
  none_distant : (s : ℕ) (all : HasInAll problem s) (k : ℕ) (more : List Scene) → length all.layers ≤ k →
      ((n : Scene) → IsIn more n → IsAtDistance problem n k) → length more ≡ 0
  none_distant s all k [] past next = refl
  none_distant s all k (n ∷ more) past next =
      let far = next n (zero, refl) in
      let w = sooner problem level (empty_layer all) (all.are (empty_layer all) [] all.last) far.0.0 n far.0.1
      (subst (λ j. Admits problem j n) (sym far.0.2) far.2) in
      absurd (omega (arith, w.2, some_layers all, far.1 w.0 w.1))

  -- the first layers and distinct positions of the next one are no more than all positions
  within_all : (s : ℕ) → HasInAll problem s → (limit : ℕ) (p : PassesLimit problem limit) →
      total p.layers + length p.more ≤ s
  within_all s all limit p = elim (cases_lt (length p.layers) (length all.layers)) [
    | inl lt ↦ omega (arith, all.total, next_within p.layers p.more all.layers p.are p.distinct p.next all.are lt)
    | inr ge ↦ omega (
      arith,
      all.total,
      none_distant s all (length p.layers) p.more (omega arith) p.next,
      total-front (length all.layers) p.layers (λ j xs le at_j. ap length (past_empty problem (empty_layer all) j xs level
          (all.are (empty_layer all) [] all.last) (omega (arith, le)) (p.are j xs at_j))),
      ap total (front_same all.layers p.layers all.are p.are (omega arith)),
    )
  ]

  -- ---- answers

  -- a solution and a limit that is passed: the positions up to the solution are more than the limit
  pub solved_passes : (limit pushes positions : ℕ) (ds : List Dir) (ps : List Push) → IsSolutionOf problem ds ps →
      length ps ≡ pushes → HaveTotal problem (suc pushes) positions → PassesLimit problem limit → limit < positions
  solved_passes limit pushes positions ds ps solution count have p =
      let later : length p.layers < length have.0 = omega (arith, have.2, count, p.unsolved ds ps solution) in
      omega (arith, have.3, p.passed, next_within p.layers p.more have.0 p.are p.distinct p.next have.1 later)

  -- all positions are more than a limit that is passed
  pub unsolvable_passes : (limit positions : ℕ) → HasInAll problem positions → PassesLimit problem limit →
      limit < positions
  unsolvable_passes limit positions all p = omega (arith, p.passed, within_all positions all limit p)

  -- what writes the least solution solves the level within the cap, where its pushes are
  solves : (letters : List Letter) (k : ℕ) (writes : WritesLeastSolution problem.board letters k) →
      KeepsCap problem.cap k → IsSolutionOf problem (dirs_of letters) writes.list
  solves letters k writes kept = (writes.least.0, subst (KeepsCap problem.cap) (sym writes.count) kept)

  -- it excludes that there is no solution
  solved_or_none : (limit : ℕ) (letters : List Letter) (k t s : ℕ) → IsAnswer problem limit (Solved letters k t) →
      HasNone problem limit s → ⊥
  solved_or_none limit letters k t s (writes, have, few, kept) none =
      none.0 (dirs_of letters) writes.list (solves letters k writes kept)

  -- a solution within the limit and a limit that is passed exclude each other
  solved_or_limit : (limit : ℕ) (letters : List Letter) (k t : ℕ) → IsAnswer problem limit (Solved letters k t) →
      PassesLimit problem limit → ⊥
  solved_or_limit limit letters k t (writes, have, few, kept) p = omega (
    arith,
    few,
    solved_passes limit k t (dirs_of letters) writes.list (solves letters k writes kept) writes.count have p,
  )

  none_or_limit : (limit t : ℕ) → HasNone problem limit t → PassesLimit problem limit → ⊥
  none_or_limit limit t (none, all, few) p = omega (arith, few, unsolvable_passes limit t all p)

-- two answers are the same
pub answer_same : (problem : Problem) (limit : ℕ) (a b : Answer) → IsLevel problem.board → IsAnswer problem limit a →
    IsAnswer problem limit b → a ≡ b
answer_same problem limit (Solved xs k s) (Solved ys l t) level (writes, have, few, kept) (writes', have', few', kept') =
    let same = writing_same problem.board xs ys k l writes writes' in
    let positions = totals_same problem level (suc k) (suc l) s t have have' (ap suc same.1) in
    λ i. Solved (same.0 i) (same.1 i) (positions i)
answer_same problem limit (Solved xs k s) (Unsolvable t) level a b =
    absurd (solved_or_none problem level limit xs k s t a b.1)
answer_same problem limit (Solved xs k s) (NoneWithin t) level a b =
    absurd (solved_or_none problem level limit xs k s t a b.1)
answer_same problem limit (Solved xs k s) Limit level a p = absurd (solved_or_limit problem level limit xs k s a p)
answer_same problem limit (Unsolvable s) (Solved ys l t) level a b =
    absurd (solved_or_none problem level limit ys l t s b a.1)
answer_same problem limit (Unsolvable s) (Unsolvable t) level a b =
    ap (λ n. Unsolvable n) (in_all_same problem level s t a.1.1 b.1.1)
answer_same problem limit (Unsolvable s) (NoneWithin t) level a b = absurd (b.0 a.0)
answer_same problem limit (Unsolvable s) Limit level a p = absurd (none_or_limit problem level limit s a.1 p)
answer_same problem limit (NoneWithin s) (Solved ys l t) level a b =
    absurd (solved_or_none problem level limit ys l t s b a.1)
answer_same problem limit (NoneWithin s) (Unsolvable t) level a b = absurd (a.0 b.0)
answer_same problem limit (NoneWithin s) (NoneWithin t) level a b =
    ap (λ n. NoneWithin n) (in_all_same problem level s t a.1.1 b.1.1)
answer_same problem limit (NoneWithin s) Limit level a p = absurd (none_or_limit problem level limit s a.1 p)
answer_same problem limit Limit (Solved ys l t) level p b = absurd (solved_or_limit problem level limit ys l t b p)
answer_same problem limit Limit (Unsolvable t) level p b = absurd (none_or_limit problem level limit t b.1 p)
answer_same problem limit Limit (NoneWithin t) level p b = absurd (none_or_limit problem level limit t b.1 p)
answer_same problem limit Limit Limit level p q = refl

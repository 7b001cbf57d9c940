-- Boxes and goals that make a lawful level unsolvable.
use Rattle.std.proofs.Common.{◌≡◌, ◌≢◌, ℕ, ◌+◌, ◌<◌, ◌≤◌, Bool, true, false, ◌⊎◌, ◌↔◌, IsTrue, MatchBool, eqb, inl, inr, List, [], ◌∷◌, ◌++◌, length, get_or, take}
use Rattle.std.proofs.Common.{Option, None, MatchOption, Vec, Global, ◌∙◌, arith, refl, sym, ap, subst}
use Rattle.std.proofs.lemmas.Bool.{cases_lt, eqb-true, or_cases, or_left, or_right, false≢true}
use Rattle.std.proofs.lemmas.List.{take_more}
use Rattle.doom.specs.Deadlocks.{Doomed, IsDead, IsFrozen, Undoomed}
use Rattle.doom.specs.Lost.{AreLost, IsLost}
use Rattle.grid.specs.declared.cell.Cell.TheVariants.{Wall}
use Rattle.grid.specs.declared.dir.Dir.{Dir}
use Rattle.grid.specs.declared.dir.Dir.TheVariants.{D, L, R, U}
use Rattle.grid.specs.declared.square.Push.{Push}
use Rattle.grid.specs.declared.state.Step.{Step}
use Rattle.grid.specs.declared.state.Step.TheVariants.{Blocked}
use Rattle.grid.specs.Board.{Board, Pushes, Scene, IsSolved, Walks, box_cell, goal_cell, next, start}
use Rattle.grid.specs.Lawful.{InRoom, IsLevel, here, beside}
use Rattle.grid.specs.Plays.{Any, Play, stay, walk, push}
use Rattle.grid.specs.Squares.{Squares, contains, places_from}
use Rattle.grid.specs.States.{FitsLevel, IsScene, Steps, start_boxes}
use Rattle.grid.proofs.lemmas.Places.{contains-places}
use Rattle.grid.proofs.lemmas.Plays.{play_fits}
use Rattle.grid.proofs.lemmas.Squares.{contains_head}
use Rattle.grid.proofs.lemmas.Steps.{inside_grid, push_other, scene_after_push, scene_after_walk, walk_boxes, walk_player}
use Rattle.prices.proofs.lemmas.Solved.{solved_are_goals}
use Rattle.sokopar.specs.Judging.{IsUnsolvable}
use Rattle.sokopar.specs.Explaining.{AreIn, IsIn, also, empty, endangered, others}
use Rattle.sokopar.specs.declared.remark.Plight.{Plight}
use Rattle.sokopar.specs.declared.remark.Plight.TheVariants.{Unreached, Unfilled, OnDead}
use Rattle.sokopar.specs.inside.Explaining.{AreFrozen, IsLostBy}

-- no play solves a level that is lost at its start
pub lost_start : (board : Board) → IsLost board (start board) → IsUnsolvable board
lost_start board lost ds ps solution = lost solution.0 ds ps solution.1 solution.2

-- or whose boxes are
pub unsolvable : (board : Board) → FitsLevel board (start board) → AreLost board (start board).boxes → IsUnsolvable board
unsolvable board fits lost = lost_start board (lost (start board) fits.scene refl)

-- ---- outside of the room

-- outside of the room a play leaves the boxes as they are
stays : {board : Board} {ok : Scene → Type 0} {s t : Scene} {ds : List Dir} {ps : List Push} → IsScene board s → InRoom board s.player →
    Play board ok s ds ps t → (q : ℕ) → ¬ (InRoom board q) → contains t.boxes q ≡ contains s.boxes q
stays scene room (stay fine) q out = refl
stays {board} {ok} {s} scene room (walk {m = m} {d = d} fine step rest) q out =
    stays (scene_after_walk board s d m scene step) (subst (InRoom board) (sym (walk_player board s d m step)) (beside d room step.0.0)) rest q out
    ∙ ap (λ bs. contains bs q) (walk_boxes board s d m step)
stays {board} {ok} {s} scene room (push {m = m} {d = d} fine step rest) q out =
    let near : InRoom board (next board s.player d) = beside d room (scene.boxes (next board s.player d) step.0) in
    let far : InRoom board (next board (next board s.player d) d) = beside d near step.1.0 in
    let player_is : m.player ≡ next board s.player d = ap (λ (x : Scene). x.player) step.2 in
    stays (scene_after_push board s d m scene step) (subst (InRoom board) (sym player_is) near) rest q out
    ∙ push_other board s d m step q (λ e. out (subst (InRoom board) e near)) (λ e. out (subst (InRoom board) e far))

start_room : (board : Board) → InRoom board (start board).player
unfolding start
start_room board = here

pub start_has : (board : Board) → (start board).boxes ≡ start_boxes board
unfolding start
start_has board = refl

-- a box off goal there stays off goal
unreached : (board : Board) (q : ℕ) → FitsLevel board (start board) → contains (start_boxes board) q ≡ true → IsIn board Unreached q → IsUnsolvable board
unreached board q fits there plight ds ps solution =
    let kept = stays fits.scene (start_room board) solution.1 q plight.0 in
    let box : contains solution.0.boxes q ≡ true = kept ∙ ap (λ bs. contains bs q) (start_has board) ∙ there in
    false≢true (sym plight.1 ∙ solution.2 q box)

-- a goal without a box there stays without one
unfilled : (board : Board) (q : ℕ) → IsLevel board → FitsLevel board (start board) → contains (places_from goal_cell 0 board.cells) q ≡ true →
    IsIn board Unfilled q → IsUnsolvable board
unfilled board q level fits there plight ds ps solution =
    let kept = stays fits.scene (start_room board) solution.1 q plight.0 in
    let none : contains (start_boxes board) q ≡ false = contains-places box_cell board.cells q Wall refl ∙ plight.1 in
    let all = solved_are_goals board solution.0 level (play_fits fits solution.1) solution.2 in
    false≢true (sym (kept ∙ ap (λ bs. contains bs q) (start_has board) ∙ none) ∙ ap (λ bs. contains bs q) all ∙ there)

-- ---- the squares in a plight

-- those in a plight are squares of the list
pub those_each : {board : Board} {plight : Plight} {all found : Squares} → AreIn board plight all found → (r : ℕ) → contains found r ≡ true →
    (contains all r ≡ true) × IsIn board plight r
those_each empty r there = absurd (false≢true there)
those_each {board} {plight} (also {q} {all} {squares} is are) r there = elim (or_cases (eqb q r) (contains squares r) there) [
  | inl same ↦ (or_left (eqb q r) (contains all r) same, subst (IsIn board plight) (eqb-true q r same) is)
  | inr later ↦ let rest = those_each are r later in (or_right (eqb q r) (contains all r) rest.0, rest.1)
]
those_each (others {q} {all} {squares} not_in are) r there =
    let rest = those_each are r there in (or_right (eqb q r) (contains all r) rest.0, rest.1)

-- if there are none, no square of the list is in the plight
pub none_each : {board : Board} {plight : Plight} {all found : Squares} → AreIn board plight all found → found ≡ [] → (r : ℕ) →
    contains all r ≡ true → ¬ (IsIn board plight r)
none_each empty none r there = absurd (false≢true there)
none_each (also is are) none r there = let zero = ap length none in absurd (omega arith)
none_each {board} {plight} (others {q} {all} {squares} not_in are) none r there = elim (or_cases (eqb q r) (contains all r) there) [
  | inl same ↦ subst (λ s. ¬ (IsIn board plight s)) (eqb-true q r same) not_in
  | inr later ↦ none_each are none r later
]

-- a square more, in the plight or not
in_last : {board : Board} {plight : Plight} {all found : Squares} (q : ℕ) → AreIn board plight all found → IsIn board plight q →
    AreIn board plight (all ++ q ∷ []) (found ++ q ∷ [])
in_last q empty is = also is empty
in_last q (also first are) is = also first (in_last q are is)
in_last q (others first are) is = others first (in_last q are is)

out_last : {board : Board} {plight : Plight} {all found : Squares} (q : ℕ) → AreIn board plight all found → ¬ (IsIn board plight q) →
    AreIn board plight (all ++ q ∷ []) found
out_last q empty not_in = others not_in empty
out_last q (also first are) not_in = also first (out_last q are not_in)
out_last q (others first are) not_in = others first (out_last q are not_in)

module _ (board : Board) (plight : Plight) (squares found : Squares) (i q : ℕ) (below : i < length squares) (is : get_or squares i 0 ≡ q) where
  -- the first squares and the next one
  first_and_next : take (i + 1) squares ≡ take i squares ++ q ∷ []
  first_and_next = take_more squares i 0 below ∙ ap (λ b. take i squares ++ b ∷ []) is

  -- it is in the plight
  pub in_more : AreIn board plight (take i squares) found → IsIn board plight q → AreIn board plight (take (i + 1) squares) (found ++ q ∷ [])
  in_more so_far one = subst (λ bs. AreIn board plight bs (found ++ q ∷ [])) (sym first_and_next) (in_last q so_far one)

  -- or not
  pub in_same : AreIn board plight (take i squares) found → ¬ (IsIn board plight q) → AreIn board plight (take (i + 1) squares) found
  in_same so_far not_in = subst (λ bs. AreIn board plight bs found) (sym first_and_next) (out_last q so_far not_in)

-- boxes and goals of a lawful level
module _ (board : Board) (level : IsLevel board) (fits : FitsLevel board (start board)) (doomed : (bs : Squares) → Doomed board bs → AreLost board bs) where
  -- one of them is enough
  by_plight : (plight : Plight) (q : ℕ) → contains (endangered board plight) q ≡ true → IsIn board plight q → IsUnsolvable board
  by_plight Unreached q there is = unreached board q fits there is
  by_plight Unfilled q there is = unfilled board q level fits there is
  by_plight OnDead q there is =
      unsolvable board fits (doomed (start board).boxes (inl (q, ap (λ bs. contains bs q) (start_has board) ∙ there, is)))

  -- all that are in a plight
  pub by_squares : (plight : Plight) (squares : Squares) → IsLostBy board plight squares →
      IsUnsolvable board × AreIn board plight (endangered board plight) squares × (squares ≢ [])
  by_squares plight [] lost = absurd (lost.1 refl)
  by_squares plight (q ∷ qs) lost =
      let first = those_each lost.0 q (contains_head q qs) in (by_plight plight q first.0 first.1, lost.0, lost.1)

-- boxes of a level, as the code has them
module _ (board : Board) (fits : FitsLevel board (start board)) (doomed : (bs : Squares) → Doomed board bs → AreLost board bs)
    (boxes : Squares) (are : boxes ≡ start_boxes board) where
  -- a box is among them
  in_start : (q : ℕ) → contains boxes q ≡ true → contains (start board).boxes q ≡ true
  in_start q there = subst (λ bs. contains bs q ≡ true) (are ∙ sym (start_has board)) there

  -- some are frozen, and none is on a dead square
  pub with_frozen : (few : Squares) → AreFrozen board boxes few → AreIn board OnDead (start_boxes board) [] →
      IsUnsolvable board × AreIn board OnDead (start_boxes board) [] ×
      ((q : ℕ) → contains few q ≡ true → contains (start board).boxes q ≡ true) × ((members : Squares) × IsFrozen board few members)
  with_frozen few are_frozen live =
      let among = are_frozen.among in
      let frozen = are_frozen.frozen in
      let all : IsFrozen board (start board).boxes frozen.0 = record {
        some = λ q there. in_start q (among q (frozen.1.some q there));
        off_goal = frozen.1.off_goal;
        blocked = frozen.1.blocked;
      } in (
        unsolvable board fits (doomed (start board).boxes (inr (frozen.0, all))),
        live,
        λ q there. in_start q (among q there),
        frozen,
      )

  -- they are in the grid
  pub inside : (q : ℕ) → contains boxes q ≡ true → q < length board.cells
  inside q there = inside_grid board q (fits.scene.boxes q (in_start q there))

  -- none is on a dead square, and none are frozen
  pub with_none : AreIn board OnDead (start_boxes board) [] → ¬ ((members : Squares) × IsFrozen board boxes members) → Undoomed board (start board)
  with_none live free (inl dead) =
      none_each live refl dead.0 (subst (λ bs. contains bs dead.0 ≡ true) (start_has board) dead.1) dead.2
  with_none live free (inr frozen) = free (frozen.0, subst (λ bs. IsFrozen board bs frozen.0) (start_has board ∙ sym are) frozen.1)

-- ---- no step

-- no step is possible from an unsolved start
pub stuck : (board : Board) → ¬ (IsSolved board (start board)) → ((d : Dir) → Steps board (start board) d Blocked (start board)) →
    IsUnsolvable board × ((d : Dir) (t : Scene) → ¬ (Walks board (start board) d t) × ¬ (Pushes board (start board) d t))
stuck board unsolved blocked = (λ ds ps solution. by_play solution.1 refl solution.2, λ d t. ((blocked d).1 t, (blocked d).2 t))
  where
    by_play : {s t : Scene} {ds : List Dir} {ps : List Push} → Play board Any s ds ps t → s ≡ start board → IsSolved board t → ⊥
    by_play (stay fine) same solved = unsolved (subst (IsSolved board) same solved)
    by_play (walk {s = s} {m = m} {d = d} fine step rest) same solved = (blocked d).1 m (subst (λ (x : Scene). Walks board x d m) same step)
    by_play (push {s = s} {m = m} {d = d} fine step rest) same solved = (blocked d).2 m (subst (λ (x : Scene). Pushes board x d m) same step)

-- a box is on a dead square, or not
pub dead_in : (board other : Board) (plight : Plight) (q : ℕ) (is_dead : Bool) → other ≡ board → plight ≡ OnDead → (IsTrue is_dead ↔ IsDead other q) →
    MatchBool is_dead (IsIn board plight q) (¬ (IsIn board plight q))
dead_in board other plight q true same is told = subst (λ p. IsIn board p q) (sym is) (subst (λ b. IsDead b q) same (told.0 refl))
dead_in board other plight q false same is told =
    λ one. false≢true (told.1 (subst (λ b. IsDead b q) (sym same) (subst (λ p. IsIn board p q) is one)))

-- or there are none
pub none_lost : (board : Board) (plight : Plight) (found : Option (Vec ℕ Global)) → MatchOption found (AreIn board plight (endangered board plight) [])
    (λ squares. IsLostBy board plight squares.items) → found ≡ None → AreIn board plight (endangered board plight) []
none_lost board plight found told is =
    subst (λ (one : Option (Vec ℕ Global)). MatchOption one (AreIn board plight (endangered board plight) []) (λ squares. IsLostBy board plight squares.items))
    is told

-- no step in the first directions was possible
pub record AreBlocked (board : Board) (count : ℕ) (now : Scene) : Type 0 where
  pub same : now ≡ start board
  pub blocked : (i : ℕ) → i < count → Steps board (start board) (get_or (D ∷ L ∷ R ∷ U ∷ []) i D) Blocked (start board)

-- nor in the next one
pub blocked_more : (board : Board) (count : ℕ) (now new : Scene) (did : Step) → AreBlocked board count now → did ≡ Blocked →
    Steps board now (get_or (D ∷ L ∷ R ∷ U ∷ []) count D) did new → AreBlocked board (count + 1) new
blocked_more board count now new did so_far is steps =
    let d : Dir = get_or (D ∷ L ∷ R ∷ U ∷ []) count D in
    let here_too : Steps board now d Blocked new = subst (λ (one : Step). Steps board now d one new) is steps in
    let next_same : new ≡ start board = here_too.0 ∙ so_far.same in
    let from_start : Steps board (start board) d Blocked (start board) =
    subst (λ (s : Scene). Steps board s d Blocked (start board)) so_far.same (sym so_far.same, here_too.1, here_too.2) in
    record {
      same = next_same;
      blocked = λ i below. elim (cases_lt i count) [
        | inl before ↦ so_far.blocked i before
        | inr after ↦ let last : i ≡ count = omega (arith, below, after) in
            subst (λ j. Steps board (start board) (get_or (D ∷ L ∷ R ∷ U ∷ []) j D) Blocked (start board)) (sym last) from_start
      ];
    }

-- nor in any
pub blocked_all : (board : Board) (count : ℕ) (now : Scene) → AreBlocked board count now → 4 ≤ count → (d : Dir) →
    Steps board (start board) d Blocked (start board)
blocked_all board count now are all D = are.blocked 0 (omega (arith, all))
blocked_all board count now are all L = are.blocked 1 (omega (arith, all))
blocked_all board count now are all R = are.blocked 2 (omega (arith, all))
blocked_all board count now are all U = are.blocked 3 (omega (arith, all))

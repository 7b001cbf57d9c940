-- The fewest moves on from a listed state, over plain lists.
use Rattle.std.proofs.Common.{◌≡◌, ◌≢◌, ℕ, zero, suc, ◌+◌, ◌*◌, ◌-◌, ◌≤◌, ◌<◌, ◌⊎◌, List, [], ◌∷◌, ◌++◌, map, length}
use Rattle.std.proofs.Common.{Option, None, Some, inl, inr, refl, sym, ap, subst, ◌∙◌, arith, set, IfSome}
use Rattle.std.proofs.lemmas.Bool.{cases_lt, cases_eq}
use Rattle.std.proofs.lemmas.List.{length-append, length-set}
use Rattle.std.proofs.lemmas.Option.{none-some, same_Some, slice_get_within}
use Rattle.std.specs.Prelude.{slice_get}
use Rattle.grid.specs.declared.dir.Dir.{Dir}
use Rattle.grid.specs.declared.square.Push.{Push}
use Rattle.grid.specs.Squares.{insert, remove}
use Rattle.grid.specs.Board.{Board, Scene, IsSolved, next, opposite}
use Rattle.grid.specs.Plays.{Play, Any, push, stay}
use Rattle.grid.specs.States.{IsScene, FitsLevel}
use Rattle.grid.proofs.lemmas.Plays.{CutPush, cut_first_push, play-append, play_scene, push_from, walk_keeps_boxes}
use Rattle.grid.proofs.lemmas.Steps.{inside_grid}
use Rattle.area.specs.Area.{at}
use Rattle.area.specs.LeastWalks.{IsWalk}
use Rattle.area.specs.Pushes.{ArePushes, CanPush}
use Rattle.prices.specs.Solving.{SolvableWithin}
use Rattle.prices.proofs.lemmas.Solving.{push_possible, solved_before}
use Rattle.prices.specs.Fewest.{NoneHasFewer}
use Rattle.prices.proofs.lemmas.Lists.{upto_more}
use Rattle.successors.proofs.lemmas.Pushes.{moved, play_by_push}
use Rattle.store.specs.Visited.{Node, IsNew}
use Rattle.successors.specs.Distances.{AreDistinct}
use Rattle.successors.specs.Expansion.{after_push}
use Rattle.successors.proofs.lemmas.Lists.{map_at, set_here, set_there}
use Rattle.shortest.specs.Shortest.{IsReachedBy}
use Rattle.shortest.specs.inside.Resting.{EndsSolvedBy, IsAtMost}
use Rattle.shortest.specs.inside.Listing.{AreAllExpanded, IsEntryAt, IsListedOrLost, IsReachedState, StatesView}
use Rattle.shortest.specs.inside.Resting.{AreLeastBy, AreRests, IsLeastBy, IsOnward, IsRestOf, IsWay, LeadsToEnd}
use Rattle.shortest.specs.inside.Resting.{moves_of}
use Rattle.area.specs.WalkLengths.{AreWalkLengths, IsWalkLength, walk_length}
use Rattle.shortest.specs.declared.ways.Way.{Way}

-- ---- a position is in one layer only

-- a play that leads to a state and goes on to a solved one has at least as many pushes as all solutions
one_layer : (board : Board) (most k m : ℕ) (t : Scene) → NoneHasFewer board most → IsReachedBy board k t →
    SolvableWithin board m t → most ≤ k + m
one_layer board most k m t fewest (ds, ps, play, many) (es, qs, u, more, solved, few) =
    let le = fewest (ds ++ es) (ps ++ qs) (u, play-append play more, solved) in
    let long = length-append ps qs in
    omega (arith, le, long, many, few)

-- ---- the state after a push

distinct_places : (all : List Node) (i j : ℕ) (x y : Node) → AreDistinct (map (λ (e : Node). e.position) all) →
    slice_get all i ≡ Some x → slice_get all j ≡ Some y → x.position ≡ y.position → x ≡ y
distinct_places all i j x y distinct at_i at_j same =
    let one = map_at (λ (e : Node). e.position) all i x at_i in
    let two = map_at (λ (e : Node). e.position) all j y at_j in
    let e = distinct i j y.position (one ∙ ap Some same) two in
    same_Some x y (sym at_i ∙ (ap (λ (h : ℕ). slice_get all h) e ∙ at_j))

-- ---- plays by their first push

-- what a play is that begins with a push after a walk
pub record IsCut (board : Board) (s : Scene) (ds : List Dir) (p : Push) (ps : List Push) (t : Scene) : Type 0 where
  pub early : List Dir
  pub late : List Dir
  pub long : length ds ≡ length early + 1 + length late
  pub walked : IsWalk board s early (next board p.square (opposite p.dir))
  pub can : CanPush board s p
  pub rest : Play board Any (after_push board s p) late ps t

cut_here : (board : Board) (s : Scene) (ds : List Dir) (p : Push) (ps : List Push) (t : Scene) → IsScene board s →
    Play board Any s ds (p ∷ ps) t → IsCut board s ds p ps t
cut_here board s ds p ps t scene play = by (cut_first_push p ps play)
  where
    by : CutPush board Any s ds [] p ps t → IsCut board s ds p ps t
    by c =
        let boxes = walk_keeps_boxes c.first in
        let back : next board (next board c.before.player p.dir) (opposite p.dir) ≡ c.before.player =
        push_from board c.before p.dir c.after (play_scene scene c.first) c.pushed in
        let square : p.square ≡ next board c.before.player p.dir = ap (λ (q : Push). q.square) c.named in
        let place : c.before.player ≡ next board p.square (opposite p.dir) =
        sym back ∙ ap (λ (q : ℕ). next board q (opposite p.dir)) (sym square) in
        let there : c.before ≡ at s (next board p.square (opposite p.dir)) =
        λ i. record { boxes = boxes i; player = place i } in
        let e = length-append c.early (p.dir ∷ c.late) in
        let w = ap length c.whole in
        record {
          early = c.early;
          late = c.late;
          long = omega (arith, e, w);
          walked = subst (λ (u : Scene). Play board Any s c.early [] u) there c.first;
          can =
              subst (CanPush board s) (sym c.named)
              (push_possible board s c.before c.after c.early p.dir scene c.first c.pushed);
          rest = subst (λ (u : Scene). Play board Any u c.late ps t)
              (moved board s c.before c.after p.dir boxes c.pushed ∙ ap (after_push board s) (sym c.named)) c.rest;
        }

-- no play goes on from the state after the push
pub least_none : (board : Board) (m : ℕ) (s : Scene) (p : Push) → IsScene board s →
    ¬ (SolvableWithin board m (after_push board s p)) → IsLeastBy board m s p None
least_none board m s p scene none ds ps t play solved few =
    let c = cut_here board s ds p ps t scene play in
    none (c.late, ps, t, c.rest, solved, few)

-- a shortest walk, the push, and the fewest moves after it
pub least_some : (board : Board) (m : ℕ) (s : Scene) (p : Push) (walk rest moves : ℕ) → IsScene board s →
    IsWalkLength board s (next board p.square (opposite p.dir)) walk → IsRestOf board m (after_push board s p)
    (Some rest) → moves ≡ walk + 1 + rest → IsLeastBy board m s p (Some moves)
least_some board m s p walk rest moves scene shortest rests is ds ps t play solved few =
    let c = cut_here board s ds p ps t scene play in
    let one = shortest.least c.early c.walked in
    let two : rest ≤ length c.late = rests.is.least c.late ps t c.rest solved few in
    let long = c.long in
    omega (arith, one, two, long, is)

-- ---- the best way

-- the number that the marks give for the square behind a box is the length of a shortest walk to it
pub walked_behind : (board held : Board) (s : Scene) (p : Push) (marks : List ℕ) (back : Dir) (behind walk : ℕ) →
    AreWalkLengths board s marks → CanPush board s p → held ≡ board → back ≡ opposite p.dir →
    behind ≡ next held p.square back → walk ≡ walk_length marks behind →
    IsWalkLength board s (next board p.square (opposite p.dir)) walk
walked_behind board held s p marks back behind walk all can same turned is long =
    let there : behind ≡ next board p.square (opposite p.dir) =
    is ∙ (ap (λ (b : Board). next b p.square back) same ∙ ap (next board p.square) turned) in
    subst (IsWalkLength board s (next board p.square (opposite p.dir))) (sym (long ∙ ap (walk_length marks) there))
    (all (next board p.square (opposite p.dir)) can.behind)

-- a bound that holds for each number holds for the lesser one
least_by_less : (board : Board) (m : ℕ) (s : Scene) (p : Push) (one two : Option ℕ) →
    ((n : ℕ) → IsAtMost one n → IsAtMost two n) → IsLeastBy board m s p one → IsLeastBy board m s p two
least_by_less board m s p one two so least ds ps t play solved few = so (length ds) (least ds ps t play solved few)

pub least_more : (board : Board) (m : ℕ) (s : Scene) (pushes : List Push) (i : ℕ) (p : Push) (old here new : Option ℕ) →
    slice_get pushes i ≡ Some p → ((n : ℕ) → IsAtMost old n → IsAtMost new n) →
    ((n : ℕ) → IsAtMost here n → IsAtMost new n) → AreLeastBy board m s pushes i old → IsLeastBy board m s p here →
    AreLeastBy board m s pushes (i + 1) new
least_more board m s pushes i p old here new at_i one two before now =
    upto_more (λ (q : Push). IsLeastBy board m s q new) pushes i p at_i
    (λ j q lt at_j. least_by_less board m s q old new one (before j q lt at_j))
    (least_by_less board m s p here new two now)

-- the play that a way begins
play_of : (board : Board) (m : ℕ) (s : Scene) (p : Push) (walk rest : ℕ) → IsScene board s → CanPush board s p →
    IsWalkLength board s (next board p.square (opposite p.dir)) walk →
    EndsSolvedBy board m (after_push board s p) rest → EndsSolvedBy board (suc m) s (walk + 1 + rest)
play_of board m s p walk rest scene can shortest (ds, ps, t, play, solved, few, many) =
    let (es, walked, long) = shortest.some in
    let e = length-append es (p.dir ∷ ds) in (
      es ++ p.dir ∷ ds,
      p ∷ ps,
      t,
      play_by_push board s p scene can walked play,
      solved,
      omega (arith, few),
      omega (arith, e, long, many),
    )

-- a state with k pushes has m left
pub pushes_left : (k most : ℕ) → k ≤ most → (m : ℕ) × (k + m ≡ most)
pushes_left k most le = (most - k, omega (arith, le))

module _ (v : StatesView) (rests : List (Option ℕ)) (k : ℕ) (s : Scene) (are : AreAllExpanded v)
    (onward : IsOnward v rests k s) where
  same : onward.at_place.0.position ≡ s
  same = onward.at_place.2

  listed : IsReachedState v.board v.most onward.at_place.0
  listed = are.listed.each onward.place onward.at_place.0 onward.at_place.1

  pub onward_fits : FitsLevel v.board s
  onward_fits = subst (FitsLevel v.board) same listed.fits

  kept : (p : Push) → CanPush v.board s p → IsListedOrLost v.board v.most v.entries k s p
  kept p can = subst (λ (t : Scene). IsListedOrLost v.board v.most v.entries k t p) same
      (subst (λ (n : ℕ). IsListedOrLost v.board v.most v.entries n onward.at_place.0.position p) onward.at_place.3
      (are.listed.expanded onward.place onward.at_place.0
      (slice_get_within v.entries onward.place onward.at_place.0 onward.at_place.1) onward.at_place.1 p (subst (λ (t : Scene). CanPush v.board t p) (sym same) can)))

  -- it is unsolved
  unsolved_here : SolvableWithin v.board 0 s → ⊥
  unsolved_here solvable =
      let le = one_layer v.board v.most k 0 s are.fewest
      (subst (λ (n : ℕ). IsReachedBy v.board n s) onward.at_place.3
      (subst (IsReachedBy v.board onward.at_place.0.pushes) same listed.reached)) solvable in
      let lt = onward.fewer in
      omega (arith, le, lt)

  -- a state with one push more is behind it
  behind : (i : ℕ) (y : Node) → slice_get v.entries i ≡ Some y → y.pushes ≡ suc k → suc onward.place ≤ i
  behind i y at_i count = elim (cases_lt onward.place i) [
    | inl lt ↦ omega (arith, lt)
    | inr ge ↦ absurd (let le = are.listed.sorted i onward.place y onward.at_place.0 ge at_i onward.at_place.1 in
        let c = onward.at_place.3 in
        omega (arith, le, c, count))
  ]

  pub rest_there : (p : Push) (place rest m : ℕ) → k + suc m ≡ v.most →
      (leads : LeadsToEnd v.board v.entries rests k s p place rest) → IsRestOf v.board m (after_push v.board s p)
      (Some rest)
  rest_there p place rest m sum leads = subst (λ (t : Scene). IsRestOf v.board m t (Some rest)) leads.there
      (onward.known.each place m leads.entry (Some rest) (behind place leads.entry leads.at leads.count) leads.at
      leads.rest_is (let c = leads.count in omega (arith, c, sum)))

  -- the state after the push is not listed
  pub not_listed : (p : Push) (m : ℕ) → CanPush v.board s p → IsNew v.entries (after_push v.board s p) →
      k + suc m ≡ v.most → ¬ (SolvableWithin v.board m (after_push v.board s p))
  not_listed p m can fresh sum solvable =
      let (i, y, at_i, there, le) = kept p can m sum solvable in fresh i y at_i there

  -- it is listed with another number of pushes
  pub other_layer : (p : Push) (m place : ℕ) (y : Node) → CanPush v.board s p → slice_get v.entries place ≡ Some y →
      y.position ≡ after_push v.board s p → y.pushes ≢ suc k → k + suc m ≡ v.most →
      ¬ (SolvableWithin v.board m (after_push v.board s p))
  other_layer p m place y can at_y there other sum solvable =
      let (i, z, at_z, so, le) = kept p can m sum solvable in
      let one : z ≡ y = distinct_places v.entries i place z y are.distinct at_z at_y (so ∙ sym there) in
      let c = ap (λ (w : Node). w.pushes) one in
      let ge = one_layer v.board v.most y.pushes m y.position are.fewest (are.listed.each place y at_y).reached
      (subst (SolvableWithin v.board m) (sym there) solvable) in
      other (omega (arith, c, le, ge, sum))

  -- no play goes on from it
  pub no_rest : (p : Push) (m place : ℕ) (y : Node) → slice_get v.entries place ≡ Some y →
      y.position ≡ after_push v.board s p → y.pushes ≡ suc k → slice_get rests place ≡ Some None → k + suc m ≡ v.most →
      ¬ (SolvableWithin v.board m (after_push v.board s p))
  no_rest p m place y at_y there count none sum (ds, ps, t, play, solved, few) =
      (onward.known.each place m y None (behind place y at_y count) at_y none
      (omega (arith, count, sum))).is.least ds ps t
      (subst (λ (u : Scene). Play v.board Any u ds ps t) (sym there) play) solved few

  -- the best of all ways is the fewest moves from the state
  pub best_is : (m : ℕ) (pushes : List Push) (count : ℕ) (best : Option Way) → k + suc m ≡ v.most →
      ArePushes v.board s pushes → length pushes ≤ count → IfSome best (λ way. IsWay v.board v.entries rests k s way) →
      AreLeastBy v.board m s pushes count (moves_of best) → IsRestOf v.board (suc m) s (moves_of best)
  best_is m pushes count best sum all over ways least = record {
    is = record {
      some = λ n e. some best ways n e;
      least = λ ds ps t play solved few. no_less ds ps t play solved few;
    };
    small = λ n e. small best ways n e;
  }
    where
      some : (o : Option Way) → IfSome o (λ way. IsWay v.board v.entries rests k s way) → (n : ℕ) →
          moves_of o ≡ Some n → EndsSolvedBy v.board (suc m) s n
      some None is n e = absurd (none-some n e)
      some (Some way) w n e =
          let there = rest_there way.push way.place w.rest m sum w.leads in
          subst (EndsSolvedBy v.board (suc m) s) (sym w.moves ∙ same_Some way.moves n e)
          (play_of v.board m s way.push w.walk w.rest onward_fits.scene w.possible w.walked (there.is.some w.rest refl))

      small : (o : Option Way) → IfSome o (λ way. IsWay v.board v.entries rests k s way) → (n : ℕ) →
          moves_of o ≡ Some n → n ≤ suc m * 4294967296
      small None is n e = absurd (none-some n e)
      small (Some way) w n e =
          let low = (rest_there way.push way.place w.rest m sum w.leads).small w.rest refl in
          let short = w.short in
          let moves = w.moves in
          let same = same_Some way.moves n e in
          omega (arith, low, short, moves, same)

      no_less : (ds : List Dir) (ps : List Push) (t : Scene) → Play v.board Any s ds ps t → IsSolved v.board t →
          length ps ≤ suc m → IsAtMost (moves_of best) (length ds)
      no_less ds [] t play solved few = absurd (unsolved_here (ds, [], t, play, solved, omega arith))
      no_less ds (p ∷ ps) t play solved few =
          let c = cut_here v.board s ds p ps t onward_fits.scene play in
          let (i, at_i) = all.whole p c.can in
          let lt = slice_get_within pushes i p at_i in
          least i p (omega (arith, lt, over)) at_i ds ps t play solved (omega (arith, few))

  -- the moves after a push fit 64 bits, with a walk and the push
  pub rest_small : (p : Push) (place rest : ℕ) → LeadsToEnd v.board v.entries rests k s p place rest →
      rest + 8589934592 ≤ 18446744073709551616
  rest_small p place rest leads =
      by v.most are.range onward.fewer (λ m sum. (rest_there p place rest m sum leads).small rest refl)
    where
      by : (most : ℕ) → most < 4294967296 → k < most → ((m : ℕ) → k + suc m ≡ most → rest ≤ m * 4294967296) →
          rest + 8589934592 ≤ 18446744073709551616
      by zero range fewer is = absurd (omega (arith, fewer))
      by (suc most) range fewer is =
          let (m, sum) = pushes_left k most (omega (arith, fewer)) in
          let le = is m (omega (arith, sum)) in
          omega (arith, le, sum, range)

-- ---- the last states

-- a solved one needs no moves
pub rest_solved : (board : Board) (s : Scene) → IsSolved board s → IsRestOf board 0 s (Some 0)
rest_solved board s solved = record {
  is = record {
    some =
        λ n e. (let f = same_Some 0 n e in subst (EndsSolvedBy board 0 s) f ([], [], s, stay tt, solved, omega arith, refl));
    least = λ ds ps t play end few. omega arith;
  };
  small = λ n e. (let f = same_Some 0 n e in omega (arith, f));
}

-- from another one none goes on
pub rest_unsolved : (board : Board) (s : Scene) → ¬ (IsSolved board s) → IsRestOf board 0 s None
rest_unsolved board s unsolved = record {
  is = record {
    some = λ n e. absurd (none-some n e);
    least = λ ds ps t play end few. none ds ps t play end few;
  };
  small = λ n e. absurd (none-some n e);
}
  where
    none : (ds : List Dir) (ps : List Push) (t : Scene) → Play board Any s ds ps t → IsSolved board t → length ps ≤ 0 →
        ⊥
    none ds [] t play end few = unsolved (solved_before board s t (walk_keeps_boxes play) end)
    none ds (p ∷ ps) t play end few = omega (arith, few)

-- the state at a place is one
pub one_at : (all : List Node) (place k n : ℕ) (s t : Scene) → IsEntryAt all place s k → IsEntryAt all place t n →
    (s ≡ t) × (k ≡ n)
one_at all place k n s t (x, at_x, same, count) (y, at_y, so, many) =
    let e = same_Some x y (sym at_x ∙ at_y) in
    (sym same ∙ (ap (λ (w : Node). w.position) e ∙ so), sym count ∙ (ap (λ (w : Node). w.pushes) e ∙ many))

pub rest_same : (board : Board) (all : List Node) (most place k n : ℕ) (s t : Scene) (rest : Option ℕ) →
    IsEntryAt all place s k → IsEntryAt all place t n → ((m : ℕ) → k + m ≡ most → IsRestOf board m s rest) → (m : ℕ) →
    n + m ≡ most → IsRestOf board m t rest
rest_same board all most place k n s t rest here there is m sum =
    let (e, f) = one_at all place k n s t here there in
    subst (λ (u : Scene). IsRestOf board m u rest) e (is m (omega (arith, f, sum)))

-- ---- the numbers are written

-- one more place is written
pub rests_more : (board : Board) (most place : ℕ) (all : List Node) (old : List (Option ℕ)) (rest : Option ℕ) →
    place < length all → AreRests board most (suc place) all old →
    ((k m : ℕ) (s : Scene) → IsEntryAt all place s k → k + m ≡ most → IsRestOf board m s rest) →
    AreRests board most place all (set old place rest)
rests_more board most place all old rest lt rests is = record {
  many = length-set old place rest ∙ rests.many;
  each = λ i m x r le at_x at_r sum. elim (cases_eq i place) [
    | inl e ↦ (let here : rest ≡ r = same_Some rest r
        (sym (set_here old place rest (let c = rests.many in omega (arith, lt, c))) ∙
        (ap (λ (h : ℕ). slice_get (set old place rest) h) (sym e) ∙ at_r)) in
        let at_place = ap (λ (h : ℕ). slice_get all h) (sym e) ∙ at_x in
        subst (IsRestOf board m x.position) here (is x.pushes m x.position (x, at_place, refl, refl) sum))
    | inr ne ↦ rests.each i m x r (omega (arith, le, ne)) at_x (sym (set_there old place i rest ne) ∙ at_r) sum
  ];
}

-- none is written yet
pub rests_none : (board : Board) (most place : ℕ) (all : List Node) (rests : List (Option ℕ)) →
    length rests ≡ length all → length all ≤ place → AreRests board most place all rests
rests_none board most place all rests many over = record {
  many = many;
  each = λ i m x r le at_x at_r sum. absurd (let lt = slice_get_within all i x at_x in omega (arith, lt, le, over));
}

-- ---- what calls ask for

-- the box of a push is on the grid
pub box_inside : (board : Board) (s : Scene) (p : Push) → IsScene board s → CanPush board s p →
    p.square < length board.cells
box_inside board s p scene can = inside_grid board p.square (scene.boxes p.square can.there)

-- a copy whose box was pushed is the state after the push
pub pushed_is : (board level : Board) (s a t : Scene) (p : Push) (to : ℕ) → level ≡ board → a ≡ s →
    to ≡ next level p.square p.dir → t ≡ record { boxes = insert (remove a.boxes p.square) to; player = p.square } →
    t ≡ after_push board s p
pushed_is board level s a t p to level_is copied to_is is =
    let there = to_is ∙ ap (λ (b : Board). next b p.square p.dir) level_is in
    is ∙ (λ i. record { boxes = insert (remove (copied i).boxes p.square) (there i); player = p.square })

-- for the number of pushes that is left
pub rest_onward : (board : Board) (most k : ℕ) (s : Scene) (rest : Option ℕ) → k < most →
    ((m : ℕ) → k + suc m ≡ most → IsRestOf board (suc m) s rest) → (m : ℕ) → k + m ≡ most → IsRestOf board m s rest
rest_onward board most k s rest fewer is zero sum = absurd (omega (arith, fewer, sum))
rest_onward board most k s rest fewer is (suc m) sum = is m sum

pub rest_last : (board : Board) (most k : ℕ) (s : Scene) (rest : Option ℕ) → most ≤ k → IsRestOf board 0 s rest →
    (m : ℕ) → k + m ≡ most → IsRestOf board m s rest
rest_last board most k s rest enough is zero sum = is
rest_last board most k s rest enough is (suc m) sum = absurd (omega (arith, enough, sum))

-- the better of two ways is one of them
pub ways_more : (P : Way → Type 0) (old here new : Option Way) →
    IfSome new (λ way. (old ≡ Some way) ⊎ (here ≡ Some way)) → IfSome old P → IfSome here P → IfSome new P
ways_more P old here None one was now = tt
ways_more P old here (Some w) (inl e) was now = subst (λ (o : Option Way). IfSome o P) e was
ways_more P old here (Some w) (inr e) was now = subst (λ (o : Option Way). IfSome o P) e now

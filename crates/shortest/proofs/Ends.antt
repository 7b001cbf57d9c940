-- The best solution, read from the start on.
use Rattle.std.proofs.Common.{◌≡◌, ℕ, suc, ◌+◌, ◌≤◌, ◌<◌, List, [], ◌∷◌, ◌++◌, length, Option, None, Some, inl, inr}
use Rattle.std.proofs.Common.{append_assoc, append-nil, refl, sym, ap, subst, ◌∙◌, arith}
use Rattle.std.proofs.lemmas.Bool.{cases_lt}
use Rattle.std.proofs.lemmas.List.{length-append}
use Rattle.std.proofs.lemmas.Option.{slice_get_within}
use Rattle.std.specs.Prelude.{slice_get}
use Rattle.grid.specs.declared.moves.Letter.{Letter}
use Rattle.grid.specs.declared.square.Push.{Push}
use Rattle.grid.specs.Board.{Board, Scene, IsSolved, dir_cmp, next, opposite, start}
use Rattle.grid.specs.Plays.{push}
use Rattle.grid.specs.States.{IsScene}
use Rattle.grid.proofs.lemmas.Orders.{shortlex-length}
use Rattle.grid.proofs.lemmas.Plays.{walk_keeps_boxes}
use Rattle.area.specs.Area.{at}
use Rattle.area.specs.Pushes.{CanPush}
use Rattle.lurd.specs.Verdict.{IsVerdict}
use Rattle.lurd.specs.declared.verdict.Verdict.TheVariants.{Solved}
use Rattle.lurd.proofs.lemmas.Solutions.{moves_of_play, solved_of_play}
use Rattle.prices.specs.Solving.{SolvableWithin}
use Rattle.prices.proofs.lemmas.Solving.{solved_before}
use Rattle.prices.specs.Searching.{SomeHas}
use Rattle.prices.proofs.lemmas.Lists.{in_range}
use Rattle.successors.proofs.lemmas.Pushes.{play_by_push}
use Rattle.store.specs.Visited.{Node}
use Rattle.successors.specs.Expansion.{after_push}
use Rattle.successors.specs.LeastPlays.{ArePlayed, WritesLeastPlay}
use Rattle.shortest.specs.Shortest.{NoneIsBetter}
use Rattle.shortest.specs.inside.Resting.{EndsSolvedBy}
use Rattle.shortest.specs.inside.Listing.{AreAllExpanded, IsEntryAt, StatesView}
use Rattle.shortest.specs.inside.Resting.{AreRests, Finishes, IsOnward, IsReading, IsRestOf, IsWay}
use Rattle.area.specs.WalkLengths.{IsWalkLength}
use Rattle.shortest.specs.declared.ways.Way.{Way}
use Rattle.shortest.proofs.Onward.{one_at, onward_fits, pushes_left}

-- ---- fewest moves

-- there is one such number only
rest_one : (board : Board) (m a b : ℕ) (s : Scene) → IsRestOf board m s (Some a) → IsRestOf board m s (Some b) → a ≡ b
rest_one board m a b s one two =
    let (ds, ps, t, play, solved, few, many) = one.is.some a refl in
    let (es, qs, u, other, end, less, more) = two.is.some b refl in
    let p : b ≤ length ds = two.is.least ds ps t play solved few in
    let q : a ≤ length es = one.is.least es qs u other end less in
    omega (arith, p, q, many, more)

rest_some : (board : Board) (m : ℕ) (s : Scene) (rest : Option ℕ) → IsRestOf board m s rest → SolvableWithin board m s →
    (v : ℕ) × (rest ≡ Some v)
rest_some board m s None is (ds, ps, t, play, solved, few) = absurd (is.is.least ds ps t play solved few)
rest_some board m s (Some v) is solvable = (v, refl)

some_solvable : (board : Board) (most : ℕ) → SomeHas board most → SolvableWithin board most (start board)
some_solvable board most (ds, ps, (t, play, solved), many) = (ds, ps, t, play, solved, omega (arith, many))

-- ---- reading

-- the start, from which nothing is read yet
pub reading_begun : (v : StatesView) (rests : List (Option ℕ)) → AreAllExpanded v → SomeHas v.board v.most →
    AreRests v.board v.most 0 v.entries rests →
    (total : ℕ) × (slice_get rests 0 ≡ Some (Some total)) × IsReading v.board v.entries rests total 0 []
reading_begun v rests are some is =
    by (in_range rests 0 (let lt = slice_get_within v.entries 0 x at_x in let many = is.many in omega (arith, lt, many)))
  where
    x : Node
    x = are.listed.begun.0

    at_x : slice_get v.entries 0 ≡ Some x
    at_x = are.listed.begun.1

    first : x.position ≡ start v.board
    first = are.listed.begun.2

    none : x.pushes ≡ 0
    none = are.listed.begun.3

    by : (o : Option ℕ) × (slice_get rests 0 ≡ Some o) →
        (total : ℕ) × (slice_get rests 0 ≡ Some (Some total)) × IsReading v.board v.entries rests total 0 []
    by (o, at_o) =
        let rest = is.each 0 v.most x o (omega arith) at_x at_o (omega (arith, none)) in
        let (total, e) = rest_some v.board v.most x.position o rest (subst (SolvableWithin v.board v.most) (sym first) (some_solvable v.board v.most some)) in
        let here = at_o ∙ ap Some e in (
          total,
          here,
          record {
            entry = x;
            rest = total;
            at = at_x;
            rest_is = here;
            count = sym none;
            on = λ ps finishes. subst (λ (s : Scene). Finishes v.board s ps total) first finishes;
          },
        )

module _ (v : StatesView) {rests : List (Option ℕ)} {total place : ℕ} (k : ℕ) (s : Scene) {read : List Push}
    (is : AreRests v.board v.most 0 v.entries rests) (reading : IsReading v.board v.entries rests total place read)
    (here : IsEntryAt v.entries place s k) where
  -- the rests of the states behind the place are known
  pub reading_onward : k < v.most → IsOnward v rests k s
  reading_onward fewer = record {
    place = place;
    at_place = here;
    known = record { many = is.many; each = λ i m x r le. is.each i m x r (omega arith) };
    fewer = fewer;
  }

  alike : (reading.entry.position ≡ s) × (reading.entry.pushes ≡ k)
  alike =
      one_at v.entries place reading.entry.pushes k reading.entry.position s (reading.entry, reading.at, refl, refl) here

  -- as many pushes are read as lead to the place
  pub reading_count : length read ≡ k
  reading_count = reading.count ∙ alike.1

  -- the fewest moves from the place
  rest_here : (m : ℕ) → k + m ≡ v.most → IsRestOf v.board m s (Some reading.rest)
  rest_here m sum = subst (λ (t : Scene). IsRestOf v.board m t (Some reading.rest)) alike.0
      (is.each place m reading.entry (Some reading.rest) (omega arith) reading.at reading.rest_is
      (let many = alike.1 in omega (arith, sum, many)))

  -- some way leads on
  pub way_exists : k < v.most → ((m : ℕ) → k + suc m ≡ v.most → IsRestOf v.board (suc m) s None) → ⊥
  way_exists fewer none =
      let (m, sum) = pushes_left (suc k) v.most (omega (arith, fewer)) in
      let all : k + suc m ≡ v.most = omega (arith, sum) in
      let (ds, ps, t, play, solved, few, long) = (rest_here (suc m) all).is.some reading.rest refl in
      (none m all).is.least ds ps t play solved few

  -- one more push is read
  pub reading_more : (way : Way) → AreAllExpanded v → k < v.most → IsWay v.board v.entries rests k s way →
      ((m : ℕ) → k + suc m ≡ v.most → IsRestOf v.board (suc m) s (Some way.moves)) →
      IsReading v.board v.entries rests total way.place (read ++ way.push ∷ [])
  reading_more way are fewer w best =
      let (m, sum) = pushes_left (suc k) v.most (omega (arith, fewer)) in
      let all : k + suc m ≡ v.most = omega (arith, sum) in
      let same = rest_one v.board (suc m) way.moves reading.rest s (best m all) (rest_here (suc m) all) in
      let scene = (onward_fits v rests k s are (reading_onward fewer)).scene in
      let long = length-append read (way.push ∷ []) in
      let many = reading_count in
      let next_count = w.leads.count in
      record {
        entry = w.leads.entry;
        rest = w.rest;
        at = w.leads.at;
        rest_is = w.leads.rest_is;
        count = omega (arith, long, many, next_count);
        on = λ ps finishes. subst (λ (qs : List Push). Finishes v.board (start v.board) qs total)
            (sym (append_assoc read (way.push ∷ []) ps))
            (reading.on (way.push ∷ ps) (subst (λ (t : Scene). Finishes v.board t (way.push ∷ ps) reading.rest) (sym alike.0)
            (subst (Finishes v.board s (way.push ∷ ps)) (sym w.moves ∙ same) (finish_more scene w.possible w.walked
            (subst (λ (t : Scene). Finishes v.board t ps w.rest) w.leads.there finishes)))));
      }
    where
      finish_more : {walk rest : ℕ} {p : Push} {ps : List Push} → IsScene v.board s → CanPush v.board s p →
          IsWalkLength v.board s (next v.board p.square (opposite p.dir)) walk →
          Finishes v.board (after_push v.board s p) ps rest → Finishes v.board s (p ∷ ps) (walk + 1 + rest)
      finish_more {p = p} scene can shortest (ds, t, play, solved, many) =
          let (es, walked, long) = shortest.some in
          let e = length-append es (p.dir ∷ ds) in
          (es ++ p.dir ∷ ds, t, play_by_push v.board s p scene can walked play, solved, omega (arith, e, long, many))

-- as many pushes are read as the solution has
pub reading_done : (v : StatesView) (rests : List (Option ℕ)) (total place : ℕ) (read : List Push) → AreAllExpanded v →
    AreRests v.board v.most 0 v.entries rests → IsReading v.board v.entries rests total place read →
    v.most ≤ length read → (length read ≡ v.most) × Finishes v.board (start v.board) read total
reading_done v rests total place read are is reading enough =
    let few = (are.listed.each place reading.entry reading.at).few in
    let count = reading.count in
    let last : reading.entry.pushes + 0 ≡ v.most = omega (arith, few, count, enough) in
    let rest = is.each place 0 reading.entry (Some reading.rest) (omega arith) reading.at reading.rest_is last in (
      omega (arith, count, last),
      subst (λ (qs : List Push). Finishes v.board (start v.board) qs total) (append-nil read)
          (reading.on [] (none_left (rest.is.some reading.rest refl))),
    )
  where
    none_left : {r : ℕ} → EndsSolvedBy v.board 0 reading.entry.position r → Finishes v.board reading.entry.position [] r
    none_left (ds, [], t, play, solved, few, many) = (ds, t, play, solved, many)
    none_left (ds, p ∷ ps, t, play, solved, few, many) = absurd (omega (arith, few))

-- ---- the solution

-- the play is one with these pushes
pub played_by : (board : Board) (ps : List Push) (total : ℕ) → Finishes board (start board) ps total →
    ArePlayed board ps
played_by board ps total (ds, t, play, solved, many) = (ds, t, play)

-- the least play with the pushes that were read is the best solution
pub best_solution : (v : StatesView) (rests : List (Option ℕ)) (total : ℕ) (ps : List Push) (t : Scene)
    (moves : List Letter) → AreAllExpanded v → AreRests v.board v.most 0 v.entries rests →
    slice_get rests 0 ≡ Some (Some total) → length ps ≡ v.most → Finishes v.board (start v.board) ps total →
    WritesLeastPlay v.board ps t moves →
    IsVerdict v.board moves (Solved v.most (length moves)) × NoneIsBetter v.board v.most (length moves)
best_solution v rests total ps t moves are is first_is long (ds, u, play, solved, many) writes = (
  subst (λ (n : ℕ). IsVerdict v.board moves (Solved n (length moves))) long (solved_of_play writes.play writes.written end),
  λ es qs (w, other, end_other). (let le = are.fewest es qs (w, other, end_other) in elim (cases_lt v.most (length qs)) [
    | inl lt ↦ inl lt
    | inr ge ↦
        inr (omega (arith, le, ge), (let few : total ≤ length es = rest.is.least es qs w other end_other ge in omega (arith, few, size, short, many)))
  ]),
)
  where
    x : Node
    x = are.listed.begun.0

    none : x.pushes ≡ 0
    none = are.listed.begun.3

    rest : IsRestOf v.board v.most (start v.board) (Some total)
    rest = subst (λ (s : Scene). IsRestOf v.board v.most s (Some total)) are.listed.begun.2
        (is.each 0 v.most x (Some total) (omega arith) are.listed.begun.1 first_is (omega (arith, none)))

    end : IsSolved v.board t
    end =
        let (fs, ws, cut, first, more) = writes.common ds u play in
        solved_before v.board t u (walk_keeps_boxes more) solved

    size : length moves ≡ length writes.dirs
    size = ap length (sym writes.written) ∙ moves_of_play writes.play

    short : length writes.dirs ≤ length ds
    short = shortlex-length dir_cmp writes.dirs ds (writes.least ds u play)

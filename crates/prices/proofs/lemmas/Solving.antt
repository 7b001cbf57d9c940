-- First pushes of plays that end solved.
use Rattle.std.proofs.Common.{◌≡◌, ℕ, zero, suc, ◌≤◌, inl, inr, List, [], ◌∷◌, length, refl, sym, ap, subst, ◌∙◌, arith}
use Rattle.std.proofs.lemmas.Bool.{cases_lt}
use Rattle.grid.specs.declared.dir.Dir.{Dir}
use Rattle.grid.specs.declared.square.Push.{Push}
use Rattle.grid.specs.Squares.{Squares, contains}
use Rattle.grid.specs.Board.{Board, Scene, IsFree, IsSolved, Pushes, next}
use Rattle.grid.specs.States.{IsScene}
use Rattle.grid.specs.Plays.{Play, Any, push_at}
use Rattle.grid.proofs.lemmas.Plays.{play-append, walk_backwards, walk_keeps_boxes, play_scene, push_from}
use Rattle.grid.proofs.lemmas.Plays.{cut_first_push}
use Rattle.area.specs.Area.{Area}
use Rattle.area.specs.Pushes.{CanPush}
use Rattle.area.proofs.lemmas.Norms.{walk_area, norm_walk}
use Rattle.prices.specs.Solving.{SolvableWithin, HasFirstPush, FirstPushLeads, NoneIsNotSolvable, WalksChangeNothing}
use Rattle.prices.specs.Solving.{NormsChangeNothing}

-- that no play does is that the state is not solvable
pub none_is_not_solvable : (board : Board) → NoneIsNotSolvable board
none_is_not_solvable board m s = (
  λ none (ds, ps, t, play, solved, few). (let lt = none ds ps t play solved in omega (arith, lt, few)),
  λ not ds ps t play solved. elim (cases_lt m (length ps)) [
    | inl lt ↦ lt
    | inr le ↦ absurd (not (ds, ps, t, play, solved, le))
  ],
)

-- a walk before does not count
pub solvable_before : (board : Board) (m : ℕ) (s t : Scene) (ds : List Dir) → Play board Any s ds [] t
    → SolvableWithin board m t → SolvableWithin board m s
solvable_before board m s t ds walked (es, ps, u, play, solved, few) = (_, ps, u, play-append walked play, solved, few)

pub walks_change_nothing : (board : Board) → WalksChangeNothing board
walks_change_nothing board s t ds scene walked m = (
  λ h. (let back = walk_backwards scene walked in solvable_before board m t s back.0 back.2 h),
  λ h. solvable_before board m s t ds walked h,
)

pub norms_change_nothing : (board : Board) → NormsChangeNothing board
norms_change_nothing board s n scene norm = let w = norm_walk norm in walks_change_nothing board s n w.0 scene w.1

-- a walk ends solved only where it began so
pub solved_before : (board : Board) (s t : Scene) → t.boxes ≡ s.boxes → IsSolved board t → IsSolved board s
solved_before board s t same solved q there = solved q (ap (λ (xs : Squares). contains xs q) same ∙ there)

-- a push after a walk is possible from where the walk began
pub push_possible : (board : Board) (s b t : Scene) (ds : List Dir) (d : Dir) → IsScene board s
    → Play board Any s ds [] b → Pushes board b d t
    → CanPush board s (push_at board b d)
push_possible board s b t ds d scene walked pushed =
    let boxes : b.boxes ≡ s.boxes = walk_keeps_boxes walked in
    let back = push_from board b d t (play_scene scene walked) pushed in
    record {
      there = sym (ap (λ (xs : Squares). contains xs (next board b.player d)) boxes) ∙ pushed.0;
      behind = subst (Area board s) (sym back) (walk_area walked);
      ahead = subst (λ (xs : Squares). IsFree board xs (next board (next board b.player d) d)) boxes pushed.1;
    }

first_of : (board : Board) (m : ℕ) (s t : Scene) (ds : List Dir) (ps : List Push) → IsScene board s
    → ¬ (IsSolved board s) → Play board Any s ds ps t
    → IsSolved board t → length ps ≤ m → HasFirstPush board m s
first_of board m s t ds [] scene unsolved play solved few =
    absurd (unsolved (solved_before board s t (walk_keeps_boxes play) solved))
first_of board zero s t ds (p ∷ ps) scene unsolved play solved few = absurd (omega (arith, few))
first_of board (suc m) s t ds (p ∷ ps) scene unsolved play solved few =
    let cut = cut_first_push p ps play in
    record {
      left = m;
      before = cut.before;
      dir = p.dir;
      after = cut.after;
      one = refl;
      walked = (cut.early, cut.first);
      pushed = cut.pushed;
      possible = push_possible board s cut.before cut.after cut.early p.dir scene cut.first cut.pushed;
      rest = (cut.late, ps, t, cut.rest, solved, omega (arith, few));
    }

pub first_push_leads : (board : Board) → FirstPushLeads board
first_push_leads board m s scene unsolved (ds, ps, t, play, solved, few) =
    first_of board m s t ds ps scene unsolved play solved few

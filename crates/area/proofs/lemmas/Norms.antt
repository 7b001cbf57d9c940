-- Areas and normal forms: what walks back, each state has one normal form, and all states of an area have the same.
use Rattle.std.proofs.Common.{◌≡◌, ℕ, ◌≤◌, ◌↔◌, List, [], ◌++◌, refl, sym, ap, subst, ◌∙◌, arith}
use Rattle.grid.specs.declared.dir.Dir.{Dir}
use Rattle.grid.specs.Board.{Board, Scene}
use Rattle.grid.specs.States.{IsScene, FitsLevel}
use Rattle.grid.specs.Squares.{Squares}
use Rattle.grid.specs.Plays.{Play, Any, stay}
use Rattle.grid.proofs.lemmas.Plays.{play-append, play_scene, play_fits, walk_backwards, walk_keeps_boxes}
use Rattle.area.specs.Area.{Area, IsNorm, at}
use Rattle.area.proofs.Nearness.{area_test, least_passing}

-- the player's own square is in the area
pub area_here : (board : Board) (s : Scene) → Area board s s.player
area_here board s = ([], stay tt)

-- a walk can be walked back
pub area_back : (board : Board) (s : Scene) (q : ℕ) → IsScene board s → Area board s q → Area board (at s q) s.player
area_back board s q scene w = let r = walk_backwards scene w.1 in (r.0, r.2)

-- two walks make one
pub area_then : (board : Board) (s : Scene) (q r : ℕ) → Area board s q → Area board (at s q) r → Area board s r
area_then board s q r v w = (v.0 ++ w.0, play-append v.1 w.1)

-- all states of an area have the same area
pub area_same : (board : Board) (s : Scene) (q r : ℕ) → IsScene board s → Area board s q
    → Area board s r ↔ Area board (at s q) r
area_same board s q r scene w =
    (λ v. area_then board (at s q) s.player r (area_back board s q scene w) v, λ v. area_then board s q r w v)

-- where a walk leads, there is a state
pub area_scene : (board : Board) (s : Scene) (q : ℕ) → IsScene board s → Area board s q → IsScene board (at s q)
area_scene board s q scene w = play_scene scene w.1

-- a walk leads to a state with the same boxes
pub walk_at : {board : Board} {ok : Scene → Type 0} {s t : Scene} {ds : List Dir} → Play board ok s ds [] t
    → t ≡ at s t.player
walk_at {t = t} p = ap (λ (b : Squares). record { boxes = b; player = t.player }) (walk_keeps_boxes p)

-- a walk leads into the area
pub walk_area : {board : Board} {s t : Scene} {ds : List Dir} → Play board Any s ds [] t → Area board s t.player
walk_area {board = board} {s = s} {t = t} {ds = ds} p =
    (ds, subst (λ (x : Scene). Play board Any s ds [] x) (walk_at p) p)

-- a normal form is the state with its player set down on the least square of the area
norm_at : (board : Board) (s n : Scene) → IsNorm board s n → n ≡ at s n.player
norm_at board s n h = ap (λ (b : Squares). record { boxes = b; player = n.player }) h.boxes

-- a state has no two normal forms
pub norm_unique : (board : Board) (s m n : Scene) → IsNorm board s m → IsNorm board s n → m ≡ n
norm_unique board s m n h k =
    let e : m.player ≡ n.player = (let a = h.least n.player k.inside in let b = k.least m.player h.inside in
    omega arith) in
    norm_at board s m h ∙ (ap (at s) e ∙ sym (norm_at board s n k))

-- each state has a normal form
pub norm_exists : (board : Board) (s : Scene) → IsScene board s → (n : Scene) × IsNorm board s n
norm_exists board s scene =
    let t = area_test board s scene in
    let l = least_passing t.0 s.player ((t.1 s.player).1 (area_here board s)) in (
      at s l.0,
      record {
        boxes = refl;
        inside = (t.1 l.0).0 l.1;
        least = λ q w. l.2 q ((t.1 q).1 w);
      },
    )

-- all states of an area have the same normal form
pub norm_along : (board : Board) (s : Scene) (q : ℕ) (n : Scene) → IsScene board s → Area board s q
    → IsNorm board s n ↔ IsNorm board (at s q) n
norm_along board s q n scene w = (
  λ h. record {
    boxes = h.boxes;
    inside = (area_same board s q n.player scene w).0 h.inside;
    least = λ r v. h.least r ((area_same board s q r scene w).1 v);
  },
  λ h. record {
    boxes = h.boxes;
    inside = (area_same board s q n.player scene w).1 h.inside;
    least = λ r v. h.least r ((area_same board s q r scene w).0 v);
  },
)

-- the same along a play without a push
pub norm_along_walk : {board : Board} {s t : Scene} {ds : List Dir} (n : Scene) → IsScene board s
    → Play board Any s ds [] t → IsNorm board s n ↔
    IsNorm board t n
norm_along_walk {board = board} {s = s} {t = t} n scene p =
    subst (λ (x : Scene). IsNorm board s n ↔ IsNorm board x n) (sym (walk_at p))
    (norm_along board s t.player n scene (walk_area p))

-- from a state one walks to its normal form, and back
pub norm_walk : {board : Board} {s n : Scene} → IsNorm board s n → (ds : List Dir) × Play board Any s ds [] n
norm_walk {board = board} {s = s} {n = n} h =
    (h.inside.0, subst (λ (x : Scene). Play board Any s h.inside.0 [] x) (sym (norm_at board s n h)) h.inside.1)

pub norm_walk_back : {board : Board} {s n : Scene} → IsScene board s → IsNorm board s n
    → (ds : List Dir) × Play board Any n ds [] s
norm_walk_back scene h = let r = walk_backwards scene (norm_walk h).1 in (r.0, r.2)

pub norm_fits : {board : Board} {s n : Scene} → FitsLevel board s → IsNorm board s n → FitsLevel board n
norm_fits fits h = play_fits fits (norm_walk h).1

-- two states have one normal form exactly where a walk leads from one to the other
pub norm_shared : {board : Board} {s t n : Scene} → IsScene board s → IsNorm board s n → IsScene board t
    → IsNorm board t n → (ds : List Dir) ×
    Play board Any s ds [] t
norm_shared sc h tc k = let a = norm_walk h in let b = norm_walk_back tc k in (a.0 ++ b.0, play-append a.1 b.1)

-- the state with its player on the least square of the area is a normal form
pub norm_found : (board : Board) (s n : Scene) (q : ℕ) → n ≡ at s q → Area board s q
    → ((r : ℕ) → Area board s r → q ≤ r) → IsNorm board s n
norm_found board s n q e w least = subst (λ (x : Scene). IsNorm board s x) (sym e) (record {
  boxes = refl;
  inside = w;
  least = least;
})

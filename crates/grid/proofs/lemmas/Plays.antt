-- Laws of plays: steps one after the other.
use Rattle.std.proofs.Common.{◌≡◌, ◌≤◌, List, [], ◌∷◌, ◌++◌, length, refl, sym, ap, subst, ◌∙◌, append_assoc}
use Rattle.std.proofs.Common.{append-nil, arith}
use Rattle.std.proofs.lemmas.List.{length-append}
use Rattle.grid.specs.declared.dir.Dir.{Dir}
use Rattle.grid.specs.declared.square.Push.{Push}
use Rattle.grid.specs.Squares.{Squares, remove, insert}
use Rattle.grid.specs.Board.{Board, Scene, Walks, Pushes, next, opposite}
use Rattle.grid.specs.States.{IsScene, FitsLevel}
use Rattle.grid.specs.Plays.{push_at, Play, stay, walk, push, Any}
use Rattle.grid.proofs.lemmas.Steps.{next_back, walk_boxes, push_boxes, scene_after_walk, scene_after_push, length-push}
use Rattle.grid.proofs.lemmas.Steps.{not_both, walk_same, push_same, same_scene, walk_back}

-- ---- plays in a row

-- a play that ends where another begins goes on by it
pub play-append : {board : Board} {ok : Scene → Type 0} {s m t : Scene} {ds es : List Dir} {ps qs : List Push}
    → Play board ok s ds ps m
    → Play board ok m es qs t → Play board ok s (ds ++ es) (ps ++ qs) t
play-append (stay o) q = q
play-append (walk o h p) q = walk o h (play-append p q)
play-append (push o h p) q = push o h (play-append p q)

-- the first state of a play is ok
pub play_first : {board : Board} {ok : Scene → Type 0} {s t : Scene} {ds : List Dir} {ps : List Push}
    → Play board ok s ds ps t → ok s
play_first (stay o) = o
play_first (walk o h p) = o
play_first (push o h p) = o

-- the last state of a play is ok
pub play_last : {board : Board} {ok : Scene → Type 0} {s t : Scene} {ds : List Dir} {ps : List Push}
    → Play board ok s ds ps t → ok t
play_last (stay o) = o
play_last (walk o h p) = play_last p
play_last (push o h p) = play_last p

-- one more step at the end, without a push
pub play_walk_on : {board : Board} {ok : Scene → Type 0} {s m t : Scene} {ds : List Dir} {ps : List Push} (d : Dir)
    → Play board ok s ds ps m
    → Walks board m d t → ok t → Play board ok s (ds ++ d ∷ []) ps t
play_walk_on {board = board} {ok = ok} {s = s} {t = t} {ds = ds} {ps = ps} d p h o =
    subst (λ (qs : List Push). Play board ok s (ds ++ d ∷ []) qs t) (append-nil ps)
    (play-append p (walk (play_last p) h (stay o)))

-- one more step at the end, a push
pub play_push_on : {board : Board} {ok : Scene → Type 0} {s m t : Scene} {ds : List Dir} {ps : List Push} (d : Dir)
    → Play board ok s ds ps m
    → Pushes board m d t → ok t → Play board ok s (ds ++ d ∷ []) (ps ++ push_at board m d ∷ []) t
play_push_on d p h o = play-append p (push (play_last p) h (stay o))

-- ---- what a play keeps

-- a play through states that are ok is one through states of which what ok says holds
pub play-map : {board : Board} {ok other : Scene → Type 0} {s t : Scene} {ds : List Dir} {ps : List Push}
    → ((x : Scene) → ok x → other x)
    → Play board ok s ds ps t → Play board other s ds ps t
play-map f (stay o) = stay (f _ o)
play-map f (walk o h p) = walk (f _ o) h (play-map f p)
play-map f (push o h p) = push (f _ o) h (play-map f p)

-- each play is one through any states
pub play_any : {board : Board} {ok : Scene → Type 0} {s t : Scene} {ds : List Dir} {ps : List Push}
    → Play board ok s ds ps t → Play board Any s ds ps t
play_any p = play-map (λ x o. tt) p

-- a play from a state of the level ends in one
pub play_scene : {board : Board} {ok : Scene → Type 0} {s t : Scene} {ds : List Dir} {ps : List Push} → IsScene board s
    → Play board ok s ds ps t
    → IsScene board t
play_scene scene (stay o) = scene
play_scene scene (walk o h p) = play_scene (scene_after_walk _ _ _ _ scene h) p
play_scene scene (push o h p) = play_scene (scene_after_push _ _ _ _ scene h) p

-- no play changes the number of boxes
pub length-play : {board : Board} {ok : Scene → Type 0} {s t : Scene} {ds : List Dir} {ps : List Push} → IsScene board s
    → Play board ok s ds ps t
    → length t.boxes ≡ length s.boxes
length-play scene (stay o) = refl
length-play scene (walk o h p) = length-play (scene_after_walk _ _ _ _ scene h) p
    ∙ ap (λ (xs : Squares). length xs) (walk_boxes _ _ _ _ h)
length-play scene (push o h p) = length-play (scene_after_push _ _ _ _ scene h) p ∙ length-push _ _ _ _ scene h

-- a play from a position that fits the level ends in one
pub play_fits : {board : Board} {ok : Scene → Type 0} {s t : Scene} {ds : List Dir} {ps : List Push} → FitsLevel board s
    → Play board ok s ds ps t
    → FitsLevel board t
play_fits fits p = record { scene = play_scene fits.scene p; boxes = length-play fits.scene p ∙ fits.boxes }

-- there are no more pushes than steps
pub length-pushes : {board : Board} {ok : Scene → Type 0} {s t : Scene} {ds : List Dir} {ps : List Push}
    → Play board ok s ds ps t → length ps ≤ length ds
length-pushes (stay o) = omega arith
length-pushes (walk o h p) = let e = length-pushes p in omega arith
length-pushes (push o h p) = let e = length-pushes p in omega arith

-- ---- a play is a function of its directions

-- two plays from one state with the same directions have the same pushes and end in the same state
pub play_same : {board : Board} {ok other : Scene → Type 0} {s t u : Scene} {ds : List Dir} {ps qs : List Push}
    → Play board ok s ds ps t
    → Play board other s ds qs u → (ps ≡ qs) × (t ≡ u)
play_same (stay o) (stay o') = (refl, refl)
play_same {board = board} {other = other} {u = u} (walk {s = s} {m = m} {d = d} {ds = ds} o h p)
    (walk {m = n} {ps = qs} o' k q) =
    play_same p (subst (λ (x : Scene). Play board other x ds qs u) (walk_same board s d n m k h) q)
play_same (walk o h p) (push o' k q) = absurd (not_both _ _ _ _ _ h k)
play_same (push o h p) (walk o' k q) = absurd (not_both _ _ _ _ _ k h)
play_same {board = board} {other = other} {u = u} (push {s = s} {m = m} {d = d} {ds = ds} o h p)
    (push {m = n} {ps = qs} o' k q) =
    let e = play_same p (subst (λ (x : Scene). Play board other x ds qs u) (push_same board s d n m k h) q) in
    (ap (λ (rs : List Push). push_at board s d ∷ rs) e.0, e.1)

-- ---- walks: plays without a push

-- a walk keeps the boxes
pub walk_keeps_boxes : {board : Board} {ok : Scene → Type 0} {s t : Scene} {ds : List Dir} → Play board ok s ds [] t
    → t.boxes ≡ s.boxes
walk_keeps_boxes (stay o) = refl
walk_keeps_boxes (walk o h p) = walk_keeps_boxes p ∙ walk_boxes _ _ _ _ h

-- what depends on the boxes alone lasts along a walk
pub walk_of_boxes : {board : Board} {ok : Scene → Type 0} {s t : Scene} {ds : List Dir} (P : Squares → Type 0)
    → P s.boxes → Play board ok s ds [] t
    → Play board (λ x. P x.boxes) s ds [] t
walk_of_boxes P here (stay o) = stay here
walk_of_boxes P here (walk o h p) = walk here h (walk_of_boxes P (subst P (sym (walk_boxes _ _ _ _ h)) here) p)

-- a walk can be walked back, through the same states
pub walk_backwards : {board : Board} {ok : Scene → Type 0} {s t : Scene} {ds : List Dir} → IsScene board s
    → Play board ok s ds [] t → (es : List Dir) ×
    (length es ≡ length ds) × Play board ok t es [] s
walk_backwards scene (stay o) = ([], refl, stay o)
walk_backwards scene (walk {d = d} o h p) =
    let r = walk_backwards (scene_after_walk _ _ _ _ scene h) p in (
      r.0 ++ opposite d ∷ [],
      (let e = length-append r.0 (opposite d ∷ []) in let f = r.1 in omega arith),
      play_walk_on (opposite d) r.2 (walk_back _ _ _ _ scene h) o,
    )

-- ---- parts of a play

-- a play cut at a push: the pushes ps, then p, then the pushes qs
pub record CutPush (board : Board) (ok : Scene → Type 0) (s : Scene) (ds : List Dir) (ps : List Push) (p : Push)
    (qs : List Push) (t : Scene) : Type 0 where
  pub before : Scene
  pub after : Scene
  pub early : List Dir
  pub late : List Dir
  pub whole : ds ≡ early ++ p.dir ∷ late
  pub first : Play board ok s early ps before
  pub pushed : Pushes board before p.dir after
  pub named : p ≡ push_at board before p.dir
  pub rest : Play board ok after late qs t

cut_first : {board : Board} {ok : Scene
    → Type 0} {s t : Scene} {ds : List Dir} {ps : List Push} (p : Push) (qs : List Push) → Play board ok s ds ps t
    → ps ≡ p ∷ qs → CutPush board ok s ds [] p qs t
cut_first p qs (stay o) e = absurd cc
cut_first p qs (walk {d = d} o h play) e =
    let c = cut_first p qs play e in
    record {
      before = c.before;
      after = c.after;
      early = d ∷ c.early;
      late = c.late;
      whole = ap (λ (es : List Dir). d ∷ es) c.whole;
      first = walk o h c.first;
      pushed = c.pushed;
      named = c.named;
      rest = c.rest;
    }
cut_first {board = board} {ok = ok} {t = t} p qs (push {s = s} {m = m} {d = d} {ds = ds} {ps = ps} o h play) e =
    let named : push_at board s d ≡ p = cc in
    let rest : ps ≡ qs = cc in
    subst (λ (x : Push). CutPush board ok s (d ∷ ds) [] x qs t) named (record {
      before = s;
      after = m;
      early = [];
      late = ds;
      whole = refl;
      first = stay o;
      pushed = h;
      named = refl;
      rest = subst (λ (rs : List Push). Play board ok m ds rs t) rest play;
    })

-- a play is cut at its first push
pub cut_first_push : {board : Board} {ok : Scene → Type 0} {s t : Scene} {ds : List Dir} (p : Push) (qs : List Push)
    → Play board ok s ds (p ∷ qs) t
    → CutPush board ok s ds [] p qs t
cut_first_push p qs play = cut_first p qs play refl

-- a play is cut at any of its pushes
pub cut_push : {board : Board} {ok : Scene
    → Type 0} (ps : List Push) (p : Push) (qs : List Push) {s t : Scene} {ds : List Dir}
    → Play board ok s ds (ps ++ p ∷ qs) t → CutPush board ok s ds ps p qs t
cut_push [] p qs play = cut_first_push p qs play
cut_push {board = board} {ok = ok} (x ∷ ps) p qs play =
    let a = cut_first_push x (ps ++ p ∷ qs) play in
    let b = cut_push ps p qs a.rest in
    record {
      before = b.before;
      after = b.after;
      early = a.early ++ x.dir ∷ b.early;
      late = b.late;
      whole = a.whole ∙ (ap (λ (es : List Dir). a.early ++ x.dir ∷ es) b.whole
          ∙ sym (append_assoc a.early (x.dir ∷ b.early) (p.dir ∷ b.late)));
      first = play-append a.first (subst (λ (y : Push). Play board ok a.before (x.dir ∷ b.early) (y ∷ ps) b.before)
          (sym a.named)
          (push (play_last a.first) a.pushed b.first));
      pushed = b.pushed;
      named = b.named;
      rest = b.rest;
    }

-- a play is cut at its last push
pub cut_last_push : {board : Board} {ok : Scene → Type 0} {s t : Scene} {ds : List Dir} (ps : List Push) (p : Push)
    → Play board ok s ds (ps ++ p ∷ []) t
    → CutPush board ok s ds ps p [] t
cut_last_push ps p play = cut_push ps p [] play

-- a list that isn't empty has a last element
pub split_last : {A : Type 0} (x : A) (xs : List A) → (ys : List A) × (y : A) × (x ∷ xs ≡ ys ++ y ∷ [])
split_last x [] = ([], x, refl)
split_last {A = A} x (y ∷ xs) =
    let r = split_last y xs in
    (x ∷ r.0, r.1, ap (λ (zs : List A). x ∷ zs) r.2)

-- ---- what the pushes alone say

-- the boxes after a push
abbrev pub pushed_boxes : Board → Squares → Push → Squares
pushed_boxes board boxes p = insert (remove boxes p.square) (next board p.square p.dir)

-- the boxes after some pushes
abbrev pub boxes_after : Board → Squares → List Push → Squares
boxes_after board boxes [] = boxes
boxes_after board boxes (p ∷ ps) = boxes_after board (pushed_boxes board boxes p) ps

-- the pushes of a play say where the boxes are after it
pub play_boxes : {board : Board} {ok : Scene → Type 0} {s t : Scene} {ds : List Dir} {ps : List Push}
    → Play board ok s ds ps t
    → t.boxes ≡ boxes_after board s.boxes ps
play_boxes (stay o) = refl
play_boxes {board = board} (walk {ps = ps} o h p) =
    play_boxes p ∙ ap (λ (xs : Squares). boxes_after board xs ps) (walk_boxes _ _ _ _ h)
play_boxes {board = board} (push {ps = ps} o h p) =
    play_boxes p ∙ ap (λ (xs : Squares). boxes_after board xs ps) (push_boxes _ _ _ _ h)

-- a push is made from the square behind the box, so its name says from where
pub push_from : (board : Board) (s : Scene) (d : Dir) (t : Scene) → IsScene board s → Pushes board s d t →
    next board (next board s.player d) (opposite d) ≡ s.player
push_from board s d t scene h = next_back board s.player d scene.player.0 (scene.boxes (next board s.player d) h.0)

-- two states with the same boxes from which the same push is made directly are the same
pub same_place : (board : Board) (a b x y : Scene) (d e : Dir) → IsScene board a → IsScene board x → a.boxes ≡ x.boxes
    → Pushes board a d b
    → Pushes board x e y → push_at board a d ≡ push_at board x e → a ≡ x
same_place board a b x y d e sa sx boxes h k named =
    let dirs : d ≡ e = ap (λ (p : Push). p.dir) named in
    let squares : next board a.player d ≡ next board x.player e = ap (λ (p : Push). p.square) named in
    let f = push_from board a d b sa h in
    let g = push_from board x e y sx k in
    let players : a.player ≡ x.player = sym f ∙ (cc (dirs, squares) ∙ g) in
    same_scene boxes players

-- plays with the same pushes, from two places of one area, end in places of one area
pub same_area : {board : Board} {ok other : Scene → Type 0} (ps : List Push) {s t u v : Scene} {ds es ws : List Dir}
    → IsScene board s
    → Play board Any s ws [] u → Play board ok s ds ps t → Play board other u es ps v
    → (fs : List Dir) × Play board Any t fs [] v
same_area [] {ws = ws} scene between one two =
    let r = walk_backwards scene (play_any one) in
    (r.0 ++ (ws ++ _), play-append r.2 (play-append between (play_any two)))
same_area {board = board} {other = other} (p ∷ ps) {v = v} scene between one two =
    let a = cut_first_push p ps one in
    let b = cut_first_push p ps two in
    let scene_a : IsScene board a.before = play_scene scene a.first in
    let scene_b : IsScene board b.before = play_scene (play_scene scene between) b.first in
    let boxes : a.before.boxes ≡ b.before.boxes =
    walk_keeps_boxes a.first ∙ (sym (walk_keeps_boxes between) ∙ sym (walk_keeps_boxes b.first)) in
    let same : a.before ≡ b.before =
    same_place board a.before a.after b.before b.after p.dir p.dir scene_a scene_b boxes a.pushed b.pushed
    (sym a.named ∙
    b.named) in
    let after : b.after ≡ a.after =
    push_same board a.before p.dir b.after a.after
    (subst (λ (x : Scene). Pushes board x p.dir b.after) (sym same) b.pushed) a.pushed in
    same_area ps (scene_after_push board a.before p.dir a.after scene_a a.pushed) (stay tt) a.rest
    (subst (λ (x : Scene). Play board other x b.late ps v) after b.rest)

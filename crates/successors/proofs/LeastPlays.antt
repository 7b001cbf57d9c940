-- The least play with given pushes has the least walk before each of them.
use Rattle.std.proofs.Common.{◌≡◌, ℕ, zero, suc, ◌+◌, ◌<◌, true, false, List, [], ◌∷◌, ◌++◌, length, take, Some}
use Rattle.std.proofs.Common.{refl, sym, ap, subst, ◌∙◌, append_assoc, append-nil, arith}
use Rattle.std.proofs.lemmas.Option.{same_Some, none-some}
use Rattle.std.specs.Prelude.{slice_get}
use Rattle.std.specs.Ordering.{is_gt}
use Rattle.grid.specs.declared.dir.Dir.{Dir}
use Rattle.grid.specs.declared.square.Push.{Push}
use Rattle.grid.specs.declared.moves.Letter.{Letter}
use Rattle.grid.specs.declared.state.Step.{Step}
use Rattle.grid.specs.declared.state.Step.TheVariants.{Blocked, Walked, Pushed}
use Rattle.grid.specs.Squares.{contains, insert, remove}
use Rattle.grid.specs.Board.{Board, Scene, IsFree, Pushes, start, dir_cmp, next, opposite}
use Rattle.grid.specs.States.{IsScene, Steps}
use Rattle.grid.specs.Plays.{Play, Any, push_at, shortlex, letters_of}
use Rattle.grid.specs.Plays.Play.{stay, walk, push}
use Rattle.grid.proofs.lemmas.Steps.{inside_grid, opposite_twice, next_back_to, push_same, not_both}
use Rattle.grid.proofs.lemmas.Orders.{not_gt_itself, not_gt_since_less, dir_cmp_total, shortlex_total, shortlex-shorter}
use Rattle.grid.proofs.lemmas.Orders.{shortlex-append_not_gt, shortlex-none}
use Rattle.grid.proofs.lemmas.Plays.{play_scene, play_push_on, walk_keeps_boxes, push_from, cut_push, cut_last_push}
use Rattle.area.specs.Area.{at}
use Rattle.area.specs.LeastWalks.{IsLeastWalk, walk_letters}
use Rattle.successors.specs.Expansion.{after_push}
use Rattle.area.specs.Pushes.{CanPush}
use Rattle.successors.proofs.lemmas.Successors.{pushes_on, after_scene}
use Rattle.successors.specs.LeastPlays.{ArePlayed, AllComeTo, WritesLeastPlay, WritesPush}

-- ---- letters

-- the letter of a step that pushes
abbrev pub pushing : Dir → Letter
pushing d = record { dir = d; push = true }

-- a play goes on by another, and so do their letters
written-append : {board : Board} {s m t : Scene} {ds es : List Dir} {ps qs : List Push} (q : Play board Any s ds ps
    m) (r : Play board Any m es qs t)
    → (w : Play board Any s (ds ++ es) (ps ++ qs) t) × (letters_of w ≡ letters_of q ++ letters_of r)
written-append (stay o) r = (r, refl)
written-append (walk {d = d} o h q) r =
    let x = written-append q r in
    (walk o h x.0, ap (λ (xs : List Letter). record { dir = d; push = false } ∷ xs) x.1)
written-append (push {d = d} o h q) r =
    let x = written-append q r in
    (push o h x.0, ap (λ (xs : List Letter). pushing d ∷ xs) x.1)

-- the letters of a walk
walk_written : {board : Board} {s t : Scene} {ds : List Dir} (q : Play board Any s ds [] t)
    → letters_of q ≡ walk_letters ds
walk_written (stay o) = refl
walk_written (walk {d = d} o h q) = ap (λ (xs : List Letter). record { dir = d; push = false } ∷ xs) (walk_written q)

-- the letter of a push
push_written : (board : Board) (s : Scene) (d : Dir) (t : Scene) → Pushes board s d t
    → (q : Play board Any s (d ∷ []) (push_at board s d ∷ []) t)
    × (letters_of q ≡ pushing d ∷ [])
push_written board s d t h = (push tt h (stay tt), refl)

-- no text comes before its first letter alone
one_first : (d : Dir) (es : List Dir) → is_gt (shortlex dir_cmp (d ∷ []) (d ∷ es)) ≡ false
one_first d [] = not_gt_itself (shortlex_total dir_cmp_total) (d ∷ [])
one_first d (e ∷ es) = not_gt_since_less (shortlex dir_cmp (d ∷ []) (d ∷ e ∷ es))
    (shortlex-shorter dir_cmp (d ∷ []) (d ∷ e ∷ es) (omega arith))

-- ---- a push after a walk

-- the square behind the box of a push
abbrev pub behind : Board → Push → ℕ
behind board p = next board p.square (opposite p.dir)

-- a push that follows a walk can be made, from the square behind its box, and its name says what it leads to
record IsPushFrom (board : Board) (s : Scene) (p : Push) (before after : Scene) : Type 0 where
  can : CanPush board s p
  stood : before ≡ at s (behind board p)
  same : after ≡ after_push board s p

pushed_from : (board : Board) (s : Scene) → IsScene board s → (p : Push) (before after : Scene) (ws : List Dir)
    → Play board Any s ws [] before
    → Pushes board before p.dir after → p ≡ push_at board before p.dir → IsPushFrom board s p before after
pushed_from board s scene p before after ws walked pushed named =
    let kept : before.boxes ≡ s.boxes = walk_keeps_boxes walked in
    let square : p.square ≡ next board before.player p.dir = ap (λ (q : Push). q.square) named in
    let place : behind board p ≡ before.player = ap (λ (q : ℕ). next board q (opposite p.dir)) square
    ∙ push_from board before p.dir after (play_scene scene walked) pushed in
    let stood : before ≡ at s (behind board p) = λ i. record { boxes = kept i; player = sym place i } in
    let moved : Pushes board (at s (behind board p)) p.dir after =
    subst (λ (x : Scene). Pushes board x p.dir after) stood pushed in
    let faced : next board (behind board p) p.dir ≡ p.square =
    sym (square ∙ ap (λ (x : Scene). next board x.player p.dir) stood) in
    let box : contains s.boxes p.square ≡ true = subst (λ (q : ℕ). contains s.boxes q ≡ true) faced moved.0 in
    let free : IsFree board s.boxes (next board p.square p.dir) =
    subst (λ (q : ℕ). IsFree board s.boxes (next board q p.dir)) faced moved.1 in
    record {
      can = record {
        there = box;
        behind = (ws, subst (λ (x : Scene). Play board Any s ws [] x) stood walked);
        ahead =
            free;
      };
      stood = stood;
      same = subst (λ (q : ℕ). after ≡ record { boxes = insert (remove s.boxes q) (next board q p.dir); player = q })
          faced moved.2;
    }

-- a push that can be made is made by a step
pub step_pushes : (board : Board) (s : Scene) (d : Dir) (did : Step) (t u : Scene) → Pushes board s d u
    → Steps board s d did t → t ≡ u
step_pushes board s d Blocked t u h step = absurd (step.2 u h)
step_pushes board s d Walked t u h step = absurd (not_both board s d t u step h)
step_pushes board s d Pushed t u h step = push_same board s d t u step h

-- so the push is made, once the player stands behind the box
pub pushed_on : (board : Board) (s : Scene) → IsScene board s → (p : Push) → CanPush board s p
    → (from t : Scene) (did : Step) → from ≡ at s (behind board p)
    → Steps board from p.dir did t → t ≡ after_push board s p
pushed_on board s scene p can from t did stood step = grind (arith, step_pushes, pushes_on)

-- the square of a box that can be pushed is in the grid
pub box_inside : (board : Board) (s : Scene) → IsScene board s → (p : Push) → CanPush board s p
    → p.square < length board.cells
box_inside board s scene p can = inside_grid board p.square (scene.boxes p.square can.there)

-- the square behind it is free
pub behind_free : (board : Board) (s : Scene) → IsScene board s → (p : Push) → CanPush board s p
    → IsFree board s.boxes (behind board p)
behind_free board s scene p can = (play_scene scene can.behind.1).player

-- ---- least plays

-- without a push the least play is none at all
pub none_written : (board : Board) → WritesLeastPlay board [] (start board) []
none_written board = record {
  dirs = [];
  play = stay tt;
  written = refl;
  least = λ es u play. shortlex-none dir_cmp es;
  common = λ es u play. ([], es, refl, stay tt, play);
}

-- what can be pushed next in a play with more pushes
pub next_possible : (board : Board) (ps : List Push) (s : Scene) (xs : List Letter) → WritesLeastPlay board ps s xs
    → IsScene board s
    → (p : Push) (rest : List Push) → ArePlayed board (ps ++ p ∷ rest) → CanPush board s p
next_possible board ps s xs w scene p rest played =
    let c = cut_push ps p rest played.2 in
    let f = w.common c.early c.before c.first in
    (pushed_from board s scene p c.before c.after f.1 f.4 c.pushed c.named).can

-- one more push, after the least walk behind its box
module _ (board : Board) (ps : List Push) (s : Scene) (xs : List Letter) (w : WritesLeastPlay board ps s xs)
    (scene : IsScene board s) (p : Push)
    (can : CanPush board s p) (ws : List Dir) (least : IsLeastWalk board s ws (behind board p)) where
  abbrev from : Scene
  from = at s (behind board p)

  abbrev whole_dirs : List Dir
  whole_dirs = (w.dirs ++ ws) ++ p.dir ∷ []

  abbrev whole_letters : List Letter
  whole_letters = (xs ++ walk_letters ws) ++ pushing p.dir ∷ []

  named : push_at board from p.dir ≡ p
  named =
      let arrived = (play_scene scene can.behind.1).player.0 in
      let back = next_back_to board p.square from.player (opposite p.dir) refl
      (scene.boxes p.square can.there) arrived in
      let faced : next board from.player p.dir ≡ p.square =
      subst (λ (d : Dir). next board from.player d ≡ p.square) (opposite_twice p.dir) back in
      λ i. record { square = faced i; dir = p.dir }

  whole : (q : Play board Any (start board) whole_dirs (ps ++ p ∷ [])
      (after_push board s p)) × (letters_of q ≡ whole_letters)
  whole =
      let a = written-append w.play least.walk in
      let step = push_written board from p.dir (after_push board s p) (pushes_on board s scene p can) in
      let b = written-append a.0 step.0 in
      let walked : letters_of a.0 ≡ xs ++ walk_letters ws =
      a.1 ∙ (ap (λ (us : List Letter). us ++ letters_of least.walk) w.written
      ∙ ap (λ (us : List Letter). xs ++ us) (walk_written least.walk)) in
      let text : letters_of b.0 ≡ whole_letters = b.1 ∙ (ap (λ (us : List Letter). us ++ letters_of step.0) walked
      ∙ ap (λ (us : List Letter). (xs ++ walk_letters ws) ++ us) step.1) in
      let pushes : (ps ++ []) ++ push_at board from p.dir ∷ [] ≡ ps ++ p ∷ [] = λ i. append-nil ps i ++ named i ∷ [] in
      subst (λ (qs : List Push). (q : Play board Any (start board) whole_dirs qs (after_push board s p))
      × (letters_of q ≡ whole_letters)) pushes (b.0, text)

  whole_least : (es : List Dir) (u : Scene) → Play board Any (start board) es (ps ++ p ∷ []) u
      → is_gt (shortlex dir_cmp whole_dirs es) ≡ false
  whole_least es u play =
      let c = cut_last_push ps p play in
      let f = w.common c.early c.before c.first in
      let h = pushed_from board s scene p c.before c.after f.1 f.4 c.pushed c.named in
      let front = w.least f.0 s f.3 in
      let between = least.least f.1 (subst (λ (x : Scene). Play board Any s f.1 [] x) h.stood f.4) in
      let parts : es ≡ (f.0 ++ f.1) ++ p.dir ∷ c.late = c.whole ∙ ap (λ (y : List Dir). y ++ p.dir ∷ c.late) f.2 in
      subst (λ (y : List Dir). is_gt (shortlex dir_cmp whole_dirs y) ≡ false) (sym parts)
      (shortlex-append_not_gt dir_cmp (w.dirs ++ ws) (f.0 ++ f.1) (p.dir ∷ []) (p.dir ∷ c.late)
      (shortlex-append_not_gt dir_cmp w.dirs f.0 ws f.1 front between) (one_first p.dir c.late))

  whole_common : AllComeTo board (ps ++ p ∷ []) (after_push board s p)
  whole_common es u play =
      let c = cut_last_push ps p play in
      let f = w.common c.early c.before c.first in
      let h = pushed_from board s scene p c.before c.after f.1 f.4 c.pushed c.named in
      let front = play_push_on p.dir c.first c.pushed tt in
      let renamed : Play board Any (start board) (c.early ++ p.dir ∷ []) (ps ++ p ∷ []) c.after =
      subst (λ (y : Push). Play board Any (start board) (c.early ++ p.dir ∷ []) (ps ++ y ∷ []) c.after)
      (sym c.named) front in (
        c.early ++ p.dir ∷ [],
        c.late,
        c.whole ∙ sym (append_assoc c.early (p.dir ∷ []) c.late),
        subst (λ (x : Scene). Play board Any (start board) (c.early ++ p.dir ∷ []) (ps ++ p ∷ []) x) h.same renamed,
        subst (λ (x : Scene). Play board Any x c.late [] u) h.same c.rest,
      )

  whole_written : WritesLeastPlay board (ps ++ p ∷ []) (after_push board s p) whole_letters
  whole_written = grind (arith, whole, whole_least, whole_common)

-- the letters of the least play with one more push
pub push_more : (board : Board) (ps : List Push) (s : Scene) (xs ys : List Letter) → WritesLeastPlay board ps s xs
    → IsScene board s → (p : Push)
    → CanPush board s p → WritesPush board s p xs ys → WritesLeastPlay board (ps ++ p ∷ []) (after_push board s p) ys
push_more board ps s xs ys w scene p can step = grind (arith, whole_written)

-- ---- the place of a push in a list

place_split-suc : {A : Type 0} (xs : List A) (i : ℕ) (x : A) → slice_get xs i ≡ Some x →
    (take (suc i) xs ≡ take i xs ++ x ∷ []) × ((rest : List A) × (xs ≡ take i xs ++ x ∷ rest))
place_split-suc [] i x e = absurd (none-some x e)
place_split-suc (y ∷ xs) zero x e = let same = same_Some y x e in (ap (λ z. z ∷ []) same, (xs, ap (λ z. z ∷ xs) same))
place_split-suc (y ∷ xs) (suc i) x e = grind (arith, place_split-suc xs i x e)

-- what stands before a place, and behind it
pub place_split : {A : Type 0} (xs : List A) (i : ℕ) (x : A) → slice_get xs i ≡ Some x →
    (take (i + 1) xs ≡ take i xs ++ x ∷ []) × ((rest : List A) × (xs ≡ take i xs ++ x ∷ rest))
place_split xs i x e =
    let r = place_split-suc xs i x e in
    let next : i + 1 ≡ suc i = omega arith in
    (ap (λ (k : ℕ). take k xs) next ∙ r.0, r.1)

-- the next push of a list that is played can be made
pub possible_at : (board : Board) (pushes : List Push) (i : ℕ) (p : Push) → slice_get pushes i ≡ Some p
    → ArePlayed board pushes
    → (s : Scene) (xs : List Letter) → WritesLeastPlay board (take i pushes) s xs → IsScene board s → CanPush board s p
possible_at board pushes i p here played s xs w scene =
    let parts = place_split pushes i p here in
    next_possible board (take i pushes) s xs w scene p parts.1.0 (subst (ArePlayed board) parts.1.1 played)

-- such a push leads to the least play with one more push
pub more_at : (board : Board) (pushes : List Push) (i : ℕ) (p : Push) → slice_get pushes i ≡ Some p
    → ArePlayed board pushes
    → (s t : Scene) (xs ys : List Letter) → WritesLeastPlay board (take i pushes) s xs → IsScene board s
    → t ≡ after_push board s p
    → WritesPush board s p xs ys → WritesLeastPlay board (take (i + 1) pushes) t ys × IsScene board t
more_at board pushes i p here played s t xs ys w scene after step =
    let can = possible_at board pushes i p here played s xs w scene in
    let parts = place_split pushes i p here in
    let more = push_more board (take i pushes) s xs ys w scene p can step in (
      subst (λ (x : Scene). WritesLeastPlay board (take (i + 1) pushes) x ys) (sym after)
          (subst (λ (ps : List Push). WritesLeastPlay board ps (after_push board s p) ys) (sym parts.0) more),
      subst (IsScene board) (sym after) (after_scene board s scene p can),
    )

-- Laws of squares beside each other, and of single steps.
use Rattle.std.proofs.Common.{◌≡◌, ◌≢◌, ℕ, zero, suc, ◌+◌, ◌-◌, ◌%◌, ◌<◌, ◌≤◌, Bool, true, false, cond, eqb, ltb}
use Rattle.std.proofs.Common.{length, ◌⊎◌, inl, inr, refl, sym, ap, subst, ◌∙◌, arith}
use Rattle.std.proofs.Math.Nat.{zero-mod}
use Rattle.std.proofs.lemmas.Bool.{eqb-false, ltb-true, ltb-false, lt-ltb, le-ltb, cases_lt, cond_both, true≢false}
use Rattle.std.proofs.lemmas.List.{get_or_past}
use Rattle.grid.specs.declared.dir.Dir.{Dir}
use Rattle.grid.specs.declared.dir.Dir.TheVariants.{D, L, R, U}
use Rattle.grid.specs.declared.cell.Cell.TheVariants.{Wall}
use Rattle.grid.specs.declared.state.Step.{Step}
use Rattle.grid.specs.declared.state.Step.TheVariants.{Blocked, Walked, Pushed}
use Rattle.grid.specs.Squares.{Squares, contains, remove, insert}
use Rattle.grid.specs.Board.{Board, Scene, IsFree, Walks, Pushes, is_wall, next, opposite}
use Rattle.grid.specs.States.{IsScene, Steps}
use Rattle.grid.proofs.lemmas.Squares.{contains-insert_here, contains-insert_other, contains-insert_cases}
use Rattle.grid.proofs.lemmas.Squares.{contains-remove_here, contains-remove_other, contains-remove_parts}
use Rattle.grid.proofs.lemmas.Squares.{is_rising-insert, is_rising-remove, length-moved}

-- ---- squares beside each other

-- outside the grid everything is a wall
pub wall_outside : (board : Board) (q : ℕ) → length board.cells ≤ q → is_wall board q ≡ true
unfolding is_wall
wall_outside board q le = rw (get_or_past board.cells q Wall le) refl

-- what is no wall is inside the grid
pub inside_grid : (board : Board) (q : ℕ) → is_wall board q ≡ false → q < length board.cells
inside_grid board q open_here = elim (cases_lt q (length board.cells)) [
  | inl lt ↦ lt
  | inr le ↦ absurd (true≢false (sym (wall_outside board q le) ∙ open_here))
]

-- the number past the grid is a wall
pub wall_at_end : (board : Board) → is_wall board (length board.cells) ≡ true
wall_at_end board = wall_outside board (length board.cells) (omega arith)

-- the next square of a square of the grid is in the grid, or the number of cells
pub next_bound : (board : Board) (q : ℕ) (d : Dir) → q < length board.cells → next board q d ≤ length board.cells
unfolding next
next_bound board q D lt = cond_both (ltb (q + board.cols) (length board.cells)) (q + board.cols) (length board.cells)
    (λ x. x ≤ length board.cells)
    (λ e. let l = ltb-true _ _ e in omega arith) (λ e. omega arith)
next_bound board q L lt = cond_both (eqb (q % board.cols) 0) (length board.cells) (q - 1) (λ x. x ≤ length board.cells)
    (λ e. omega arith) (λ e. omega arith)
next_bound board q R lt = cond_both (eqb (suc q % board.cols) 0) (length board.cells) (suc q)
    (λ x. x ≤ length board.cells) (λ e. omega arith)
    (λ e. omega arith)
next_bound board q U lt = cond_both (ltb q board.cols) (length board.cells) (q - board.cols)
    (λ x. x ≤ length board.cells) (λ e. omega arith) (λ e. omega arith)

-- the opposite of the opposite is the direction itself
pub opposite_twice : (d : Dir) → opposite (opposite d) ≡ d
opposite_twice D = refl
opposite_twice L = refl
opposite_twice R = refl
opposite_twice U = refl

-- what one comes back to, direction by direction
back_D : (cols len q : ℕ) (b : Bool) → cond b (q + cols) len < len
    → cond (ltb (cond b (q + cols) len) cols) len (cond b (q + cols) len - cols) ≡ q
back_D cols len q true lt = rw (le-ltb (q + cols) cols (omega arith)) (omega arith)
back_D cols len q false lt = absurd (omega arith)

back_U : (cols len q : ℕ) (b : Bool) → q < len → (b ≡ false → cols ≤ q) → cond b len (q - cols) < len →
    cond (ltb (cond b len (q - cols) + cols) len) (cond b len (q - cols) + cols) len ≡ q
back_U cols len q true inside above lt = absurd (omega arith)
back_U cols len q false inside above lt =
    let le : cols ≤ q = above refl in
    let e : q - cols + cols ≡ q = omega arith in
    rw (e, lt-ltb q len inside) refl

back_L : (cols len q : ℕ) (b : Bool) → eqb (q % cols) 0 ≡ b → cond b len (q - 1) < len →
    cond (eqb (suc (cond b len (q - 1)) % cols) 0) len (suc (cond b len (q - 1))) ≡ q
back_L cols len q true test lt = absurd (omega arith)
back_L cols len zero false test lt = absurd (eqb-false (zero % cols) 0 test (zero-mod cols))
back_L cols len (suc q) false test lt =
    let e : suc (suc q - 1) ≡ suc q = omega arith in
    rw (e, test) refl

back_R : (cols len q : ℕ) (b : Bool) → eqb (suc q % cols) 0 ≡ b → cond b len (suc q) < len →
    cond (eqb (cond b len (suc q) % cols) 0) len (cond b len (suc q) - 1) ≡ q
back_R cols len q true test lt = absurd (omega arith)
back_R cols len q false test lt = rw test (omega arith)

-- from the next square one comes back, where both are in the grid
pub next_back_inside : (board : Board) (q : ℕ) (d : Dir) → q < length board.cells → next board q d < length board.cells
    → next board (next board q d) (opposite d) ≡ q
unfolding next
next_back_inside board q D inside lt =
    back_D board.cols (length board.cells) q (ltb (q + board.cols) (length board.cells)) lt
next_back_inside board q L inside lt = back_L board.cols (length board.cells) q (eqb (q % board.cols) 0) refl lt
next_back_inside board q R inside lt = back_R board.cols (length board.cells) q (eqb (suc q % board.cols) 0) refl lt
next_back_inside board q U inside lt =
    back_U board.cols (length board.cells) q (ltb q board.cols) inside (ltb-false q board.cols) lt

-- from the next square one comes back, where neither is a wall
pub next_back : (board : Board) (q : ℕ) (d : Dir) → is_wall board q ≡ false → is_wall board (next board q d) ≡ false →
    next board (next board q d) (opposite d) ≡ q
next_back board q d here there =
    next_back_inside board q d (inside_grid board q here) (inside_grid board (next board q d) there)

-- the same, where the next square has a name
pub next_back_to : (board : Board) (q r : ℕ) (d : Dir) → next board q d ≡ r → is_wall board q ≡ false
    → is_wall board r ≡ false → next board r (opposite d) ≡ q
next_back_to board q r d e here there =
    subst (λ (z : ℕ). next board z (opposite d) ≡ q) e (next_back board q d here (rw e there))

-- ---- one step

-- the state with these boxes and this player
abbrev pub scene_of : Squares → ℕ → Scene
scene_of boxes player = record { boxes = boxes; player = player }

-- the square that the player goes to
pub walk_player : (board : Board) (s : Scene) (d : Dir) (t : Scene) → Walks board s d t
    → t.player ≡ next board s.player d
walk_player board s d t h = ap (λ (x : Scene). x.player) h.1

-- a walk leaves the boxes
pub walk_boxes : (board : Board) (s : Scene) (d : Dir) (t : Scene) → Walks board s d t → t.boxes ≡ s.boxes
walk_boxes board s d t h = ap (λ (x : Scene). x.boxes) h.1

-- one box has moved
pub push_boxes : (board : Board) (s : Scene) (d : Dir) (t : Scene) → Pushes board s d t →
    t.boxes ≡ insert (remove s.boxes (next board s.player d)) (next board (next board s.player d) d)
push_boxes board s d t h = ap (λ (x : Scene). x.boxes) h.2

moved_arrived : (xs : Squares) (q r : ℕ) → contains (insert (remove xs q) r) r ≡ true
moved_arrived xs q r = contains-insert_here (remove xs q) r

-- a box that is in the set goes to a square that isn't, so to another one
moved_apart : (xs : Squares) (q r : ℕ) → contains xs q ≡ true → contains xs r ≡ false → q ≢ r
moved_apart xs q r here out e = true≢false (sym here ∙ (ap (λ (z : ℕ). contains xs z) e ∙ out))

moved_left : (xs : Squares) (q r : ℕ) → contains xs q ≡ true → contains xs r ≡ false
    → contains (insert (remove xs q) r) q ≡ false
moved_left xs q r here out = contains-insert_other (remove xs q) r q (λ e. moved_apart xs q r here out (sym e))
    ∙ contains-remove_here xs q

-- a box that moves leaves all other squares as they are
pub contains-moved_other : (xs : Squares) (q r x : ℕ) → q ≢ x → r ≢ x
    → contains (insert (remove xs q) r) x ≡ contains xs x
contains-moved_other xs q r x left arrived = contains-insert_other (remove xs q) r x arrived
    ∙ contains-remove_other xs q x left

moved_cases : (xs : Squares) (q r x : ℕ) → contains (insert (remove xs q) r) x ≡ true
    → (r ≡ x) ⊎ ((q ≢ x) × (contains xs x ≡ true))
moved_cases xs q r x here = elim (contains-insert_cases (remove xs q) r x here) [
  | inl e ↦ inl e
  | inr kept ↦ inr (contains-remove_parts xs q x kept)
]

-- after a push a box stands on the square beyond
pub push_arrived : (board : Board) (s : Scene) (d : Dir) (t : Scene) → Pushes board s d t
    → contains t.boxes (next board (next board s.player d) d) ≡ true
push_arrived board s d t h = rw (push_boxes board s d t h)
    (moved_arrived s.boxes (next board s.player d) (next board (next board s.player d) d))

-- and none on the square that the player goes to
pub push_left : (board : Board) (s : Scene) (d : Dir) (t : Scene) → Pushes board s d t
    → contains t.boxes (next board s.player d) ≡ false
push_left board s d t h = rw (push_boxes board s d t h)
    (moved_left s.boxes (next board s.player d) (next board (next board s.player d) d) h.0 h.1.1)

-- each other square has a box as before
pub push_other : (board : Board) (s : Scene) (d : Dir) (t : Scene) → Pushes board s d t → (x : ℕ)
    → next board s.player d ≢ x
    → next board (next board s.player d) d ≢ x → contains t.boxes x ≡ contains s.boxes x
push_other board s d t h x left arrived =
    rw (push_boxes board s d t h) (contains-moved_other s.boxes (next board s.player d)
    (next board (next board s.player d) d) x left arrived)

-- a box that the push did not take stays
pub push_kept : (board : Board) (s : Scene) (d : Dir) (t : Scene) → Pushes board s d t → (x : ℕ)
    → next board s.player d ≢ x → contains s.boxes x ≡ true
    → contains t.boxes x ≡ true
push_kept board s d t h x left here =
    push_other board s d t h x left (λ e. true≢false (sym here ∙ (ap (λ (z : ℕ). contains s.boxes z) (sym e) ∙ h.1.1)))
    ∙ here

-- a box after a push is the one that went there, or one that stood there before
pub push_cases : (board : Board) (s : Scene) (d : Dir) (t : Scene) → Pushes board s d t → (x : ℕ)
    → contains t.boxes x ≡ true
    → (next board (next board s.player d) d ≡ x) ⊎ ((next board s.player d ≢ x) × (contains s.boxes x ≡ true))
push_cases board s d t h x here = moved_cases s.boxes (next board s.player d) (next board (next board s.player d) d) x
    (ap (λ (xs : Squares). contains xs x) (sym (push_boxes board s d t h)) ∙ here)

-- ---- states stay states

-- a step without a push leads from a state to a state
pub scene_after_walk : (board : Board) (s : Scene) (d : Dir) (t : Scene) → IsScene board s → Walks board s d t
    → IsScene board t
scene_after_walk board s d t scene h = subst (λ (x : Scene). IsScene board x) (sym h.1) (record {
  rising = scene.rising;
  boxes = scene.boxes;
  player = h.0;
})

-- a push leads from a state to a state
pub scene_after_push : (board : Board) (s : Scene) (d : Dir) (t : Scene) → IsScene board s → Pushes board s d t
    → IsScene board t
scene_after_push board s d t scene h =
    let q = next board s.player d in
    let r = next board q d in
    subst (λ (x : Scene). IsScene board x) (sym h.2) (record {
      rising = is_rising-insert (remove s.boxes q) r (is_rising-remove s.boxes q scene.rising);
      boxes = λ x here. elim (moved_cases s.boxes q r x here) [
        | inl e ↦ subst (λ (z : ℕ). is_wall board z ≡ false) e h.1.0
        | inr kept ↦ scene.boxes x kept.1
      ];
      player = (scene.boxes q h.0, moved_left s.boxes q r h.0 h.1.1);
    })

-- each step leads from a state to a state
pub scene_after_step : (board : Board) (s : Scene) (d : Dir) (did : Step) (t : Scene) → IsScene board s
    → Steps board s d did t → IsScene board t
scene_after_step board s d Blocked t scene h = subst (λ (x : Scene). IsScene board x) (sym h.0) scene
scene_after_step board s d Walked t scene h = scene_after_walk board s d t scene h
scene_after_step board s d Pushed t scene h = scene_after_push board s d t scene h

-- ---- the number of boxes

-- a push keeps the number of boxes
pub length-push : (board : Board) (s : Scene) (d : Dir) (t : Scene) → IsScene board s → Pushes board s d t
    → length t.boxes ≡ length s.boxes
length-push board s d t scene h = ap (λ (xs : Squares). length xs) (push_boxes board s d t h) ∙
    length-moved s.boxes (next board s.player d) (next board (next board s.player d) d) scene.rising h.0 h.1.1

-- no step changes the number of boxes
pub length-step : (board : Board) (s : Scene) (d : Dir) (did : Step) (t : Scene) → IsScene board s
    → Steps board s d did t → length t.boxes ≡ length s.boxes
length-step board s d Blocked t scene h = ap (λ (x : Scene). length x.boxes) h.0
length-step board s d Walked t scene h = ap (λ (xs : Squares). length xs) (walk_boxes board s d t h)
length-step board s d Pushed t scene h = length-push board s d t scene h

-- ---- each step is decided

-- a square is free, or it is a wall or a box's
pub cases_free : (board : Board) (boxes : Squares) (q : ℕ)
    → IsFree board boxes q ⊎ ((is_wall board q ≡ true) ⊎ (contains boxes q ≡ true))
cases_free board boxes q = split (is_wall board q) (contains boxes q) refl refl
  where
    split : (w c : Bool) → is_wall board q ≡ w → contains boxes q ≡ c
        → IsFree board boxes q ⊎ ((is_wall board q ≡ true) ⊎ (contains boxes q ≡ true))
    split true c e f = inr (inl e)
    split false true e f = inr (inr f)
    split false false e f = inl (e, f)

-- no step of one kind is one of the other
pub not_both : (board : Board) (s : Scene) (d : Dir) (t u : Scene) → Walks board s d t → Pushes board s d u → ⊥
not_both board s d t u w p = true≢false (sym p.0 ∙ w.0.1)

-- a step onto a free square
pub walk_to : (board : Board) (s : Scene) (d : Dir) → IsFree board s.boxes (next board s.player d) →
    Walks board s d (record { boxes = s.boxes; player = next board s.player d })
walk_to board s d free = (free, refl)

-- a step onto a box with a free square beyond
pub push_to : (board : Board) (s : Scene) (d : Dir) → contains s.boxes (next board s.player d) ≡ true →
    IsFree board s.boxes (next board (next board s.player d) d) →
    Pushes board s d (record {
      boxes =
          insert (remove s.boxes (next board s.player d)) (next board (next board s.player d) d);
      player =
          next board s.player d;
    })
push_to board s d here free = (here, free, refl)

-- what a step does, and the state after it
pub step_is : (board : Board) (s : Scene) (d : Dir) → IsScene board s
    → (did : Step) × (t : Scene) × Steps board s d did t
step_is board s d scene = elim (cases_free board s.boxes q) [
  | inl free ↦ (Walked, _, walk_to board s d free)
  | inr (inl wall) ↦
      (Blocked, s, (refl, λ m w. true≢false (sym wall ∙ w.0.0), λ m p. true≢false (sym wall ∙ scene.boxes q p.0)))
  | inr (inr box) ↦ elim (cases_free board s.boxes r) [
    | inl free ↦ (Pushed, _, push_to board s d box free)
    | inr (inl wall) ↦ (Blocked, s, (refl, λ m w. true≢false (sym box ∙ w.0.1), λ m p. true≢false (sym wall ∙ p.1.0)))
    | inr (inr other) ↦ (Blocked, s, (refl, λ m w. true≢false (sym box ∙ w.0.1), λ m p. true≢false (sym other ∙ p.1.1)))
  ]
]
  where
    q : ℕ
    q = next board s.player d

    r : ℕ
    r = next board q d

-- a walk in a direction leads to one state
pub walk_same : (board : Board) (s : Scene) (d : Dir) (t u : Scene) → Walks board s d t → Walks board s d u → t ≡ u
walk_same board s d t u h k = h.1 ∙ sym k.1

-- a push in a direction leads to one state
pub push_same : (board : Board) (s : Scene) (d : Dir) (t u : Scene) → Pushes board s d t → Pushes board s d u → t ≡ u
push_same board s d t u h k = h.2 ∙ sym k.2

-- states with the same boxes and the same player are equal
pub same_scene : {a b : Squares} {p q : ℕ} → a ≡ b → p ≡ q → scene_of a p ≡ scene_of b q
same_scene e f = cc

-- a walk is walked back: from a state, a step the other way leads there again
pub walk_back : (board : Board) (s : Scene) (d : Dir) (t : Scene) → IsScene board s → Walks board s d t
    → Walks board t (opposite d) s
walk_back board s d t scene h =
    let back : next board t.player (opposite d) ≡ s.player =
    rw (walk_player board s d t h) (next_back board s.player d scene.player.0 h.0.0) in
    let free : IsFree board t.boxes s.player = rw (walk_boxes board s d t h) scene.player in
    (rw back free, same_scene (sym (walk_boxes board s d t h)) (sym back))

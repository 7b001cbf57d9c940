-- Walks that are read off the marks of a search, and that none comes before them.
use Rattle.std.proofs.Common.{◌≡◌, ◌≢◌, ℕ, suc, ◌+◌, ◌<◌, ◌≤◌, true, false, inl, inr, List, [], ◌∷◌, ◌++◌, length}
use Rattle.std.proofs.Common.{get_or, append_assoc, append-nil, Result, Ok, Err, OnOk, is_ok, refl, sym, ap, subst, ◌∙◌}
use Rattle.std.proofs.Common.{arith}
use Rattle.std.specs.Ordering.{is_gt}
use Rattle.std.specs.Cmp.Lexicographic.{slice_cmp}
use Rattle.std.proofs.lemmas.Bool.{cases_lt, false≢true}
use Rattle.grid.specs.declared.dir.Dir.{Dir}
use Rattle.grid.specs.declared.moves.Letter.{Letter}
use Rattle.grid.specs.Board.{Board, Scene, IsFree, next, opposite, dir_number, dir_cmp}
use Rattle.grid.specs.States.{IsScene}
use Rattle.grid.specs.Squares.{Squares, contains}
use Rattle.grid.specs.Plays.{Play, Any, stay, walk, shortlex}
use Rattle.grid.proofs.lemmas.Steps.{next_back_to, walk_player, walk_boxes, walk_to, scene_after_walk}
use Rattle.grid.proofs.lemmas.Orders.{nat_cmp-less, shortlex-shorter, shortlex-even, not_gt_since_less, not_gt_itself}
use Rattle.grid.proofs.lemmas.Orders.{dir_cmp_total, shortlex_total, shortlex-append_not_gt, shortlex-none, then-less}
use Rattle.area.specs.LeastWalks.{IsLeastWalk, walk_letters, IsWalk}
use Rattle.area.specs.inside.Descent.{IsDown, IsFirstDown, IsDescent, IsDescending, arrived, onward}
use Rattle.area.specs.inside.Spread.{IsSpread, IsSearched}
use Rattle.grid.proofs.lemmas.Directions.{dir_same}
use Rattle.area.proofs.Reached.{scene_at, reached_free, reached_step, walk_home}

-- the letters of one step more
pub walk_letters-more : (ds : List Dir) (d : Dir) → walk_letters (ds ++ d ∷ []) ≡ walk_letters ds ++ record {
  dir =
      d;
  push = false;
} ∷ []
walk_letters-more [] d = refl
walk_letters-more (e ∷ ds) d = ap (λ (xs : List Letter). record { dir = e; push = false } ∷ xs) (walk_letters-more ds d)

module _ (board : Board) (base to : ℕ) (mark : ℕ → ℕ) (sp : IsSpread board base to mark) where
  -- a reached square that is not where the search began was reached by a step
  pub reached_later : (q : ℕ) → base < mark q → q ≢ to → suc base < mark q
  reached_later q lt ne = grind arith

  -- from such a square some direction goes down
  pub goes_down : (q : ℕ) → base < mark q → q ≢ to → (d : Dir) × IsDown board mark q d
  goes_down q lt ne = elim (sp.came q lt) [
    | inl e ↦ absurd (ne e)
    | inr h ↦
        (let back : next board q (opposite h.1) ≡ h.0 =
        next_back_to board h.0 q h.1 h.3 (sp.free h.0 h.2) (sp.free q lt) in
        let s : mark q ≡ suc (mark h.0) = h.4 in
        (opposite h.1, ap (λ x. suc (mark x)) back ∙ sym s))
  ]

-- one step more
pub descending_more : (board : Board) (base to : ℕ) (mark : ℕ → ℕ) (first q : ℕ) (before now : List Letter) (d : Dir) →
    IsDescending board base to mark first q before now → base < mark (next board q d) → IsFirstDown board mark q d →
    IsDescending board base to mark first (next board q d) before (now ++ record { dir = d; push = false } ∷ [])
descending_more board base to mark first q before now d s lt down =
    let l : Letter = record { dir = d; push = false } in
    record {
      ds = s.ds ++ d ∷ [];
      letters = ap (λ (xs : List Letter). xs ++ l ∷ []) s.letters ∙
          (append_assoc before (walk_letters s.ds) (l ∷ [])
          ∙ ap (λ (xs : List Letter). before ++ xs) (sym (walk_letters-more s.ds d)));
      rest = λ es h. subst (λ (xs : List Dir). IsDescent board base to mark first xs)
          (sym (append_assoc s.ds (d ∷ []) es))
          (s.rest (d ∷ es) (onward lt down h));
    }

-- after the last step
pub descending_last : (board : Board) (base to : ℕ) (mark : ℕ → ℕ) (first : ℕ) (before now : List Letter) →
    IsDescending board base to mark first to before now
    → (ds : List Dir) × IsDescent board base to mark first ds × (now ≡ before ++ walk_letters ds)
descending_last board base to mark first before now s = (
  s.ds,
  subst (λ (xs : List Dir). IsDescent board base to mark first xs) (append-nil s.ds)
      (s.rest [] arrived),
  s.letters,
)

module _ (board : Board) (boxes : Squares) (base to : ℕ) (mark : ℕ → ℕ) (sp : IsSpread board base to mark)
    (bl : (q : ℕ) →
    (contains boxes q ≡ true → mark q ≡ base) × (contains boxes q ≡ false → mark q ≢ base)) where
  -- a descent is a walk
  pub descent_walk : {q : ℕ} {ds : List Dir} → IsDescent board base to mark q ds
      → Play board Any (scene_at boxes q) ds [] (scene_at boxes to)
  descent_walk arrived = stay tt
  descent_walk (onward {q = q} {d = d} lt down rest) =
      walk tt (walk_to board (scene_at boxes q) d (reached_free board boxes base to mark sp bl (next board q d) lt))
      (descent_walk rest)

  -- a descent has as many steps as its first square's mark says
  pub descent_length : {q : ℕ} {ds : List Dir} → IsDescent board base to mark q ds → mark q ≡ suc base + length ds
  descent_length arrived = let e : mark to ≡ suc base = sp.start in omega arith
  descent_length (onward {q = q} {d = d} {ds = ds} lt down rest) = grind (arith, descent_length rest)

  -- no walk comes before a descent
  pub descent_least : {s t : Scene} {q : ℕ} {ds es : List Dir} → IsDescent board base to mark q ds → s.boxes ≡ boxes
      → s.player ≡ q → t.player ≡ to
      → IsScene board s → Play board Any s es [] t → is_gt (shortlex dir_cmp ds es) ≡ false
  descent_least {es = es} arrived same at end scene p = shortlex-none dir_cmp es
  descent_least {s = s} (onward {q = q} {d = d} {ds = ds} lt down rest) same at end scene (stay o) = grind arith
  descent_least {s = s} {t = t} (onward {q = q} {d = d} {ds = ds} lt down rest) same at end scene
      (walk {m = m} {d = e} {ds = es} o h p) =
      let there : m.player ≡ next board s.player e = walk_player board s e m h in
      let same' : m.boxes ≡ boxes = walk_boxes board s e m h ∙ same in
      let scene' : IsScene board m = scene_after_walk board s e m scene h in
      let w = walk_home board boxes base to mark sp bl same' end scene' p in
      let back : next board m.player (opposite e) ≡ s.player =
      next_back_to board s.player m.player e (sym there) scene.player.0 scene'.player.0 in
      let free : IsFree board boxes s.player =
      (scene.player.0, subst (λ (b : Squares). contains b s.player ≡ false) same scene.player.1) in
      let step = reached_step board boxes base to mark sp bl m.player (opposite e) w.0
      (subst (λ (x : ℕ). IsFree board boxes x) (sym back) free) in
      let near : mark s.player ≤ suc (mark m.player) = subst (λ (x : ℕ). mark x ≤ suc (mark m.player)) back step.1 in
      let at_mark : mark s.player ≡ mark q = ap mark at in
      let l : mark (next board q d) ≡ suc base + length ds = descent_length rest in
      let one : suc (mark (next board q d)) ≡ mark q = down.0 in
      let far : mark m.player ≤ suc base + length es = w.1 in
      elim (cases_lt (length ds) (length es)) [
        | inl shorter ↦ not_gt_since_less _ (shortlex-shorter dir_cmp (d ∷ ds) (e ∷ es) (omega arith))
        | inr le ↦
            (let even : length ds ≡ length es = omega arith in
            let aside : next board q e ≡ m.player = ap (λ x. next board x e) (sym at) ∙ sym there in
            let aside_mark : mark (next board q e) ≡ mark m.player = ap mark aside in
            let also : IsDown board mark q e = let f : suc (mark (next board q e)) ≡ mark q = omega arith in f in
            let first : dir_number d ≤ dir_number e = down.1 e also in
            elim (cases_lt (dir_number d) (dir_number e)) [
              | inl less ↦ not_gt_since_less _ (shortlex-even dir_cmp (d ∷ ds) (e ∷ es) (ap suc even) ∙
                  then-less (dir_cmp d e) (slice_cmp dir_cmp ds es) (nat_cmp-less (dir_number d) (dir_number e) less))
              | inr more ↦
                  (let equal : d ≡ e = dir_same d e (omega arith) in
                  let on : m.player ≡ next board q d = sym aside ∙ ap (λ x. next board q x) (sym equal) in
                  let r = descent_least {s = m} rest same' on end scene' p in
                  shortlex-append_not_gt dir_cmp (d ∷ []) (e ∷ []) ds es
                  (subst (λ (x : Dir). is_gt (shortlex dir_cmp (d ∷ []) (x ∷ [])) ≡ false) equal
                  (not_gt_itself (shortlex_total dir_cmp_total) (d ∷ []))) r)
            ])
      ]

-- where the search from q did not reach the player, no walk leads to q
pub no_way : (board : Board) (s : Scene) (q base player : ℕ) (marks left : List ℕ)
    → IsSearched board s.boxes base q marks → left ≡ marks → player ≡ s.player
    → IsScene board s → get_or left player 0 ≤ base → (ds : List Dir) → IsWalk board s ds q → ⊥
no_way board s q base player marks left found same at scene low ds p =
    let w = walk_home board s.boxes base q (λ x. get_or marks x 0) found.spread found.blocked refl refl scene p in
    let e : get_or left player 0 ≡ get_or marks s.player 0 = ap (λ (xs : List ℕ). get_or xs player 0) same
    ∙ ap (λ (x : ℕ). get_or marks x 0) at in
    omega (arith, w.0, e, low)

-- what is said of an `Ok`
pub ok_gives : {T E : Type 0} {P : Type 0} (r : Result T E) → is_ok r ≡ true → OnOk r P → P
ok_gives (Ok x) e h = h
ok_gives (Err y) e h = absurd (false≢true e)

-- the descent from the player is the walk to q that comes first
pub least_way : (board : Board) (s : Scene) (q base player : ℕ) (marks left : List ℕ) (ds : List Dir)
    → IsSearched board s.boxes base q marks → left ≡ marks
    → player ≡ s.player → IsScene board s → IsDescent board base q (λ x. get_or left x 0) player ds
    → IsLeastWalk board s ds q
least_way board s q base player marks left ds found same at scene h =
    let k1 = subst (λ (xs : List ℕ). IsDescent board base q (λ x. get_or xs x 0) player ds) same h in
    let k = subst (λ (p : ℕ). IsDescent board base q (λ x. get_or marks x 0) p ds) at k1 in
    record {
      walk = descent_walk board s.boxes base q (λ x. get_or marks x 0) found.spread found.blocked k;
      least = λ es p. descent_least board s.boxes base q
          (λ x. get_or marks x 0) found.spread found.blocked k refl refl refl scene p;
    }

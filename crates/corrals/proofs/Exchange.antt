-- A play, cut where it first pushes a held box of a corral, goes as well with that push before everything else.
use Rattle.std.proofs.Common.{◌≡◌, ◌≢◌, ℕ, suc, ◌+◌, ◌≤◌, ◌⊎◌, Bool, true, false, List, [], ◌∷◌, ◌++◌, length, refl}
use Rattle.std.proofs.Common.{sym, ap, subst, ◌∙◌, inl, inr, arith}
use Rattle.std.proofs.lemmas.Bool.{true≢false, cases_Bool}
use Rattle.std.proofs.lemmas.List.{length-append}
use Rattle.grid.specs.declared.dir.Dir.{Dir}
use Rattle.grid.specs.declared.square.Push.{Push}
use Rattle.grid.specs.Squares.{Squares, contains, insert, remove}
use Rattle.grid.specs.Board.{Board, Scene, IsFree, IsSolved, Walks, Pushes, is_wall, next, opposite}
use Rattle.grid.specs.States.{IsScene}
use Rattle.grid.specs.Plays.{Play, Any, stay, walk, push, push_at}
use Rattle.grid.proofs.lemmas.Steps.{next_back, scene_after_walk, scene_after_push, push_arrived, push_left, push_boxes}
use Rattle.grid.proofs.lemmas.Steps.{push_cases, push_kept, contains-moved_other}
use Rattle.grid.proofs.lemmas.Plays.{play-append, play_first, play_last, push_from, walk_backwards}
use Rattle.area.specs.Area.{Area, at}
use Rattle.area.specs.After.{IsPushed}
use Rattle.area.proofs.lemmas.Norms.{area_scene}
use Rattle.prices.specs.Solving.{SolvableWithin}
use Rattle.corrals.specs.Corrals.{IsCorral}
use Rattle.corrals.proofs.Moves.{two_moved, differ}

module _ (board : Board) (held room : ℕ → Bool) where
  abbrev pub Good : Scene → Type 0
  Good x = IsScene board x × IsCorral board held room x

  -- ---- a corral stays one until a held box is pushed

  -- who is neither in the room nor on a held square does not enter the room by a step
  entered : (s : Scene) (q : ℕ) (d : Dir) → IsCorral board held room s → is_wall board q ≡ false → held q ≡ false
      → room q ≡ false
      → is_wall board (next board q d) ≡ false → room (next board q d) ≡ false
  entered s q d corral floor apart out ahead = elim (cases_Bool (room (next board q d))) [
    | inl inside ↦ (let back = next_back board q d floor ahead in
        elim (corral.shut (next board q d) (opposite d) inside) [
          | inl wall ↦ absurd (true≢false (sym wall ∙ (ap (is_wall board) back ∙ floor)))
          | inr (inl member) ↦ absurd (true≢false (sym member ∙ (ap held back ∙ apart)))
          | inr (inr there) ↦ absurd (true≢false (sym there ∙ (ap room back ∙ out)))
        ])
    | inr none ↦ none
  ]

  pub not_held : (s : Scene) (q : ℕ) → IsCorral board held room s → contains s.boxes q ≡ false → held q ≡ false
  not_held s q corral none = elim (cases_Bool (held q)) [
    | inl member ↦ absurd (true≢false (sym (corral.stands q member) ∙ none))
    | inr apart ↦ apart
  ]

  not_inside : (s : Scene) (q : ℕ) → IsCorral board held room s → contains s.boxes q ≡ true → room q ≡ false
  not_inside s q corral there = elim (cases_Bool (room q)) [
    | inl inside ↦ absurd (true≢false (sym there ∙ corral.clear q inside))
    | inr out ↦ out
  ]

  corral_walk : (s t : Scene) (d : Dir) → IsScene board s → IsCorral board held room s → Walks board s d t
      → IsCorral board held room t
  corral_walk s t d scene corral step =
      subst (λ (x : Scene). IsCorral board held room x) (sym step.1) (record {
        stands = corral.stands;
        clear = corral.clear;
        outside = entered s s.player d corral scene.player.0
            (not_held s s.player corral scene.player.1) corral.outside step.0.0;
        shut = corral.shut;
      })

  corral_push : (s t : Scene) (d : Dir) → IsScene board s → IsCorral board held room s → Pushes board s d t
      → held (next board s.player d) ≡ false
      → IsCorral board held room t
  corral_push s t d scene corral step apart =
      let q = next board s.player d in
      let out = not_inside s q corral step.0 in
      let away = entered s q d corral (scene.boxes q step.0) apart out step.1.0 in
      record {
        stands = λ z member. push_kept board s d t step z (λ e. true≢false (sym member ∙ (sym (ap held e) ∙ apart)))
            (corral.stands z member);
        clear = λ z inside. elim (cases_Bool (contains t.boxes z)) [
          | inl there ↦ elim (push_cases board s d t step z there) [
            | inl e ↦ absurd (true≢false (sym inside ∙ (sym (ap room e) ∙ away)))
            | inr (_, before) ↦ absurd (true≢false (sym before ∙ corral.clear z inside))
          ]
          | inr none ↦ none
        ];
        outside = ap (λ (x : Scene). room x.player) step.2 ∙ out;
        shut = corral.shut;
      }

  -- ---- a play is cut at its first push of a held box

  pub record Cut (s : Scene) (ps : List Push) (t : Scene) : Type 0 where
    pub before : Scene
    pub after : Scene
    pub dir : Dir
    pub early : List Dir
    pub late : List Dir
    pub eps : List Push
    pub lps : List Push
    pub outer : Play board Good s early eps before
    pub pushed : Pushes board before dir after
    pub member : held (next board before.player dir) ≡ true
    pub rest : Play board Any after late lps t
    pub count : length ps ≡ suc (length eps + length lps)

  abbrev pub StaysOrCut : Scene → List Push → Scene → Type 0
  StaysOrCut s ps t = IsCorral board held room t ⊎ Cut s ps t

  cut_walk : (s m t : Scene) (d : Dir) (ps : List Push) → Good s → Walks board s d m → StaysOrCut m ps t
      → StaysOrCut s ps t
  cut_walk s m t d ps good step (inl corral) = inl corral
  cut_walk s m t d ps good step (inr c) = inr (record {
    before = c.before;
    after = c.after;
    dir = c.dir;
    early = d ∷ c.early;
    late = c.late;
    eps = c.eps;
    lps = c.lps;
    outer = walk good step c.outer;
    pushed = c.pushed;
    member = c.member;
    rest = c.rest;
    count = c.count;
  })

  cut_push : (s m t : Scene) (d : Dir) (ps : List Push) → Good s → Pushes board s d m → StaysOrCut m ps t
      → StaysOrCut s (push_at board s d ∷ ps) t
  cut_push s m t d ps good step (inl corral) = inl corral
  cut_push s m t d ps good step (inr c) = inr (record {
    before = c.before;
    after = c.after;
    dir = c.dir;
    early = d ∷ c.early;
    late = c.late;
    eps = push_at board s d ∷ c.eps;
    lps = c.lps;
    outer = push good step c.outer;
    pushed = c.pushed;
    member = c.member;
    rest = c.rest;
    count = (let e = c.count in omega (arith, e));
  })

  pub stays_or_cut : (s t : Scene) (ds : List Dir) (ps : List Push) → IsScene board s → IsCorral board held room s
      → Play board Any s ds ps t
      → StaysOrCut s ps t
  stays_or_cut s t ds ps scene corral (stay ok) = inl corral
  stays_or_cut s t (d ∷ ds) ps scene corral (walk {m = m} ok step play) =
      let onwards = stays_or_cut m t ds ps (scene_after_walk board s d m scene step)
      (corral_walk s m d scene corral step) play in
      cut_walk s m t d ps (scene, corral) step onwards
  stays_or_cut s t (d ∷ ds) (p ∷ ps) scene corral (push {m = m} ok step play) =
      by_member (held (next board s.player d)) refl
      (λ apart. stays_or_cut m t ds ps (scene_after_push board s d m scene step)
      (corral_push s m d scene corral step apart) play)
    where
      by_member : (b : Bool) → held (next board s.player d) ≡ b
          → (held (next board s.player d) ≡ false → StaysOrCut m ps t)
          → StaysOrCut s (push_at board s d ∷ ps) t
      by_member true member onwards = inr (record {
        before = s;
        after = m;
        dir = d;
        early = [];
        late = ds;
        eps = [];
        lps = ps;
        outer = stay (scene, corral);
        pushed = step;
        member = member;
        rest = play;
        count = omega arith;
      })
      by_member false apart onwards = cut_push s m t d ps (scene, corral) step (onwards apart)

  good_walk : (s t : Scene) (ds : List Dir) → IsScene board s → IsCorral board held room s → Play board Any s ds [] t
      → Play board Good s ds [] t
  good_walk s t ds scene corral (stay ok) = stay (scene, corral)
  good_walk s t (d ∷ ds) scene corral (walk {m = m} ok step play) =
      walk (scene, corral) step (good_walk m t ds (scene_after_walk board s d m scene step)
      (corral_walk s m d scene corral step) play)

  -- ---- with a held box moved into the room, the same play goes

  module _ (b r : ℕ) (member : held b ≡ true) (inside : room r ≡ true) where
    abbrev with_moved : Scene → Scene
    with_moved x = record { boxes = insert (remove x.boxes b) r; player = x.player }

    carried_walk : (s m : Scene) (d : Dir) → Good s → Good m → Walks board s d m
        → Walks board (with_moved s) d (with_moved m)
    carried_walk s m d good later step =
        let q = next board s.player d in
        let player : m.player ≡ q = ap (λ (x : Scene). x.player) step.1 in
        let out : room q ≡ false = sym (ap room player) ∙ later.1.outside in
        let b_q : b ≢ q = differ (contains s.boxes) b q (good.1.stands b member) step.0.1 in
        let none = contains-moved_other s.boxes b r q b_q (differ room r q inside out) ∙ step.0.1 in
        ((step.0.0, none), ap with_moved step.1)

    carried_push : (s m : Scene) (d : Dir) → Good s → Good m → Pushes board s d m
        → Pushes board (with_moved s) d (with_moved m)
    carried_push s m d good later step =
        let q = next board s.player d in
        let t = next board q d in
        let here : contains m.boxes b ≡ true = later.1.stands b member in
        let b_q : b ≢ q = differ (contains m.boxes) b q here (push_left board s d m step) in
        let r_q : r ≢ q = λ e. true≢false (sym step.0 ∙ (sym (ap (contains s.boxes) e) ∙ good.1.clear r inside)) in
        let b_t : b ≢ t = differ (contains s.boxes) b t (good.1.stands b member) step.1.1 in
        let r_t : r ≢ t = λ e. true≢false (sym (push_arrived board s d m step)
        ∙ (sym (ap (contains m.boxes) e) ∙ later.1.clear r inside)) in
        let same = two_moved s.boxes b r q t good.0.rising (λ e. r_q (sym e)) (λ e. b_t (sym e)) in (
          contains-moved_other s.boxes b r q b_q r_q ∙ step.0,
          (step.1.0, contains-moved_other s.boxes b r t b_t r_t ∙ step.1.1),
          ap with_moved step.2 ∙ ap (λ (xs : Squares). record { boxes = xs; player = q }) same,
        )

    carried : (s t : Scene) (ds : List Dir) (ps : List Push) → Play board Good s ds ps t
        → Play board Any (with_moved s) ds ps (with_moved t)
    carried s t ds ps (stay good) = stay tt
    carried s t (d ∷ ds) ps (walk {m = m} good step play) =
        walk tt (carried_walk s m d good (play_first play) step) (carried m t ds ps play)
    carried s t (d ∷ ds) (p ∷ ps) (push {m = m} good step play) =
        push tt (carried_push s m d good (play_first play) step) (carried m t ds ps play)

  -- ---- the held box's push comes first, and all else after it

  module _ (s x y t : Scene) (d : Dir) (scene : IsScene board s) (corral : IsCorral board held room s)
      (area : Area board s x.player) where
    abbrev pub moved : Scene
    moved =
        record {
          boxes = insert (remove s.boxes (next board x.player d))
              (next board (next board x.player d) d);
          player = next board x.player d;
        }

    pub exchanged : (m : ℕ) (early late : List Dir) (eps lps : List Push) → Play board Good s early eps x
        → Pushes board x d y
        → held (next board x.player d) ≡ true → room (next board (next board x.player d) d) ≡ true
        → Play board Any y late lps t → IsSolved board t → length eps + length lps ≤ m
        → IsPushed board s (push_at board x d) moved × SolvableWithin board m moved
    exchanged m early late eps lps outer pushed member inside rest solved few =
        let q = x.player in
        let b = next board q d in
        let r = next board b d in
        let good_x = play_last outer in
        let back : next board b (opposite d) ≡ q = push_from board x d y good_x.0 pushed in
        let scene_q = area_scene board s q scene area in
        let corral_q = (play_last (good_walk s (at s q) area.0 scene corral area.1)).1 in
        let wb = walk_backwards scene area.1 in
        let cb = carried b r member inside (at s q) s wb.0 [] (good_walk (at s q) s wb.0 scene_q corral_q wb.2) in
        let cu = carried b r member inside s x early eps outer in
        let b_q : b ≢ q = differ (contains s.boxes) b q (corral.stands b member) scene_q.player.1 in
        let r_q : r ≢ q = differ room r q inside corral_q.outside in
        let boxes : Squares = insert (remove s.boxes b) r in
        let free_q : IsFree board boxes q =
        (scene_q.player.0, contains-moved_other s.boxes b r q b_q r_q ∙ scene_q.player.1) in
        let first : Walks board moved (opposite d) (record { boxes = boxes; player = q }) = (
          subst (λ (k : ℕ). IsFree board boxes k) (sym back) free_q,
          ap (λ (k : ℕ). record { boxes = boxes; player = k })
              (sym back),
        ) in
        let left : contains (insert (remove x.boxes b) r) b ≡ false =
        sym (ap (λ (xs : Squares). contains xs b) (push_boxes board x d y pushed)) ∙ push_left board x d y pushed in
        let last : Walks board (record { boxes = insert (remove x.boxes b) r; player = q }) d y =
        ((good_x.0.boxes b pushed.0, left), pushed.2) in
        let size = length-append eps lps in (
          record {
            there = corral.stands b member;
            behind = subst (Area board s) (sym back) area;
            ahead = (pushed.1.0, corral.clear r inside);
            after = refl;
          },
          (
            _,
            eps ++ lps,
            t,
            walk tt first (play-append cb (play-append cu (walk tt last rest))),
            solved,
            omega
                (arith, size, few),
          ),
        )

-- The layers behind a search, and the answers at its end.
use Rattle.std.proofs.Common.{◌≡◌, ℕ, zero, suc, ◌+◌, ◌-◌, ◌<◌, ◌≤◌, false, true, List, [], ◌∷◌, ◌++◌, length, get_or}
use Rattle.std.proofs.Common.{Option, None, Some, inl, inr, refl, sym, ap, subst, ◌∙◌, arith}
use Rattle.std.proofs.lemmas.Bool.{cases_lt}
use Rattle.std.proofs.lemmas.List.{length-append}
use Rattle.std.proofs.lemmas.List.Sums.{sum_by_push}
use Rattle.std.proofs.lemmas.Option.{same_Some, none-some}
use Rattle.std.specs.Prelude.{slice_get}
use Rattle.std.specs.declared.cmp.Ordering.{Ordering}
use Rattle.std.specs.declared.cmp.Ordering.TheVariants.{Less, Equal, Greater}
use Rattle.std.specs.Ordering.{ordering_then, is_gt}
use Rattle.grid.specs.declared.dir.Dir.{Dir}
use Rattle.grid.specs.declared.square.Push.{Push}
use Rattle.grid.specs.declared.moves.Letter.{Letter}
use Rattle.grid.specs.Squares.{Squares, contains}
use Rattle.grid.specs.Board.{Board, Scene, IsSolved, start, dir_cmp, push_cmp}
use Rattle.grid.specs.Lawful.{IsLevel}
use Rattle.grid.specs.Plays.{Play, Any, IsSolution, shortlex, dirs_of}
use Rattle.grid.specs.Laws.{solution_cmp}
use Rattle.grid.proofs.lemmas.Levels.{start_is_scene}
use Rattle.grid.proofs.lemmas.Orders.{push_cmp_total, push_cmp_exact, shortlex_total, shortlex_exact}
use Rattle.grid.proofs.lemmas.Plays.{play_scene, play_boxes}
use Rattle.area.proofs.lemmas.Norms.{norm_exists}
use Rattle.doom.proofs.lemmas.Bounds.{solved_need_none}
use Rattle.doom.proofs.lemmas.Soundness.{solution_safe}
use Rattle.successors.specs.Layered.{IsIn}
use Rattle.successors.specs.Problems.{Problem, IsAdmitted}
use Rattle.successors.specs.Capping.{Admits}
use Rattle.successors.specs.Reaching.{Reaches, IsLayerOf, AreLayersOf, total}
use Rattle.layers.specs.Leads.{IsLeadOf}
use Rattle.successors.specs.Distances.{IsAtDistance}
use Rattle.layers.proofs.lemmas.Exchange.{lead-length, lead_unique, found}
use Rattle.layers.proofs.lemmas.Layers.{place_unique}
use Rattle.successors.proofs.lemmas.Lists.{at-push, at_seam}
use Rattle.layers.proofs.lemmas.Orders.{shortlex_shorter, shortlex_same, less_upto, upto-less}
use Rattle.layers.proofs.lemmas.Books.{level_laws, read_at}
use Rattle.solo.specs.declared.answer.Answer.TheVariants.{Solved, Limit}
use Rattle.solo.specs.Leads.{AreUnsolved, IsFirstSolved, WritesLead}
use Rattle.solo.specs.Answers.{KeepsCap, IsSolutionOf, WritesLeastSolution, HasInAll, HasNone, IsAnswer}
use Rattle.solo.specs.inside.Searched.{AreSearched}

-- ---- one more layer

-- the first layers with the next one are the first layers
layers_more : (problem : Problem) (layers : List (List Scene)) (xs : List Scene) → AreLayersOf problem layers →
    IsLayerOf problem (length layers) xs → AreLayersOf problem (layers ++ xs ∷ [])
layers_more problem layers xs are layer j ys at_j = elim (at-push layers xs j ys at_j) [
  | inl old ↦ are j ys old
  | inr last ↦
      subst (λ zs. IsLayerOf problem j zs) (sym last.1) (subst (λ i. IsLayerOf problem i xs) (sym last.0) layer)
]

-- before a search no layer was searched
pub none_searched : (problem : Problem) → AreSearched problem []
none_searched problem = record {
  are = λ j xs at_j. absurd (none-some xs at_j);
  filled = λ j xs at_j. absurd (none-some xs at_j);
  unsolved = λ j xs at_j. absurd (none-some xs at_j);
}

-- a layer that is neither empty nor has a solved position is searched too
pub searched_more : (problem : Problem) (layers : List (List Scene)) (xs : List Scene) → AreSearched problem layers →
    IsLayerOf problem (length layers) xs → 1 ≤ length xs → AreUnsolved problem.board xs →
    AreSearched problem (layers ++ xs ∷ [])
searched_more problem layers xs searched layer some unsolved = record {
  are = layers_more problem layers xs searched.are layer;
  filled = λ j ys at_j. elim (at-push layers xs j ys at_j) [
    | inl old ↦ searched.filled j ys old
    | inr last ↦ omega (arith, ap length last.1)
  ];
  unsolved = λ j ys at_j. elim (at-push layers xs j ys at_j) [
    | inl old ↦ searched.unsolved j ys old
    | inr last ↦ subst (AreUnsolved problem.board) (sym last.1) unsolved
  ];
}

-- ---- solutions and layers

-- whether all boxes are on goals depends on the boxes alone
solved_boxes : (board : Board) (s t : Scene) → s.boxes ≡ t.boxes → IsSolved board s → IsSolved board t
solved_boxes board s t same solved q there =
    solved q (subst (λ (boxes : Squares). contains boxes q ≡ true) (sym same) there)

-- the pushes of a solution lead through undoomed positions to a solved normal form
solution_reaches : (board : Board) → IsLevel board → (ds : List Dir) (ps : List Push) → IsSolution board ds ps →
    (n : Scene) × Reaches board ps n × IsSolved board n
solution_reaches board level ds ps (t, play, solved) =
    let scene = start_is_scene board level in
    let n = norm_exists board t (play_scene scene play) in
    (n.0, (ds, t, solution_safe board (start board) t ds ps scene play solved, n.1), solved_boxes board t n.0 (sym n.1.boxes) solved)

-- fewer pushes are within the cap too
fewer_kept : (cap : Option ℕ) (j k : ℕ) → j ≤ k → KeepsCap cap k → KeepsCap cap j
fewer_kept None j k le kept = tt
fewer_kept (Some most) j k le kept = omega (arith, le, kept)

-- an admitted position is come to within the cap
admitted_kept : (problem : Problem) (k : ℕ) (n : Scene) → Admits problem k n → KeepsCap problem.cap k
admitted_kept problem k n adm = go problem.cap adm
  where
    go : (cap : Option ℕ) → IsAdmitted problem.board cap k n → KeepsCap cap k
    go None any = tt
    go (Some most) (low, lower, le) = omega (arith, le)

-- a solved position is admitted within the cap
solved_admitted : (problem : Problem) (k : ℕ) (n : Scene) → IsSolved problem.board n → KeepsCap problem.cap k →
    Admits problem k n
solved_admitted problem k n solved kept = go problem.cap kept
  where
    go : (cap : Option ℕ) → KeepsCap cap k → IsAdmitted problem.board cap k n
    go None any = tt
    go (Some most) le = (0, solved_need_none problem.board n solved, omega (arith, le))

-- where layer k is empty, what is reached and admitted is reached by fewer than k pushes
module _ (problem : Problem) (level : IsLevel problem.board) (k : ℕ) (empty : IsLayerOf problem k []) where
  sooner_here : (ps : List Push) (n : Scene) → Reaches problem.board ps n → length ps ≤ k → Admits problem k n →
      (qs : List Push) × Reaches problem.board qs n × (length qs < k)
  sooner_here ps n reach short adm = elim (cases_lt (length ps) k) [
    | inl lt ↦ (ps, reach, lt)
    | inr ge ↦ elim (empty.whole ps n reach (omega arith) adm) [ inl i ↦ absurd (none-some n i.1) | inr w ↦ w ]
  ]

  sooner_by : (b : ℕ) (ps : List Push) (n : Scene) → Reaches problem.board ps n → length ps ≡ b → Admits problem b n →
      (qs : List Push) × Reaches problem.board qs n × (length qs < k)
  sooner_by zero ps n reach long adm = elim (cases_lt zero k) [
    | inl lt ↦ (ps, reach, omega arith)
    | inr ge ↦ sooner_here ps n reach (omega arith) ((level_laws problem level).earlier k zero n (omega arith) adm)
  ]
  sooner_by (suc b) ps n reach long adm =
      let laws = level_laws problem level in
      let cut = laws.split ps n b reach long in
      let early = sooner_by b cut.0 cut.2 cut.4 (omega (arith, ap length cut.3, length-append cut.0 (cut.1 ∷ [])))
      (laws.closed b cut.0 cut.2 cut.1 n cut.4 cut.5 adm) in elim (cases_lt (suc b) k) [
        | inl lt ↦ (ps, reach, omega arith)
        | inr ge ↦ sooner_here (early.0 ++ cut.1 ∷ []) n (laws.grow early.0 cut.2 cut.1 n early.1 cut.5)
            (omega (arith, early.2, length-append early.0 (cut.1 ∷ []))) (laws.earlier k (suc b) n (omega arith) adm)
      ]

  pub sooner : (ps : List Push) (n : Scene) → Reaches problem.board ps n → Admits problem (length ps) n →
      (qs : List Push) × Reaches problem.board qs n × (length qs < k)
  sooner ps n reach adm = sooner_by (length ps) ps n reach refl adm

-- of two orders, the second decides where the first does not
then_tied : (a b : Ordering) → is_gt a ≡ false → (a ≡ Equal → is_gt b ≡ false) → is_gt (ordering_then a b) ≡ false
then_tied Less b e f = refl
then_tied Equal b e f = f refl
then_tied Greater b e f = e

-- a position of layer k is k pushes away
pub layer_distance : (problem : Problem) → IsLevel problem.board → (k : ℕ) (xs : List Scene) → IsLayerOf problem k xs →
    (n : Scene) → IsIn xs n → IsAtDistance problem n k
layer_distance problem level k xs layer n i =
    let there = layer.leads i.0 n i.1 in
    let l = there.1 in
    ((l.0, l.1.reached, l.2), λ qs reach. omega (arith, l.2, lead-length (level_laws problem level) n l.0 qs l.1 reach), there.0)

-- ---- answers

module _ (problem : Problem) (layers : List (List Scene)) (level : IsLevel problem.board)
    (searched : AreSearched problem layers) where
  -- no fewer pushes than there are layers that were searched lead to a solved position
  solved_bound : (ps : List Push) (n : Scene) → Reaches problem.board ps n → IsSolved problem.board n →
      KeepsCap problem.cap (length ps) → length layers ≤ length ps
  solved_bound ps n reach solved kept = elim (cases_lt (length ps) (length layers)) [
    | inl lt ↦ (let w = found (level_laws problem level) (λ j. get_or layers j []) (length ps)
        (λ j le. searched.are j (get_or layers j []) (read_at layers j (omega arith))) (length ps) ps n (omega arith)
        (omega arith) reach (solved_admitted problem (length ps) n solved kept) in
        absurd (searched.unsolved w.0 (get_or layers w.0 []) (read_at layers w.0 (omega (arith, w.1))) w.2.0 n w.2.1 solved))
    | inr ge ↦ omega arith
  ]

  -- so no solution has fewer
  pub searched_bound : (ds : List Dir) (ps : List Push) → IsSolutionOf problem ds ps → length layers ≤ length ps
  searched_bound ds ps (solution, kept) =
      let r = solution_reaches problem.board level ds ps solution in
      solved_bound ps r.0 r.1 r.2 kept

  module _ (xs : List Scene) (layer : IsLayerOf problem (length layers) xs) where
    module _ (rank : ℕ) (n : Scene) (first : IsFirstSolved problem.board xs rank)
        (at_rank : slice_get xs rank ≡ Some n) where
      -- the position at the rank is admitted, so as many pushes as there are layers are within the cap
      kept : KeepsCap problem.cap (length layers)
      kept = admitted_kept problem (length layers) n (layer.leads rank n at_rank).0

      -- the lead of the first solved position of the first layer that has one comes after no push list that leads to a
      -- solved position
      first_lead_least : (ps : List Push) → IsLeadOf problem.board n ps → length ps ≡ length layers → (qs : List Push)
          (m : Scene) → Reaches problem.board qs m → IsSolved problem.board m → is_gt (shortlex push_cmp ps qs) ≡ false
      first_lead_least ps lead long qs m reach solved = elim (cases_lt (length layers) (length qs)) [
        | inl lt ↦ shortlex_shorter push_cmp ps qs (omega arith)
        | inr ge ↦ (let same : length qs ≡ length layers =
            omega (arith, ge, solved_bound qs m reach solved (fewer (length qs) (omega (arith, ge)))) in
            elim (layer.whole qs m reach same (solved_admitted problem (length layers) m solved kept)) [
              | inl i ↦ within i.0 i.1
              | inr w ↦
                  absurd (omega (arith, w.2, solved_bound w.0 m w.1 solved (fewer (length w.0) (omega (arith, w.2)))))
            ])
      ]
        where
          fewer : (j : ℕ) → j ≤ length layers → KeepsCap problem.cap j
          fewer j le = fewer_kept problem.cap j (length layers) le kept

          within : (r : ℕ) → slice_get xs r ≡ Some m → is_gt (shortlex push_cmp ps qs) ≡ false
          within r at_r = elim (cases_lt rank r) [
            | inl lt ↦ (let l = (layer.leads r m at_r).1 in
                let less = layer.rise rank r n m ps l.0 lt at_rank at_r lead l.1 in
                upto-less (shortlex push_cmp ps qs) (less_upto (shortlex_total push_cmp_total) ps l.0 qs
                (shortlex_same push_cmp ps l.0 (omega (arith, l.2)) ∙ less) (l.1.least qs reach)))
            | inr le ↦ elim (cases_lt r rank) [
              | inl lt ↦ absurd (first.first r m lt at_r solved)
              | inr ge ↦ (let e : r ≡ rank = omega arith in
                  let same : m ≡ n = same_Some m n (sym at_r ∙ ap (slice_get xs) e ∙ at_rank) in
                  lead.least qs (subst (Reaches problem.board qs) same reach))
            ]
          ]

      -- the letters for the first solved position write the least solution
      writes_least : (letters : List Letter) → WritesLead problem.board n letters →
          WritesLeastSolution problem.board letters (length layers)
      writes_least letters writes = record {
        list = writes.pushes;
        end = writes.end;
        play = writes.play;
        written = writes.written;
        solved = solved;
        least = ((writes.end, writes.play, solved), λ es qs solution. no_later es qs solution);
        count = long;
      }
        where
          long : length writes.pushes ≡ length layers
          long =
              let l = (layer.leads rank n at_rank).1 in
              ap length (lead_unique (level_laws problem level) n writes.pushes l.0 writes.lead l.1) ∙ l.2

          -- the play of the lead and that of the letters end with the same boxes
          same_end : n.boxes ≡ writes.end.boxes
          same_end =
              let reach = writes.lead.reached in
              reach.3.boxes ∙ (play_boxes reach.2 ∙ sym (play_boxes writes.play))

          solved : IsSolved problem.board writes.end
          solved = solved_boxes problem.board n writes.end same_end
              (subst (IsSolved problem.board) (same_Some first.place n (sym first.there ∙ at_rank)) first.solved)

          no_later : (es : List Dir) (qs : List Push) → IsSolution problem.board es qs →
              is_gt (solution_cmp (dirs_of letters) writes.pushes es qs) ≡ false
          no_later es qs solution =
              let r = solution_reaches problem.board level es qs solution in
              then_tied (shortlex push_cmp writes.pushes qs) (shortlex dir_cmp (dirs_of letters) es)
              (first_lead_least writes.pushes writes.lead long qs r.0 r.1 r.2)
              (λ tied. (let same = shortlex_exact push_cmp_exact writes.pushes qs tied in writes.least es solution.0
              (subst (λ ps. Play problem.board Any (start problem.board) es ps solution.0) (sym same) solution.1)))

      -- the level is solved by the first solved position of the next layer
      pub solved_answer : (letters : List Letter) → WritesLead problem.board n letters → (limit : ℕ) →
          total layers + length xs ≤ limit →
          IsAnswer problem limit (Solved letters (length layers) (total layers + length xs))
      solved_answer letters writes limit few = (
        writes_least letters writes,
        (
          layers ++ xs ∷ [],
          layers_more problem layers xs searched.are layer,
          omega (arith, length-append layers (xs ∷ [])),
          sum_by_push length layers xs,
        ),
        few,
        kept,
      )

    -- where the positions of the next layer pass the limit, the answer is the limit
    pub limit_answer : (limit : ℕ) → limit < total layers + length xs → IsAnswer problem limit Limit
    limit_answer limit passed = record {
      layers = layers;
      are = searched.are;
      more = xs;
      distinct = place_unique (level_laws problem level) (length layers) xs layer;
      next = layer_distance problem level (length layers) xs layer;
      passed = passed;
      unsolved = searched_bound;
    }

  -- where the next layer is empty no play solves the level within the cap
  pub none_answer : IsLayerOf problem (length layers) [] → (limit : ℕ) → total layers ≤ limit →
      HasNone problem limit (total layers)
  none_answer empty limit few = (none, all, few)
    where
      none : (ds : List Dir) (ps : List Push) → ¬ (IsSolutionOf problem ds ps)
      none ds ps (solution, kept) =
          let r = solution_reaches problem.board level ds ps solution in
          let short = solved_bound ps r.0 r.1 r.2 kept in
          let w = sooner problem level (length layers) empty ps r.0 r.1 (solved_admitted problem (length ps) r.0 r.2 kept) in
          let fewer = fewer_kept problem.cap (length w.0) (length ps) (omega (arith, w.2, short)) kept in
          omega (arith, w.2, solved_bound w.0 r.0 w.1 r.2 fewer)

      last : length (layers ++ [] ∷ []) - 1 ≡ length layers
      last = omega (arith, length-append layers ([] ∷ []))

      all : HasInAll problem (total layers)
      all = record {
        layers = layers ++ [] ∷ [];
        are = layers_more problem layers [] searched.are empty;
        last = ap (slice_get (layers ++ [] ∷ [])) last ∙ at_seam layers [];
        first = λ j at_j. elim (at-push layers [] j [] at_j) [
          | inl old ↦ absurd (omega (arith, searched.filled j [] old))
          | inr end ↦ end.0 ∙ sym last
        ];
        total = omega (arith, sum_by_push length layers []);
      }

-- The layers of a level are layers: pushes lead on from normal forms, and equal push lists end in one.
use Rattle.std.proofs.Common.{◌≡◌, ℕ, suc, List, [], ◌∷◌, ◌++◌, length, sym, subst, arith}
use Rattle.std.proofs.lemmas.List.{append-nil}
use Rattle.grid.specs.declared.dir.Dir.{Dir}
use Rattle.grid.specs.declared.square.Push.{Push}
use Rattle.grid.specs.Board.{Board, Scene, start, push_cmp}
use Rattle.grid.specs.States.{IsScene}
use Rattle.grid.specs.Plays.{Play, Any}
use Rattle.grid.specs.Plays.Play.{stay, push}
use Rattle.grid.proofs.lemmas.Orders.{push_cmp_total, push_cmp_exact}
use Rattle.grid.proofs.lemmas.Plays.{play-append, play_last, play_scene, walk_of_boxes, cut_last_push, split_last, same_area}
use Rattle.area.proofs.lemmas.Norms.{norm_unique, norm_exists, norm_along_walk, norm_walk, norm_walk_back}
use Rattle.doom.specs.Deadlocks.{Doomed, Undoomed}
use Rattle.layers.specs.Openings.{IsLayered}
use Rattle.successors.specs.Problems.{Problem}
use Rattle.successors.specs.Capping.{Admits}
use Rattle.successors.specs.Reaching.{Reaches}
use Rattle.successors.specs.Expansion.{IsSuccessor}
use Rattle.layers.proofs.lemmas.Admissions.{admitted_before, admitted_earlier}

module _ {board : Board} where
  -- a walk from a state that is not doomed passes no doomed one
  safe_walk : {s t : Scene} {ds : List Dir} → Undoomed board s → Play board Any s ds [] t → Play board (Undoomed board) s ds [] t
  safe_walk safe play = walk_of_boxes (λ boxes. ¬ (Doomed board boxes)) safe play

  -- a push leads on from what is reached
  reaches-grow : (ps : List Push) (n : Scene) (p : Push) (m : Scene) → Reaches board ps n → IsSuccessor board n p m → Reaches board (ps ++ p ∷ []) m
  reaches-grow ps n p m (ds, t, play, norm) (es, u, next, norm') =
      let w = norm_walk norm in
      let whole = play-append (play-append play (safe_walk (play_last play) w.1)) next in
      ((ds ++ w.0) ++ es, u, subst (λ qs. Play board (Undoomed board) (start board) ((ds ++ w.0) ++ es) (qs ++ p ∷ []) u) (append-nil ps) whole, norm')

  module _ (scene : IsScene board (start board)) where
    -- equal push lists end in one normal form
    reaches-same : (ps : List Push) (m n : Scene) → Reaches board ps m → Reaches board ps n → m ≡ n
    reaches-same ps m n (ds, t, play, norm) (es, u, play', norm') =
        let here : Play board Any (start board) [] [] (start board) = stay tt in
        let w = same_area ps scene here play play' in
        norm_unique board t m n norm ((norm_along_walk n (play_scene scene play) w.1).1 norm')

    -- what is reached by a push last is the successor of something that is reached
    reaches-cut : (ps : List Push) (p : Push) (m : Scene) → Reaches board (ps ++ p ∷ []) m → (n : Scene) × Reaches board ps n × IsSuccessor board n p m
    reaches-cut ps p m (ds, t, play, norm) =
        let cut = cut_last_push ps p play in
        let before = cut.before in
        let n = norm_exists board before (play_scene scene cut.first) in
        let back = norm_walk_back (play_scene scene cut.first) n.1 in
        let safe : Undoomed board n.0 = subst (λ boxes. ¬ (Doomed board boxes)) (sym n.1.boxes) (play_last cut.first) in
        let next = play-append (safe_walk safe back.1) (push (play_last cut.first) cut.pushed cut.rest) in (
          n.0,
          (cut.early, before, cut.first, n.1),
          (back.0 ++ p.dir ∷ cut.late, t, subst (λ q. Play board (Undoomed board) n.0 (back.0 ++ p.dir ∷ cut.late) (q ∷ []) t) (sym cut.named) next, norm),
        )

    reaches-split : (qs : List Push) (m : Scene) (k : ℕ) → Reaches board qs m → length qs ≡ suc k →
        (ps : List Push) × (p : Push) × (n : Scene) × (qs ≡ ps ++ p ∷ []) × Reaches board ps n × IsSuccessor board n p m
    reaches-split [] m k reach long = absurd (omega arith)
    reaches-split (q ∷ qs) m k reach long =
        let s = split_last q qs in
        let w = reaches-cut s.0 s.1 m (subst (λ es. Reaches board es m) s.2 reach) in
        (s.0, s.1, w.0, s.2, w.1, w.2)

-- so the layers of a level under a cap are layers in the order of leads
pub reaching_laws : (problem : Problem) → IsScene problem.board (start problem.board) → IsLayered push_cmp (Reaches problem.board) (IsSuccessor problem.board) (Admits problem)
reaching_laws problem scene = record {
  total = push_cmp_total;
  exact = push_cmp_exact;
  grow = reaches-grow;
  split = reaches-split scene;
  same = reaches-same scene;
  closed = admitted_before problem scene;
  earlier = admitted_earlier problem;
}

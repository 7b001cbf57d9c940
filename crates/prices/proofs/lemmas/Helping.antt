-- A push that costs more than is left never helps.
use Rattle.std.proofs.Common.{◌≡◌, ◌≢◌, ℕ, suc, ◌+◌, ◌≤◌, true, false, List, [], ◌∷◌, length, sym, ap, subst, ◌∙◌, arith}
use Rattle.std.proofs.lemmas.Bool.{false≢true, true≢false}
use Rattle.grid.specs.declared.dir.Dir.{Dir}
use Rattle.grid.specs.declared.square.Push.{Push}
use Rattle.grid.specs.Squares.{Squares, contains, insert, remove}
use Rattle.grid.specs.Board.{Board, Scene, IsFree, Walks, Pushes, is_wall, next, opposite}
use Rattle.grid.specs.States.{IsScene}
use Rattle.grid.specs.Plays.{Play, Any, stay, walk, push}
use Rattle.grid.proofs.lemmas.Squares.{contains-remove_out, contains-remove_parts, contains-remove_other, is_rising-remove}
use Rattle.grid.proofs.lemmas.Steps.{next_back, opposite_twice, scene_after_walk, scene_after_push, push_left}
use Rattle.grid.proofs.lemmas.Plays.{play_first, play_scene}
use Rattle.area.specs.Area.{at}
use Rattle.area.proofs.lemmas.Norms.{area_scene}
use Rattle.prices.specs.Prices.{CanStand, IsNeed, sum_over, total_need}
use Rattle.prices.specs.Helping.{NeverLeadsOn, CostsTell}
use Rattle.prices.proofs.lemmas.Prices.{can_stand, needs_hold, sum_inserted, sum_le, sum_put_back}
use Rattle.prices.proofs.lemmas.Solving.{none_is_not_solvable}

module _ (board : Board) (toll : ℕ → ℕ) (need : ℕ → ℕ → ℕ) (is : IsNeed board toll need) (b : ℕ) where
  -- what boxes need that no step pushes does not lessen
  others_le : (s : Scene) (d : Dir) (xs : Squares) → IsScene board s → is_wall board (next board s.player d) ≡ false
      → ((z : ℕ) → contains xs z ≡ true → contains s.boxes z ≡ true) → ((z : ℕ) → contains xs z ≡ true → next board s.player d ≢ z)
      → sum_over (λ z. need z s.player) xs ≤ sum_over (λ z. need z (next board s.player d)) xs
  others_le s d xs scene floor within apart = sum_le (λ z. need z s.player) (λ z. need z (next board s.player d)) xs
      (λ z there. is.walk z s.player d (can_stand board s z scene (within z there))
      (record { floor = scene.boxes z (within z there); player = floor; apart = apart z there }))

  costs_walk : (s t : Scene) (d : Dir) → IsScene board s → contains s.boxes b ≡ true → Walks board s d t
      → total_need need s + need b t.player ≤ total_need need t + need b s.player
  costs_walk s t d scene here step =
      let q = next board s.player d in
      let before = sum_put_back (λ z. need z s.player) 0 s.boxes b scene.rising here in
      let later = sum_put_back (λ z. need z q) 0 s.boxes b scene.rising here in
      let others = others_le s d (remove s.boxes b) scene step.0.0 (λ z there. (contains-remove_parts s.boxes b z there).1)
      (λ z there e. false≢true (sym step.0.1 ∙ (ap (λ (x : ℕ). contains s.boxes x) e ∙ (contains-remove_parts s.boxes b z there).1))) in
      subst (λ (x : Scene). total_need need s + need b x.player ≤ total_need need x + need b s.player) (sym step.1) (omega (arith, before, later, others))

  costs_push : (s t : Scene) (d : Dir) → IsScene board s → contains s.boxes b ≡ true → next board s.player d ≢ b → Pushes board s d t
      → total_need need s + need b t.player ≤ suc (total_need need t + need b s.player)
  costs_push s t d scene here apart step =
      let q = next board s.player d in
      let r = next board q d in
      let floor = scene.boxes q step.0 in
      let left = remove s.boxes q in
      let rising = is_rising-remove s.boxes q scene.rising in
      let there : contains left b ≡ true = contains-remove_other s.boxes q b apart ∙ here in
      let a = sum_put_back (λ z. need z s.player) 0 s.boxes q scene.rising step.0 in
      let c = sum_put_back (λ z. need z s.player) 0 left b rising there in
      let e = sum_inserted (λ z. need z q) left r (contains-remove_out s.boxes q r step.1.1) in
      let f = sum_put_back (λ z. need z q) 0 left b rising there in
      let others = others_le s d (remove left b) scene floor
      (λ z h. (contains-remove_parts s.boxes q z (contains-remove_parts left b z h).1).1)
      (λ z h. (contains-remove_parts s.boxes q z (contains-remove_parts left b z h).1).0) in
      let ahead : CanStand board r q = record {
        floor = step.1.0;
        player = floor;
        apart = λ e. false≢true (sym step.1.1 ∙ (ap (λ (x : ℕ). contains s.boxes x) (sym e) ∙ step.0));
      } in
      let one = is.push s.player d (can_stand board s q scene step.0) ahead in
      subst (λ (x : Scene). total_need need s + need b x.player ≤ suc (total_need need x + need b s.player)) (sym step.2)
      (omega (arith, a, c, e, f, others, one))

  costs_played : (s x : Scene) (ds : List Dir) (ps : List Push) → IsScene board s → Play board (λ z. contains z.boxes b ≡ true) s ds ps x
      → total_need need s + need b x.player ≤ length ps + (total_need need x + need b s.player)
  costs_played s x ds ps scene (stay here) = omega arith
  costs_played s x (d ∷ ds) ps scene (walk {m = m} here step play) =
      let rest = costs_played m x ds ps (scene_after_walk board s d m scene step) play in
      let one = costs_walk s m d scene here step in
      omega (arith, rest, one)
  costs_played s x (d ∷ ds) (p ∷ ps) scene (push {m = m} here step play) =
      let rest = costs_played m x ds ps (scene_after_push board s d m scene step) play in
      let one = costs_push s m d scene here
      (λ e. true≢false (sym (play_first play) ∙ (sym (ap (λ (z : ℕ). contains m.boxes z) e) ∙ push_left board s d m step))) step in
      omega (arith, rest, one)

  costs_last : (x y : Scene) (d : Dir) → IsScene board x → Pushes board x d y → next board x.player d ≡ b
      → total_need need x + need (next board b d) b ≤ total_need need y + need b x.player
  costs_last x y d scene step e = subst (λ (k : ℕ). total_need need x + need (next board k d) k ≤ total_need need y + need k x.player) e at_q
    where
      q : ℕ
      q = next board x.player d

      at_q : total_need need x + need (next board q d) q ≤ total_need need y + need q x.player
      at_q =
          let before = sum_put_back (λ z. need z x.player) 0 x.boxes q scene.rising step.0 in
          let later = sum_inserted (λ z. need z q) (remove x.boxes q) (next board q d) (contains-remove_out x.boxes q (next board q d) step.1.1) in
          let others = others_le x d (remove x.boxes q) scene (scene.boxes q step.0) (λ z h. (contains-remove_parts x.boxes q z h).1)
          (λ z h. (contains-remove_parts x.boxes q z h).0) in
          subst (λ (z : Scene). total_need need x + need (next board q d) q ≤ total_need need z + need q x.player) (sym step.2)
          (omega (arith, before, later, others))

pub costs_tell : (board : Board) → CostsTell board
costs_tell board toll need m s b d is scene there dear x y ds ps n play step e fits (es, qs, t, rest, solved, few) =
    let scene_x = play_scene scene play in
    let one = costs_played board toll need is b s x ds ps scene play in
    let two = costs_last board toll need is b x y d scene_x step e in
    let three = needs_hold board toll need is y t es qs (scene_after_push board x d y scene_x step) rest solved in
    absurd (omega (arith, dear, fits, few, one, two, three))

-- ---- what never helps leads to nothing

-- a walk leaves a box where it stands
still_there : (board : Board) (b : ℕ) (s x : Scene) (ds : List Dir) → contains s.boxes b ≡ true → Play board Any s ds [] x
    → Play board (λ z. contains z.boxes b ≡ true) s ds [] x
still_there board b s x ds here (stay ok) = stay here
still_there board b s x (d ∷ ds) here (walk {m = m} ok step play) =
    walk here step (still_there board b m x ds (ap (λ (z : Scene). contains z.boxes b) step.1 ∙ here) play)

pub never_leads_on : (board : Board) → NeverLeadsOn board
never_leads_on board left s t p scene never pushed =
    let q : ℕ = next board p.square (opposite p.dir) in
    let here : next board q p.dir ≡ p.square = ap (λ (d : Dir). next board q d) (sym (opposite_twice p.dir)) ∙
    next_back board p.square (opposite p.dir) (scene.boxes p.square pushed.there) (area_scene board s q scene pushed.behind).player.0 in
    let step : Pushes board (at s q) p.dir t =
    subst (λ (k : ℕ). (contains s.boxes k ≡ true) × IsFree board s.boxes (next board k p.dir) ×
    (t ≡ record { boxes = insert (remove s.boxes k) (next board k p.dir); player = k })) (sym here) (pushed.there, pushed.ahead, pushed.after) in
    let walked = still_there board p.square s (at s q) pushed.behind.0 pushed.there pushed.behind.1 in
    (none_is_not_solvable board left t).1 (never (at s q) t pushed.behind.0 [] left walked step here (omega arith))

-- Where something in a corral has to change, a push of a held box may as well come first.
use Rattle.std.proofs.Common.{◌≡◌, ℕ, suc, ◌+◌, ◌≤◌, Bool, true, List, length, refl, sym, ap, subst, ◌∙◌, inl, inr, arith}
use Rattle.std.proofs.lemmas.Bool.{true≢false}
use Rattle.grid.specs.declared.dir.Dir.{Dir}
use Rattle.grid.specs.declared.square.Push.{Push}
use Rattle.grid.specs.Squares.{Squares, contains}
use Rattle.grid.specs.Board.{Board, Scene, IsSolved, Pushes, is_wall, next, opposite}
use Rattle.grid.specs.States.{IsScene, FitsLevel}
use Rattle.grid.specs.Plays.{Play, Any, push_at}
use Rattle.grid.specs.Lawful.{IsLevel}
use Rattle.grid.proofs.lemmas.Plays.{play-map, play_last, play_fits, play_scene, push_from}
use Rattle.grid.proofs.lemmas.Steps.{push_arrived, push_kept, scene_after_push}
use Rattle.area.specs.Area.{Area}
use Rattle.doom.specs.Deadlocks.{Doomed}
use Rattle.doom.specs.Lost.{LosesBox}
use Rattle.doom.proofs.lemmas.Soundness.{doomed_lost}
use Rattle.prices.proofs.lemmas.Goals.{contains-goals}
use Rattle.prices.proofs.lemmas.Solved.{solved_are_goals}
use Rattle.corrals.specs.Trying.{LeadsOn}
use Rattle.prices.specs.Helping.{NeverHelps}
use Rattle.corrals.specs.Corrals.{IsCorral, FreezesHeld, HasToChange, IsReady, CorralsSuffice}
use Rattle.corrals.proofs.Exchange.{Good, Cut, not_held, stays_or_cut, exchanged}

-- more boxes are doomed as well
doomed_with : (board : Board) (xs ys : Squares) → ((q : ℕ) → contains xs q ≡ true → contains ys q ≡ true) → Doomed board xs → Doomed board ys
doomed_with board xs ys all (inl (q, there, dead)) = inl (q, all q there, dead)
doomed_with board xs ys all (inr (members, frozen)) =
    inr (members, record { some = λ q member. all q (frozen.some q member); off_goal = frozen.off_goal; blocked = frozen.blocked })

module _ (board : Board) (held room : ℕ → Bool) where
  -- a play after which the corral is as it was does not end solved
  is_changed : (s t : Scene) (ds : List Dir) (ps : List Push) → IsLevel board → FitsLevel board s → HasToChange board held room
      → Play board Any s ds ps t → IsSolved board t → IsCorral board held room t → ⊥
  is_changed s t ds ps level fits (inl (q, member, off)) play solved corral = true≢false (sym (solved q (corral.stands q member)) ∙ off)
  is_changed s t ds ps level fits (inr (q, inside, goal)) play solved corral =
      let all = solved_are_goals board t level (play_fits fits play) solved in
      true≢false (sym goal ∙ (sym (contains-goals board q) ∙ (sym (ap (λ (xs : Squares). contains xs q) all) ∙ corral.clear q inside)))

  abbrev Leads : ℕ → Scene → Type 0
  Leads m s = LeadsOn board m (λ p. held p.square ≡ true) s

  -- where boxes are doomed that stand after the push, it does not lead to a solved state
  not_frozen : (x y t : Scene) (d : Dir) (ds : List Dir) (ps : List Push) → IsScene board x → IsCorral board held room x → Pushes board x d y
      → Play board Any y ds ps t → IsSolved board t → FreezesHeld board held (next board x.player d) d → ⊥
  not_frozen x y t d ds ps scene corral step rest solved (boxes, among, doomed) =
      let b = next board x.player d in
      let stand : (q : ℕ) → contains boxes q ≡ true → contains y.boxes q ≡ true = λ q there. elim (among q there) [
        | inl e ↦ subst (λ (z : ℕ). contains y.boxes z ≡ true) e (push_arrived board x d y step)
        | inr (member, apart) ↦ push_kept board x d y step q apart (corral.stands q member)
      ] in
      doomed_lost board y (scene_after_push board x d y scene step) (doomed_with board boxes y.boxes stand doomed) t ds ps rest solved

  of_cut : (m : ℕ) (s t : Scene) (ps : List Push) → IsScene board s → IsCorral board held room s → IsSolved board t → length ps ≤ suc m
      → (c : Cut board held room s ps t) → IsReady board (suc m) held room s (next board c.before.player c.dir) c.dir → Leads m s
  of_cut m s t ps scene corral solved few c ready =
      let x = c.before in
      let good : Good board held room x = play_last c.outer in
      let back : next board (next board x.player c.dir) (opposite c.dir) ≡ x.player = push_from board x c.dir c.after good.0 c.pushed in
      let count = c.count in
      elim ready [
        | inl (inl (inl wall)) ↦ absurd (true≢false (sym wall ∙ (ap (is_wall board) back ∙ good.0.player.0)))
        | inl (inl (inr (inl member))) ↦ absurd (true≢false (sym member ∙ (ap held back ∙ not_held board held room x x.player good.1 good.0.player.1)))
        | inl (inl (inr (inr inside))) ↦ absurd (true≢false (sym inside ∙ (ap room back ∙ good.1.outside)))
        | inl (inr (inl wall)) ↦ absurd (true≢false (sym wall ∙ c.pushed.1.0))
        | inl (inr (inr member)) ↦ absurd (true≢false (sym (good.1.stands _ member) ∙ c.pushed.1.1))
        | inr (inl never) ↦
            (let standing = play-map (λ z good_z. good_z.1.stands _ c.member) c.outer in
            absurd (never x c.after c.early c.eps (length c.lps) standing c.pushed refl (omega (arith, count, few)) (
              c.late,
              c.lps,
              t,
              c.rest,
              solved,
              omega arith,
            )))
        | inr (inr (inl freezes)) ↦ absurd (not_frozen c.before c.after t c.dir c.late c.lps good.0 good.1 c.pushed c.rest solved freezes)
        | inr (inr (inr (inside, area))) ↦
            (let here = subst (Area board s) back area in
            let less : length c.eps + length c.lps ≤ m = omega (arith, count, few) in
            let both = exchanged board held room s x c.after t c.dir scene corral here m c.early c.late c.eps c.lps c.outer c.pushed c.member inside c.rest
            solved less in
            (push_at board x c.dir, _, c.member, both.0, both.1))
      ]

ready_less : (board : Board) (i j : ℕ) (held room : ℕ → Bool) (s : Scene) (b : ℕ) (d : Dir) → i ≤ j
    → IsReady board j held room s b d → IsReady board i held room s b d
ready_less board i j held room s b d less (inl barred) = inl barred
ready_less board i j held room s b d less (inr (inl never)) = inr (inl (λ x y ds ps n play step e le. never x y ds ps n play step e (omega (arith, le, less))))
ready_less board i j held room s b d less (inr (inr leads)) = inr (inr leads)

pub corrals_suffice : (board : Board) → CorralsSuffice board
corrals_suffice board level left held room s fits closure m le unsolved (ds, ps, t, play, solved, few) =
    elim (stays_or_cut board held room s t ds ps fits.scene closure.corral play) [
      | inl stays ↦ absurd (is_changed board held room s t ds ps level fits closure.change play solved stays)
      | inr c ↦
          (let b = next board c.before.player c.dir in
          let ready = ready_less board (suc m) (suc left) held room s b c.dir (omega (arith, le)) (closure.ready b c.dir c.member) in
          of_cut board held room m s t ps fits.scene closure.corral solved few c ready)
    ]

-- a push never helps where no state with a box on the square ahead leads to a solved one
pub losing_never_helps : (board : Board) (m : ℕ) (s : Scene) (b : ℕ) (d : Dir) → IsScene board s → LosesBox board (next board b d) → NeverHelps board m s b d
losing_never_helps board m s b d scene loses x y ds ps n play step e fits (es, qs, t, rest, solved, few) =
    let scene_y = scene_after_push board x d y (play_scene scene play) step in
    let arrived : contains y.boxes (next board b d) ≡ true = subst (λ (k : ℕ). contains y.boxes (next board k d) ≡ true) e (push_arrived board x d y step) in
    loses y scene_y arrived t es qs rest solved

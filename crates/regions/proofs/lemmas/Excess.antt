-- An excess comes on top of what all boxes need, and what regions say adds up to one.
use Rattle.std.proofs.Common.{◌≡◌, ◌≢◌, ℕ, suc, ◌+◌, ◌≤◌, ◌<◌, Bool, true, false, eqb, List, [], ◌∷◌, length, ◌⊎◌, inl, inr, refl, sym, ap}
use Rattle.std.proofs.Common.{subst, ◌∙◌, arith}
use Rattle.std.proofs.lemmas.Bool.{cases_lt, false≢true, eqb-false, eqb-true}
use Rattle.grid.specs.declared.dir.Dir.{Dir}
use Rattle.grid.specs.declared.square.Push.{Push}
use Rattle.grid.specs.declared.state.Step.TheVariants.{Walked, Pushed}
use Rattle.grid.specs.Squares.{Squares, contains, insert, remove}
use Rattle.grid.specs.Board.{Board, Scene, IsSolved, Walks, Pushes, next}
use Rattle.grid.specs.States.{FitsLevel, IsScene}
use Rattle.grid.specs.Plays.{Play, Any, stay, walk, push}
use Rattle.grid.proofs.lemmas.Levels.{fits_after_step}
use Rattle.grid.proofs.lemmas.Squares.{contains-insert_here, contains-insert_kept, contains-remove_other, contains-remove_out, contains-remove_parts}
use Rattle.grid.proofs.lemmas.Steps.{scene_after_walk, scene_after_push}
use Rattle.prices.specs.declared.pulls.TheConstants.{NEVER}
use Rattle.prices.specs.inside.Checks.{StayAway}
use Rattle.prices.specs.Prices.{AreFar, CanStand, IsNeed, goals_of, sum_over, total_need}
use Rattle.prices.proofs.lemmas.Prices.{can_stand, needs_hold, sum_inserted, sum_le, sum_put_back}
use Rattle.regions.specs.Regions.{AreFinite, ArePaid, AreRegions, CanCome, EndlessIsLost, ExcessIsBound, IsExcess, IsRegion, Region, PartsAddUp}
use Rattle.regions.specs.Regions.{endless, excess_of, waste_of}

-- a pushed box and the player can stand there before and after
stands_before : (board : Board) (s t : Scene) (d : Dir) → IsScene board s → Pushes board s d t → CanStand board (next board s.player d) s.player
stands_before board s t d scene step = can_stand board s (next board s.player d) scene step.0

stands_after : (board : Board) (s t : Scene) (d : Dir) → IsScene board s → Pushes board s d t
    → CanStand board (next board (next board s.player d) d) (next board s.player d)
stands_after board s t d scene step = record {
  floor = step.1.0;
  player = scene.boxes (next board s.player d) step.0;
  apart = λ e. false≢true (sym step.1.1 ∙ (ap (λ (x : ℕ). contains s.boxes x) (sym e) ∙ step.0));
}

-- two squares are one or two
pub same_or : (q b : ℕ) → (q ≡ b) ⊎ (q ≢ b)
same_or q b = by (eqb q b) (eqb-true q b) (eqb-false q b)
  where
    by : (e : Bool) → (e ≡ true → q ≡ b) → (e ≡ false → q ≢ b) → (q ≡ b) ⊎ (q ≢ b)
    by true same other = inl (same refl)
    by false same other = inr (other refl)

-- ---- along a play that ends solved each box can come to a goal

abbrev AllCome : Board → (ℕ → ℕ → ℕ → ℕ) → Squares → ℕ → Type 0
AllCome board far boxes p = (b : ℕ) → contains boxes b ≡ true → CanCome board far b p

module _ (board : Board) (far : ℕ → ℕ → ℕ → ℕ) (are : AreFar board far) (away : StayAway board far) where
  come_walk : (s t : Scene) (d : Dir) → IsScene board s → Walks board s d t → AllCome board far t.boxes t.player → AllCome board far s.boxes s.player
  come_walk s t d scene step come b there =
      let q = next board s.player d in
      let after : AllCome board far s.boxes q = subst (λ (x : Scene). AllCome board far x.boxes x.player) step.1 come in
      let it = after b there in
      let le = are.walk it.0 b s.player d (can_stand board s b scene there) (record {
        floor = scene.boxes b there;
        player = step.0.0;
        apart = λ e. false≢true (sym step.0.1 ∙ (ap (λ (x : ℕ). contains s.boxes x) e ∙ there));
      }) in
      let lt = it.2 in
      (it.0, it.1, omega (arith, le, lt))

  come_push : (s t : Scene) (d : Dir) → IsScene board s → Pushes board s d t → AllCome board far t.boxes t.player → AllCome board far s.boxes s.player
  come_push s t d scene step come b there = by (same_or q b)
    where
      p : ℕ
      p = s.player

      q : ℕ
      q = next board p d

      r : ℕ
      r = next board q d

      after : AllCome board far (insert (remove s.boxes q) r) q
      after = subst (λ (x : Scene). AllCome board far x.boxes x.player) step.2 come

      near : (g : ℕ) → far g r q < NEVER → far g q p < NEVER
      near g lt = elim (cases_lt (far g q p) NEVER) [
        | inl less ↦ less
        | inr never ↦ (
            let gone = away g p d (stands_before board s t d scene step) (stands_after board s t d scene step) never in
            absurd (omega (arith, gone, lt))
            )
      ]

      by : (q ≡ b) ⊎ (q ≢ b) → CanCome board far b p
      by (inl same) =
          let it = after r (contains-insert_here (remove s.boxes q) r) in
          subst (λ (x : ℕ). CanCome board far x p) same (it.0, it.1, near it.0 it.2)
      by (inr apart) =
          let it = after b (contains-insert_kept (remove s.boxes q) r b (contains-remove_other s.boxes q b apart ∙ there)) in
          let le = are.walk it.0 b p d (can_stand board s b scene there)
          (record { floor = scene.boxes b there; player = scene.boxes q step.0; apart = apart }) in
          let lt = it.2 in
          (it.0, it.1, omega (arith, le, lt))

  all_come : (s t : Scene) (ds : List Dir) (ps : List Push) → IsScene board s → Play board Any s ds ps t → IsSolved board t
      → AllCome board far s.boxes s.player
  all_come s t ds ps scene (stay ok) solved = λ b there. (
      let e = are.home b s.player (solved b there) (can_stand board s b scene there) in
      (b, solved b there, omega (arith, e))
      )
  all_come s t (d ∷ ds) ps scene (walk {m = m} ok step play) solved =
      come_walk s m d scene step (all_come m t ds ps (scene_after_walk board s d m scene step) play solved)
  all_come s t (d ∷ ds) (push_of ∷ ps) scene (push {m = m} ok step play) solved =
      come_push s m d scene step (all_come m t ds ps (scene_after_push board s d m scene step) play solved)

  -- so a pushed box can come to a goal after the push
  come_after : (s m t : Scene) (d : Dir) (ds : List Dir) (ps : List Push) → IsScene board s → Pushes board s d m → Play board Any m ds ps t
      → IsSolved board t → CanCome board far (next board (next board s.player d) d) (next board s.player d)
  come_after s m t d ds ps scene step play solved =
      let q = next board s.player d in
      let r = next board q d in
      let come = all_come m t ds ps (scene_after_push board s d m scene step) play solved in
      let after : AllCome board far (insert (remove s.boxes q) r) q = subst (λ (x : Scene). AllCome board far x.boxes x.player) step.2 come in
      after r (contains-insert_here (remove s.boxes q) r)

-- ---- a step, with what it lessens besides

module _ (board : Board) (toll : ℕ → ℕ) (need : ℕ → ℕ → ℕ) (is : IsNeed board toll need) where
  need_walk : (s t : Scene) (d : Dir) → IsScene board s → Walks board s d t → total_need need s ≤ total_need need t
  need_walk s t d scene step =
      let q = next board s.player d in
      let le = sum_le (λ b. need b s.player) (λ b. need b q) s.boxes
      (λ b there. is.walk b s.player d (can_stand board s b scene there) (record {
        floor = scene.boxes b there;
        player = step.0.0;
        apart = λ e. false≢true (sym step.0.1 ∙ (ap (λ (x : ℕ). contains s.boxes x) e ∙ there));
      })) in
      subst (λ (x : Scene). total_need need s ≤ total_need need x) (sym step.1) le

  need_push : (s t : Scene) (d : Dir) (e f : ℕ) → IsScene board s → Pushes board s d t → let q = next board s.player d in
      need q s.player + e ≤ suc (need (next board q d) q + f) → total_need need s + e ≤ suc (total_need need t + f)
  need_push s t d e f scene step pay =
      let q = next board s.player d in
      let r = next board q d in
      let floor = scene.boxes q step.0 in
      let before = sum_put_back (λ b. need b s.player) 0 s.boxes q scene.rising step.0 in
      let after = sum_inserted (λ b. need b q) (remove s.boxes q) r (contains-remove_out s.boxes q r step.1.1) in
      let others = sum_le (λ b. need b s.player) (λ b. need b q) (remove s.boxes q) (λ b there. (
      let parts = contains-remove_parts s.boxes q b there in
      is.walk b s.player d (can_stand board s b scene parts.1)
      (record { floor = scene.boxes b parts.1; player = floor; apart = parts.0 })
      )) in
      subst (λ (x : Scene). total_need need s + e ≤ suc (total_need need x + f)) (sym step.2)
      (omega (arith, before, after, pay, others))

  module _ (far : ℕ → ℕ → ℕ → ℕ) (excess : Scene → ℕ) (are : AreFar board far) (away : StayAway board far) (has : IsExcess board far need excess) where
    played : (s t : Scene) (ds : List Dir) (ps : List Push) → FitsLevel board s → Play board Any s ds ps t → IsSolved board t
        → total_need need s + excess s ≤ length ps + sum_over toll (goals_of board)
    played s t ds ps fits (stay ok) solved =
        let none = has.home s fits solved in
        let le = needs_hold board toll need is s s [] [] fits.scene (stay ok) solved in
        omega (arith, none, le)
    played s t (d ∷ ds) ps fits (walk {m = m} ok step play) solved =
        let rest = played m t ds ps (fits_after_step board s d Walked m fits step) play solved in
        let le = need_walk s m d fits.scene step in
        let less = has.walk s m d fits step in
        omega (arith, rest, le, less)
    played s t (d ∷ ds) (push_of ∷ ps) fits (push {m = m} ok step play) solved =
        let rest = played m t ds ps (fits_after_step board s d Pushed m fits step) play solved in
        let come = come_after board far are away s m t d ds ps fits.scene step play solved in
        let le = need_push s m d (excess s) (excess m) fits.scene step (has.push s m d fits step come) in
        omega (arith, rest, le)

pub excess_is_bound : (board : Board) → ExcessIsBound board
excess_is_bound board far toll need excess are away is has s m fits lt ds ps t play solved =
    let le = played board toll need is far excess are away has s t ds ps fits play solved in
    omega (arith, le, lt)

-- ---- what regions say adds up

none_home : (board : Board) (ps : List Region) (s : Scene) → AreRegions board ps → FitsLevel board s → IsSolved board s → excess_of ps s ≡ 0
none_home board [] s are fits solved = refl
none_home board (p ∷ ps) s (is, are) fits solved =
    let one = is.home s fits solved in
    let rest = none_home board ps s are fits solved in
    omega (arith, one, rest)

all_walk : (board : Board) (ps : List Region) (s t : Scene) (d : Dir) → AreRegions board ps → FitsLevel board s → Walks board s d t
    → excess_of ps s ≤ excess_of ps t
all_walk board [] s t d are fits step = omega arith
all_walk board (p ∷ ps) s t d (is, are) fits step =
    let one = is.walk s t d fits step in
    let rest = all_walk board ps s t d are fits step in
    omega (arith, one, rest)

all_push : (board : Board) (ps : List Region) (s t : Scene) (d : Dir) → AreRegions board ps → FitsLevel board s → Pushes board s d t
    → AreFinite ps (next board s.player d) d → excess_of ps s ≤ waste_of ps (next board s.player d) d + excess_of ps t
all_push board [] s t d are fits step finite = omega arith
all_push board (p ∷ ps) s t d (is, are) fits step (small, finite) =
    let one = (is.push s t d fits step small).less in
    let rest = all_push board ps s t d are fits step finite in
    omega (arith, one, rest)

pub parts_add_up : (board : Board) → PartsAddUp board
parts_add_up board far need ps are paid = record {
  home = λ s fits solved. none_home board ps s are fits solved;
  walk = λ s t d fits step. all_walk board ps s t d are fits step;
  push = λ s t d fits step come. (
      let pay = paid s.player d (stands_before board s t d fits.scene step) (stands_after board s t d fits.scene step) come in
      let cost = pay.1 in
      let le = all_push board ps s t d are fits step pay.0 in
      omega (arith, cost, le)
      );
}

-- ---- where one of them says that it is endless

module _ (board : Board) (far : ℕ → ℕ → ℕ → ℕ) (need : ℕ → ℕ → ℕ) (part : Region) (are : AreFar board far) (away : StayAway board far)
    (is : IsRegion board part.waste part.excess) (paid : ArePaid board far need (part ∷ [])) where
  lost : (s t : Scene) (ds : List Dir) (ps : List Push) → FitsLevel board s → endless ≤ part.excess s → Play board Any s ds ps t → ¬ (IsSolved board t)
  lost s t ds ps fits le (stay ok) solved = let none = is.home s fits solved in absurd (omega (arith, le, none))
  lost s t (d ∷ ds) ps fits le (walk {m = m} ok step play) solved =
      let more = is.walk s m d fits step in
      lost m t ds ps (fits_after_step board s d Walked m fits step) (omega (arith, le, more)) play solved
  lost s t (d ∷ ds) (push_of ∷ ps) fits le (push {m = m} ok step play) solved =
      let come = come_after board far are away s m t d ds ps fits.scene step play solved in
      let pay = paid s.player d (stands_before board s m d fits.scene step) (stands_after board s m d fits.scene step) come in
      let stuck = (is.push s m d fits step pay.0.0).stuck le in
      lost m t ds ps (fits_after_step board s d Pushed m fits step) stuck play solved

pub endless_is_lost : (board : Board) → EndlessIsLost board
endless_is_lost board far need part are away is paid s fits le t ds ps play solved =
    lost board far need part are away is paid s t ds ps fits le play solved

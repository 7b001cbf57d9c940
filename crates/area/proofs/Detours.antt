-- What a push leaves of an area: where the squares round the box tell it, it is the area before the push, without the
-- square that the box goes to and with the one that it leaves.
use Rattle.std.proofs.Common.{◌≡◌, ◌≢◌, ℕ, ◌≤◌, true, ◌⊎◌, inl, inr, List, [], refl, sym, ap, subst, ◌∙◌}
use Rattle.std.proofs.lemmas.Bool.{cases_eq, true≢false}
use Rattle.grid.specs.declared.dir.Dir.{Dir}
use Rattle.grid.specs.declared.dir.Dir.TheVariants.{D, L, R, U}
use Rattle.grid.specs.declared.square.Push.{Push}
use Rattle.grid.specs.Squares.{Squares, contains, insert, remove}
use Rattle.grid.specs.Board.{Board, Scene, IsFree, next, opposite}
use Rattle.grid.specs.States.{IsScene}
use Rattle.grid.specs.Plays.{Play, Any, stay, walk}
use Rattle.grid.proofs.lemmas.Steps.{walk_player, walk_boxes, walk_to}
use Rattle.grid.proofs.lemmas.Squares.{contains-insert_here, contains-insert_other, contains-remove_other}
use Rattle.grid.proofs.lemmas.Plays.{play_walk_on}
use Rattle.area.specs.Area.{Area, IsNorm, at}
use Rattle.area.specs.After.{IsAreaOf, IsPushed}
use Rattle.area.specs.inside.Detours.{across, Skirts, IsKnown, GainsNothing, StaysJoined, IsLeastWith}
use Rattle.area.specs.inside.Detours.Skirts.{here, onward}
use Rattle.area.proofs.lemmas.Norms.{area_here, area_same, norm_found}
use Rattle.area.proofs.Reached.{walk_free}

-- a step from a square of the area onto a free square stays in the area
pub area_step : (board : Board) (s : Scene) (q : ℕ) (d : Dir) → Area board s q → IsFree board s.boxes (next board q d) → Area board s (next board q d)
area_step board s q d w free = (_, play_walk_on d w.1 (walk_to board (at s q) d free) tt)

-- where each step from a square with the property to a free square leads to one with it, walks do too
pub along_walks : (board : Board) (boxes : Squares) (P : ℕ → Type 0) → ((q : ℕ) (d : Dir) → P q → IsFree board boxes (next board q d) → P (next board q d)) →
    {s t : Scene} {ds : List Dir} → s.boxes ≡ boxes → P s.player → Play board Any s ds [] t → P t.player
along_walks board boxes P step same start (stay o) = start
along_walks board boxes P step {s = s} same start (walk {m = m} {d = d} o h p) =
    let free : IsFree board boxes (next board s.player d) = subst (λ (b : Squares). IsFree board b (next board s.player d)) same h.0 in
    let there : P m.player = subst P (sym (walk_player board s d m h)) (step s.player d start free) in
    along_walks board boxes P step (walk_boxes board s d m h ∙ same) there p

module _ (board : Board) (s : Scene) (p : Push) (t : Scene) (scene : IsScene board s) (pushed : IsPushed board s p t) where
  abbrev pub b : ℕ
  b = p.square

  abbrev pub c : ℕ
  c = next board p.square p.dir

  boxes_after : t.boxes ≡ insert (remove s.boxes b) c
  boxes_after = ap (λ (x : Scene). x.boxes) pushed.after

  player_after : t.player ≡ b
  player_after = ap (λ (x : Scene). x.player) pushed.after

  -- a square that is free before the push is free after it, unless the box goes there
  free_after : (x : ℕ) → x ≢ c → IsFree board s.boxes x → IsFree board t.boxes x
  free_after x ne free =
      let other : b ≢ x = λ e. true≢false (sym pushed.there ∙ (ap (λ (y : ℕ). contains s.boxes y) e ∙ free.1)) in (
        free.0,
        ap (λ (xs : Squares). contains xs x) boxes_after ∙
            (contains-insert_other (remove s.boxes b) c x (λ e. ne (sym e)) ∙ (contains-remove_other s.boxes b x other ∙ free.1)),
      )

  -- after the push the box stands where it went
  not_ahead : (x : ℕ) → IsFree board t.boxes x → x ≢ c
  not_ahead x free e = true≢false (sym (contains-insert_here (remove s.boxes b) c) ∙
      (ap (λ (xs : Squares). contains xs c) (sym boxes_after) ∙ (ap (λ (y : ℕ). contains t.boxes y) (sym e) ∙ free.1)))

  -- a square that is free after the push was free before it, unless the box came from there
  free_before : (x : ℕ) → x ≢ b → IsFree board t.boxes x → IsFree board s.boxes x
  free_before x ne free =
      let other : c ≢ x = λ e. not_ahead x free (sym e) in (
        free.0,
        sym (contains-insert_other (remove s.boxes b) c x other ∙ contains-remove_other s.boxes b x (λ e. ne (sym e))) ∙
            (ap (λ (xs : Squares). contains xs x) (sym boxes_after) ∙ free.1),
      )

  -- the player stands where the box was
  area_box : Area board t b
  area_box = subst (λ (x : ℕ). Area board t x) player_after (area_here board t)

  module _ (reached : Squares) (area : IsAreaOf board s reached) where
    -- what is come to round the box's new square is reached after the push
    skirted : (x : ℕ) → Skirts board reached c b x → Area board t x
    skirted _ here = area_box
    skirted _ (onward {q = q} d before there ne) =
        area_step board t q d (skirted q before) (free_after (next board q d) ne (walk_free board s _ _ scene ((area (next board q d)).0 there).1))

    -- nothing is gained but the square that the box left
    gained : GainsNothing board s.boxes reached c b → (x : ℕ) → Area board t x → (x ≡ b) ⊎ Area board s x
    gained known x w = along_walks board t.boxes (λ (y : ℕ). (y ≡ b) ⊎ Area board s y) step refl (inl player_after) w.1
      where
        from_box : (d : Dir) → IsFree board t.boxes (next board b d) → IsKnown board s.boxes reached c b d → (next board b d ≡ b) ⊎
            Area board s (next board b d)
        from_box d free (inl (inl e)) = absurd (not_ahead (next board b d) free e)
        from_box d free (inl (inr wall)) = absurd (true≢false (sym wall ∙ free.0))
        from_box d free (inr (inl box)) = elim (cases_eq (next board b d) b) [
          | inl e ↦ inl e
          | inr ne ↦ absurd (true≢false (sym box ∙ (free_before (next board b d) ne free).1))
        ]
        from_box d free (inr (inr there)) = inr ((area (next board b d)).0 there)

        step : (y : ℕ) (d : Dir) → (y ≡ b) ⊎ Area board s y → IsFree board t.boxes (next board y d) → (next board y d ≡ b) ⊎ Area board s (next board y d)
        step y d (inl e) free = subst (λ (z : ℕ). (next board z d ≡ b) ⊎
            Area board s (next board z d)) (sym e) (from_box d (subst (λ (z : ℕ). IsFree board t.boxes (next board z d)) e free) (known d))
        step y d (inr w) free = elim (cases_eq (next board y d) b) [
          | inl e ↦ inl e
          | inr ne ↦ inr (area_step board s y d w (free_before (next board y d) ne free))
        ]

    -- where the squares beside the one that the box went to stay joined, nothing is lost but that square
    kept : StaysJoined board reached c b → (x : ℕ) → Area board s x → Area board t x ⊎ (x ≡ c)
    kept joined x w =
        let home = (area_same board s behind x scene pushed.behind).0 w in
        (along_walks board s.boxes (λ (y : ℕ). Area board s y × (Area board t y ⊎ (y ≡ c))) step refl (pushed.behind, start) home.1).1
      where
        behind : ℕ
        behind = next board p.square (opposite p.dir)

        start : Area board t behind ⊎ (behind ≡ c)
        start = elim (cases_eq behind c) [
          | inl e ↦ inr e
          | inr ne ↦ inl (area_step board t b (opposite p.dir) area_box (free_after behind ne (walk_free board s _ _ scene pushed.behind.1)))
        ]

        onto : (y : ℕ) (d : Dir) → Area board s y → Area board t y ⊎ (y ≡ c) → IsFree board s.boxes (next board y d) → Area board s (next board y d) →
            next board y d ≢ c → Area board t (next board y d)
        onto y d w (inl v) free there ne = area_step board t y d v (free_after (next board y d) ne free)
        onto y d w (inr e) free there ne =
            let in_set : contains reached c ≡ true = subst (λ (z : ℕ). contains reached z ≡ true) e ((area y).1 w) in
            let beside : contains reached (next board c d) ≡ true =
            subst (λ (z : ℕ). contains reached (next board z d) ≡ true) e ((area (next board y d)).1 there) in
            subst (λ (z : ℕ). Area board t (next board z d)) (sym e) (skirted (next board c d) (joined in_set d beside))

        step : (y : ℕ) (d : Dir) → Area board s y × (Area board t y ⊎ (y ≡ c)) → IsFree board s.boxes (next board y d) → Area board s (next board y d) ×
            (Area board t (next board y d) ⊎ (next board y d ≡ c))
        step y d (w, v) free =
            let there = area_step board s y d w free in (
              there,
              elim (cases_eq (next board y d) c) [
                | inl e ↦ inr e
                | inr ne ↦ inl (onto y d w v free there ne)
              ],
            )

    -- so nothing of the area is less than the least of what may be left of it
    none_below : IsScene board t → GainsNothing board s.boxes reached c b → (q : ℕ) → IsLeastWith reached c b q → (r : ℕ) → Area board t r → q ≤ r
    none_below scene_after known q least r w = elim (gained known r w) [
      | inl f ↦ subst (λ (x : ℕ). q ≤ x) (sym f) least.most
      | inr v ↦ least.least r ((area r).1 v) (not_ahead r (walk_free board t _ _ scene_after w.1))
    ]

    -- what was reached is reached after the push
    pub still_reached : StaysJoined board reached c b → (x : ℕ) → contains reached x ≡ true → x ≢ c → Area board t x
    still_reached joined x there ne = elim (kept joined x ((area x).0 there)) [
      | inl w ↦ w
      | inr f ↦ absurd (ne f)
    ]

    -- so the least square of the area after the push is the least of those
    pub norm_after : IsScene board t → GainsNothing board s.boxes reached c b → StaysJoined board reached c b → (n : Scene) (q : ℕ) → n ≡ at t q →
        IsLeastWith reached c b q → IsNorm board t n
    norm_after scene_after known joined n q e least = norm_found board t n q e inside (none_below scene_after known q least)
      where
        of_one : (q ≡ b) ⊎ ((contains reached q ≡ true) × (q ≢ c)) → Area board t q
        of_one (inl f) = subst (λ (x : ℕ). Area board t x) (sym f) area_box
        of_one (inr (there, ne)) = still_reached joined q there ne

        inside : Area board t q
        inside = of_one least.one

-- a direction, the one back and the two across make all directions
pub all_round : (P : Dir → Type 0) (d : Dir) → P d → P (opposite d) → P (across d) → P (opposite (across d)) → (e : Dir) → P e
all_round P D ahead back side other D = ahead
all_round P D ahead back side other L = other
all_round P D ahead back side other R = side
all_round P D ahead back side other U = back
all_round P L ahead back side other D = side
all_round P L ahead back side other L = ahead
all_round P L ahead back side other R = back
all_round P L ahead back side other U = other
all_round P R ahead back side other D = side
all_round P R ahead back side other L = back
all_round P R ahead back side other R = ahead
all_round P R ahead back side other U = other
all_round P U ahead back side other D = back
all_round P U ahead back side other L = other
all_round P U ahead back side other R = side
all_round P U ahead back side other U = ahead

-- one step more round a square
pub skirt_on : (board : Board) (set : Squares) (but from q r : ℕ) (d : Dir) → Skirts board set but from q → r ≡ next board q d → contains set r ≡ true →
    r ≢ but → Skirts board set but from r
skirt_on board set but from q r d before e there ne =
    subst (λ (x : ℕ). Skirts board set but from x) (sym e) (onward d before (subst (λ (x : ℕ). contains set x ≡ true) e there) (λ f. ne (e ∙ f)))

-- A set of boxes passes where its row passes each listed step.
use Rattle.std.proofs.Common.{◌≡◌, ◌≢◌, ◌+◌, ◌-◌, ◌<◌, ◌≤◌, ℕ, true, false, List, Some, length, slice_get, inl, inr}
use Rattle.std.proofs.Common.{subst, sym, arith}
use Rattle.std.specs.Int.RustNames.{bit_and, bit_or}
use Rattle.grid.specs.declared.dir.Dir.{Dir}
use Rattle.grid.specs.Squares.{contains}
use Rattle.grid.specs.Board.{is_goal, next, opposite}
use Rattle.regions.specs.declared.listing.Look.{Look}
use Rattle.regions.specs.declared.listing.PushStep.{PushStep}
use Rattle.regions.specs.declared.listing.Steps.{Steps}
use Rattle.regions.specs.declared.listing.WalkStep.{WalkStep}
use Rattle.regions.specs.declared.table.RegionTable.{RegionTable}
use Rattle.regions.specs.Regions.{IsLeft}
use Rattle.regions.specs.inside.Checks.{SeatPays, SetPasses, WalksKeep}
use Rattle.regions.specs.inside.Listing.{AreListed, PaysFor, WalkKeeps, bit_of, box_in, push_in, walk_in}
use Rattle.regions.specs.inside.Tables.{byte_in, byte_for, row_of, waste_in}
use Rattle.regions.proofs.Bits.{both_free, box_bit, free_bit}

-- a push pays where its waste pays for what was before it
pub covered : (t : RegionTable) (set high low row before : ℕ) (p : PushStep) → row ≡ row_of t high low →
    before ≡ byte_in t row p.player → ((after : ℕ) → IsLeft before p.waste after) → PaysFor t set high low p
covered t set high low row before p is said left free =
    subst (λ (r : ℕ). IsLeft (byte_in t r p.player) p.waste after) is (subst (λ (n : ℕ). IsLeft n p.waste after) said (left after))
  where
    after : ℕ
    after = byte_in t (row_of t ((high - p.left.high) + p.entered.high) ((low - p.left.low) + p.entered.low)) p.place

module _ (look : Look) (steps : Steps) (listed : AreListed look steps) (set high low : ℕ) where
  abbrev t : RegionTable
  t = look.table.now

  free : (p q : ℕ) → box_in look.bits.now set p ≡ false → box_in look.bits.now set q ≡ false
      → bit_and set (bit_or (bit_of look.bits.now p) (bit_of look.bits.now q)) ≡ 0
  free p q first second = both_free set (bit_of look.bits.now p) (bit_of look.bits.now q)
      (free_bit look.bits.now set p first) (free_bit look.bits.now set q second)

  walks_pass : ((i : ℕ) (w : WalkStep) → slice_get steps.walks.items i ≡ Some w → WalkKeeps t set (row_of t high low) w) →
      (z : ℕ) → contains t.squares.items z ≡ true →
      WalksKeep look.level.now t (box_in look.bits.now set) (row_of t high low) z
  walks_pass keep z there here d ahead = elim (listed.walk z there d here.0 ahead.0) [
    | inl has ↦ (
        let e = keep has.0 (walk_in look z y) has.1 (free z y here.1 ahead.1) in
        record { there = omega (arith, e); back = λ _. omega (arith, e) })
    | inr has ↦ (
        let e = keep has.0 (walk_in look y z) has.1 (free y z ahead.1 here.1) in
        record { there = omega (arith, e); back = λ _. omega (arith, e) })
  ]
    where
      y : ℕ
      y = next look.level.now z d

  seats_pass : (left : ℕ) →
      ((i : ℕ) (p : PushStep) → slice_get steps.pushes.items i ≡ Some p → bit_and set p.seat ≢ 0 →
      PaysFor t set high low p) →
      (1 ≤ left → (i : ℕ) (p : PushStep) → slice_get steps.entries.items i ≡ Some p → PaysFor t set high low p) →
      (q : ℕ) → contains look.seats.now.boxes q ≡ true → (d : Dir) →
      SeatPays look.level.now t (waste_in look.wastes.now) (box_in look.bits.now set) high low left q d
  seats_pass left pushes entries q there d = record {
    push = λ box floor open_p open_r small. (
        let p = next look.level.now q (opposite d) in
        let r = next look.level.now q d in
        let has = (listed.seat q there d).push open_p.0 open_r.0 small in
        pushes has.0 (push_in look p q r d) has.1 (box_bit look.bits.now set q box) (free p r open_p.1 open_r.1));
    enter = λ none some floor_r floor_b unseen open_p small. (
        let b = next look.level.now q (opposite d) in
        let p = next look.level.now b (opposite d) in
        let has = (listed.seat q there d).enter floor_b unseen open_p.0 small in
        entries some has.0 (push_in look p b q d) has.1 (free p q open_p.1 none));
  }

  -- so it is, if the row begins where that of the set does, and these are the lists
  pub set_passes : (row left : ℕ) (ws : List WalkStep) (ps es : List PushStep) → row ≡ row_of t high low →
      ws ≡ steps.walks.items → ps ≡ steps.pushes.items → es ≡ steps.entries.items →
      ((i : ℕ) (w : WalkStep) → slice_get ws i ≡ Some w → WalkKeeps t set row w) →
      ((i : ℕ) (p : PushStep) → slice_get ps i ≡ Some p → bit_and set p.seat ≢ 0 → PaysFor t set high low p) →
      (1 ≤ left → (i : ℕ) (p : PushStep) → slice_get es i ≡ Some p → PaysFor t set high low p) →
      (((q : ℕ) → contains look.seats.now.boxes q ≡ true → box_in look.bits.now set q ≡ is_goal look.level.now q) →
      (p : ℕ) → p < length look.level.now.cells → byte_for t row p ≡ 0) →
      SetPasses look.level.now t (waste_in look.wastes.now) look.seats.now.boxes (box_in look.bits.now set) high low left
  set_passes row left ws ps es is ws_are ps_are es_are keep pushes entries home = record {
    home = λ same p inside. subst (λ (r : ℕ). byte_for t r p ≡ 0) is (home same p inside);
    walk = λ z there. walks_pass (λ i w has. subst (λ (r : ℕ). WalkKeeps t set r w) is
        (keep i w (subst (λ (xs : List WalkStep). slice_get xs i ≡ Some w) (sym ws_are) has))) z there;
    seat = λ q there d. seats_pass left
        (λ i p has. pushes i p (subst (λ (xs : List PushStep). slice_get xs i ≡ Some p) (sym ps_are) has))
        (λ some i p has. entries some i p (subst (λ (xs : List PushStep). slice_get xs i ≡ Some p) (sym es_are) has))
        q there d;
  }

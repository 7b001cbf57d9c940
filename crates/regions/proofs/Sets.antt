-- A table of which each set of boxes passes says what is so of each state.
use Rattle.std.proofs.Common.{◌≡◌, ◌≢◌, ◌+◌, ◌-◌, ◌<◌, ◌≤◌, ◌&&◌, ◌||◌, ◌==◌, ℕ, zero, suc, Bool, true, false, cond}
use Rattle.std.proofs.Common.{not, List, [], ◌∷◌, drop, length, slice_index_or, take, inl, inr, refl, sym, ap, subst}
use Rattle.std.proofs.Common.{◌∙◌, arith}
use Rattle.std.specs.Int.RustNames.{bit_and, bit_or}
use Rattle.std.proofs.lemmas.Bool.{and_parts, eqb-true, false≢true, ne_eqb, true≢false}
use Rattle.grid.specs.declared.dir.Dir.{Dir}
use Rattle.grid.specs.Squares.{Squares, contains, insert, remove}
use Rattle.grid.specs.Rising.{rises_from, is_rising}
use Rattle.grid.specs.Board.{Board, IsSolved, Pushes, Scene, Walks, is_wall, next, opposite}
use Rattle.grid.specs.Lawful.{IsLevel, box_count}
use Rattle.grid.specs.States.{FitsLevel}
use Rattle.grid.proofs.lemmas.Squares.{contains_head, contains-from, contains_tail, contains-remove_out}
use Rattle.grid.proofs.lemmas.Squares.{contains-remove_other, contains-remove_parts, is_rising-remove, length-remove}
use Rattle.grid.proofs.lemmas.Squares.{rises_from-parts}
use Rattle.grid.proofs.lemmas.Steps.{inside_grid, next_back}
use Rattle.prices.specs.Prices.{sum_over}
use Rattle.prices.proofs.lemmas.Goals.{contains-goals}
use Rattle.prices.proofs.lemmas.Prices.{sum_inserted, sum_le, sum_put_back}
use Rattle.prices.proofs.lemmas.Solved.{solved_are_goals}
use Rattle.regions.specs.declared.table.RegionTable.{RegionTable}
use Rattle.regions.specs.Regions.{IsLeft, IsRegion, endless}
use Rattle.regions.specs.inside.Tables.{entry_at, byte_for, high_of, is_seat, low_of, place_of, row_of, says}
use Rattle.regions.proofs.Bits.{box_other, box_put, no_bit, no_box}
use Rattle.regions.proofs.lemmas.Excess.{same_or}
use Rattle.regions.specs.inside.Checks.{HasSteps, IsVacant, Pays, SetPasses, SetsPass, one, sum_where}
use Rattle.regions.specs.inside.Listing.{HasOwnBit, bit_of, box_in}

-- ---- sums over the seats are sums over the boxes

sum_nothing : (f : ℕ → ℕ) (xs : Squares) → ((q : ℕ) → contains xs q ≡ true → f q ≡ 0) → sum_over f xs ≡ 0
sum_nothing f [] none = refl
sum_nothing f (x ∷ xs) none =
    let here = none x (contains_head x xs) in
    let rest = sum_nothing f xs (λ q there. none q (contains_tail x xs q there)) in
    omega (arith, here, rest)

sum_equal : (f g : ℕ → ℕ) (xs : Squares) → ((q : ℕ) → contains xs q ≡ true → f q ≡ g q) → sum_over f xs ≡ sum_over g xs
sum_equal f g xs same =
    let le = sum_le f g xs (λ q there. (let e = same q there in omega (arith, e))) in
    let ge = sum_le g f xs (λ q there. (let e = same q there in omega (arith, e))) in
    omega (arith, le, ge)

outside_head : (x : ℕ) (xs : Squares) (q : ℕ) → x ≢ q → contains xs q ≡ false → contains (x ∷ xs) q ≡ false
outside_head x xs q apart out = ap (λ (b : Bool). b || contains xs q) (ne_eqb x q apart) ∙ out

-- numbers of boxes that are nothing off the seats have the sum of those of the seats with boxes
abbrev Gathers : (ℕ → ℕ) → Squares → Squares → Type 0
Gathers f xs ys = ((q : ℕ) → contains ys q ≡ true → contains xs q ≡ false → f q ≡ 0)
    → sum_over (λ q. cond (contains ys q) (f q) 0) xs ≡ sum_over f ys

gather : (f : ℕ → ℕ) (k : ℕ) (xs ys : Squares) → rises_from k xs ≡ true → is_rising ys ≡ true
    → Gathers f xs ys
gather f k [] ys rises rising none = sym (sum_nothing f ys (λ q there. none q there refl))
gather f k (x ∷ xs) ys rises rising none = by (contains ys x) refl
    (λ rest. gather f (suc x) xs (remove ys x) parts.1 (is_rising-remove ys x rising) rest)
    (λ rest. gather f (suc x) xs ys parts.1 rising rest)
  where
    parts : (k ≤ x) × (rises_from (suc x) xs ≡ true)
    parts = rises_from-parts k x xs rises

    apart : (q : ℕ) → contains xs q ≡ true → x ≢ q
    apart q there e = let from = contains-from (suc x) xs q parts.1 there in omega (arith, e, from)

    by : (b : Bool) → contains ys x ≡ b → Gathers f xs (remove ys x) → Gathers f xs ys
        → cond b (f x) 0 + sum_over (λ q. cond (contains ys q) (f q) 0) xs ≡ sum_over f ys
    by true there without with =
        let put = sum_put_back f 0 ys x rising there in
        let rest = without (λ q h out. (let both = contains-remove_parts ys x q h in
        none q both.1 (outside_head x xs q both.0 out))) in
        let same = sum_equal (λ q. cond (contains (remove ys x) q) (f q) 0) (λ q. cond (contains ys q) (f q) 0) xs
        (λ q h. ap (λ (b : Bool). cond b (f q) 0) (contains-remove_other ys x q (apart q h))) in
        omega (arith, put, rest, same)
    by false gone without with =
        let rest = with (λ q h out. none q h (outside_head x xs q
        (λ e. true≢false (sym h ∙ (ap (λ (z : ℕ). contains ys z) (sym e) ∙ gone))) out)) in
        omega (arith, rest)

-- 1 for a seat, 0 for another square
abbrev seat_one : Squares → ℕ → ℕ
seat_one xs q = cond (contains xs q) 1 0

-- seats among boxes are no more than the boxes, and fewer where a box is on no seat
seats_few : (xs ys : Squares) → sum_over (seat_one xs) ys ≤ length ys
seats_few xs [] = omega arith
seats_few xs (y ∷ ys) = by (contains xs y) (seats_few xs ys)
  where
    by : (b : Bool) → sum_over (seat_one xs) ys ≤ length ys
        → cond b 1 0 + sum_over (seat_one xs) ys ≤ suc (length ys)
    by true le = omega (arith, le)
    by false le = omega (arith, le)

seats_fewer : (xs ys : Squares) (q : ℕ) → is_rising ys ≡ true → contains ys q ≡ true → contains xs q ≡ false
    → suc (sum_over (seat_one xs) ys) ≤ length ys
seats_fewer xs ys q rising there out =
    let put = sum_put_back (seat_one xs) 0 ys q rising there in
    let none : seat_one xs q ≡ 0 = ap (λ (b : Bool). cond b 1 0) out in
    let few = seats_few xs (remove ys q) in
    let size = length-remove ys q rising there in
    omega (arith, put, none, few, size)

-- ---- a state

-- the boxes that are seen
abbrev high_in : RegionTable → Scene → ℕ
high_in t s = sum_over (high_of t) s.boxes

abbrev low_in : RegionTable → Scene → ℕ
low_in t s = sum_over (low_of t) s.boxes

abbrev seen : Squares → Squares → ℕ → Bool
seen seats boxes q = contains seats q && contains boxes q

-- how many boxes more there may be on seats
abbrev room : Board → Squares → Scene → ℕ
room board seats s = box_count board - sum_where (seen seats s.boxes) one seats

module _ (seats boxes : Squares) where
  seen_here : (q : ℕ) → contains seats q ≡ true → seen seats boxes q ≡ contains boxes q
  seen_here q there = ap (λ (b : Bool). b && contains boxes q) there

  not_listed : (q : ℕ) → contains seats q ≡ false → seen seats boxes q ≡ false
  not_listed q out = ap (λ (b : Bool). b && contains boxes q) out

  not_seen : (q : ℕ) → contains boxes q ≡ false → seen seats boxes q ≡ false
  not_seen q free = by (contains seats q)
    where
      by : (b : Bool) → (b && contains boxes q) ≡ false
      by true = free
      by false = refl

  sum_seen : (f : ℕ → ℕ) → is_rising seats ≡ true → is_rising boxes ≡ true →
      ((q : ℕ) → contains boxes q ≡ true → contains seats q ≡ false → f q ≡ 0) →
      sum_where (seen seats boxes) f seats ≡ sum_over f boxes
  sum_seen f first second none =
      sum_equal (λ q. cond (seen seats boxes q) (f q) 0) (λ q. cond (contains boxes q) (f q) 0) seats
      (λ q there. ap (λ (b : Bool). cond b (f q) 0) (seen_here q there))
      ∙ gather f 0 seats boxes first second none

  count_seen : is_rising seats ≡ true → is_rising boxes ≡ true
      → sum_where (seen seats boxes) one seats ≡ sum_over (seat_one seats) boxes
  count_seen first second =
      sum_equal (λ q. cond (seen seats boxes q) (one q) 0) (λ q. cond (seen seats boxes q) (seat_one seats q) 0) seats
      (λ q there. ap (λ (b : Bool). cond (seen seats boxes q) (cond b 1 0) 0) (sym there))
      ∙ sum_seen (seat_one seats) first second (λ q there out. ap (λ (b : Bool). cond b 1 0) out)

no_key : (high low : ℕ) → not ((high == 0) && (low == 0)) ≡ false → (high ≡ 0) × (low ≡ 0)
no_key high low e =
    let both = and_parts (high == 0) (low == 0) (by ((high == 0) && (low == 0)) e) in
    (eqb-true high 0 both.0, eqb-true low 0 both.1)
  where
    by : (b : Bool) → not b ≡ false → b ≡ true
    by true h = refl
    by false h = absurd (true≢false h)

-- ---- one seat more

module _ (board : Board) (t : RegionTable) (waste : ℕ → Dir → ℕ) (seats : Squares) where
  -- the numbers of a set that passes may be written in another way
  so_written : (box : ℕ → Bool) (high low left h l m : ℕ) → high ≡ h → low ≡ l → left ≡ m →
      SetPasses board t waste seats box high low left → SetPasses board t waste seats box h l m
  so_written box high low left h l m first second third passes =
      subst (λ (k : ℕ). SetPasses board t waste seats box h l k) third
      (subst (λ (k : ℕ). SetPasses board t waste seats box h k left) second
      (subst (λ (k : ℕ). SetPasses board t waste seats box k low left) first passes))

  -- where no seat is left, the bits are the boxes
  pub end_of : (rest : Squares) (bits : List ℕ) (set high low left : ℕ) → length rest < 1 →
      SetPasses board t waste seats (box_in bits set) high low left →
      SetsPass board t waste seats rest (box_in bits set) high low left
  end_of [] bits set high low left none passes box same few =
      so_written box high low left (high + 0) (low + 0) (left - 0) (omega arith) (omega arith) (omega arith)
      (subst (λ (f : ℕ → Bool). SetPasses board t waste seats f high low left) (λ i. λ q. same q refl i) passes)
  end_of (x ∷ rest) bits set high low left none passes box same few = absurd (omega (arith, none))

  -- the first seat has no box, or has one
  sets_next : (x : ℕ) (xs : Squares) (bits : List ℕ) (set high low left : ℕ) → HasOwnBit bits x → bit_of bits x ≢ 0 →
      bit_and set (bit_of bits x) ≡ 0 → SetsPass board t waste seats xs (box_in bits set) high low left →
      (1 ≤ left → SetsPass board t waste seats xs (box_in bits (bit_or set (bit_of bits x))) (high + high_of t x)
      (low + low_of t x) (left - 1)) →
      SetsPass board t waste seats (x ∷ xs) (box_in bits set) high low left
  sets_next x xs bits set high low left alone some none first second box same few = by (box x) refl few
    where
      tail : (m : ℕ) (b : Bool) → box x ≡ b → ((q : ℕ) → x ≢ q → box_in bits m q ≡ box_in bits set q) →
          box_in bits m x ≡ b → (q : ℕ) → contains xs q ≡ false → box_in bits m q ≡ box q
      tail m b is apart here q out = elim (same_or x q) [
        | inl e ↦ subst (λ (z : ℕ). box_in bits m z ≡ box z) e (here ∙ sym is)
        | inr other ↦ apart q other ∙ same q (outside_head x xs q other out)
      ]

      highs : ℕ
      highs = sum_where box (high_of t) xs

      lows : ℕ
      lows = sum_where box (low_of t) xs

      ones : ℕ
      ones = sum_where box one xs

      by : (b : Bool) → box x ≡ b → cond b 1 0 + ones ≤ left →
          SetPasses board t waste seats box (high + (cond b (high_of t x) 0 + highs))
          (low + (cond b (low_of t x) 0 + lows)) (left - (cond b (one x) 0 + ones))
      by false is le = so_written box (high + highs) (low + lows) (left - ones) (high + (0 + highs)) (low + (0 + lows))
          (left - (0 + ones)) (omega arith) (omega arith) (omega arith)
          (first box (tail set false is (λ q other. refl) (no_bit bits set x none)) (omega (arith, le)))
      by true is le = so_written box ((high + high_of t x) + highs) ((low + low_of t x) + lows) ((left - 1) - ones)
          (high + (high_of t x + highs)) (low + (low_of t x + lows)) (left - (1 + ones))
          (omega arith) (omega arith) (omega arith) (second (omega (arith, le)) box
          (tail (bit_or set (bit_of bits x)) true is (λ q other. box_other bits set x q alone other)
          (box_put bits set x some))
          (omega (arith, le)))

  pub next_of : (rest : Squares) (x : ℕ) (bits : List ℕ) (own set high low left high_with low_with : ℕ) →
      rest ≡ (x ∷ take (length rest - 1) (drop 1 rest)) → own ≡ bit_of bits x → own ≢ 0 → bit_and set own ≡ 0 →
      ((y : ℕ) → contains rest y ≡ true → HasOwnBit bits y) → let xs = take (length rest - 1) (drop 1 rest) in
      SetsPass board t waste seats xs (box_in bits set) high low left →
      high_with ≡ high + high_of t x → low_with ≡ low + low_of t x →
      (1 ≤ left → SetsPass board t waste seats xs (box_in bits (bit_or set own)) high_with low_with (left - 1)) →
      SetsPass board t waste seats rest (box_in bits set) high low left
  next_of rest x bits own set high low left high_with low_with split is some none apart first highs lows second =
      let xs = take (length rest - 1) (drop 1 rest) in
      let with = box_in bits (bit_or set (bit_of bits x)) in
      let alone = apart x (subst (λ (ys : Squares). contains ys x ≡ true) (sym split) (contains_head x xs)) in
      subst (λ (ys : Squares). SetsPass board t waste seats ys (box_in bits set) high low left) (sym split)
      (sets_next x xs bits set high low left alone (λ e. some (is ∙ e))
      (subst (λ (n : ℕ). bit_and set n ≡ 0) is none) first
      (λ more. subst (λ (k : ℕ). SetsPass board t waste seats xs with k (low + low_of t x) (left - 1)) highs
      (subst (λ (k : ℕ). SetsPass board t waste seats xs with high_with k (left - 1)) lows
      (subst (λ (n : ℕ). SetsPass board t waste seats xs (box_in bits (bit_or set n)) high_with low_with (left - 1)) is
      (second more)))))

-- ---- the steps

module _ (board : Board) (t : RegionTable) (waste : ℕ → Dir → ℕ) (seats : Squares) (rising : is_rising seats ≡ true)
    (listed : HasSteps board t seats) where
  no_seat : (q : ℕ) → is_wall board q ≡ false → contains seats q ≡ false → is_seat t q ≡ false
  no_seat q floor out = by (is_seat t q) refl
    where
      by : (b : Bool) → is_seat t q ≡ b → b ≡ false
      by true e = absurd (false≢true (sym out ∙ (listed q (inside_grid board q floor)).seat e))
      by false e = refl

  no_sums : (q : ℕ) → is_wall board q ≡ false → contains seats q ≡ false → (high_of t q ≡ 0) × (low_of t q ≡ 0)
  no_sums q floor out = no_key (high_of t q) (low_of t q) (no_seat q floor out)

  module _ (s : Scene) (fits : FitsLevel board s) (left : ℕ)
      (passes : SetPasses board t waste seats (seen seats s.boxes) (high_in t s) (low_in t s) left) where
    abbrev box : ℕ → Bool
    box = seen seats s.boxes

    says_home : IsLevel board → IsSolved board s → says t s ≡ 0
    says_home level solved =
        let all = solved_are_goals board s level fits solved in
        passes.home (λ q there. seen_here seats s.boxes q there ∙
        (ap (λ (xs : Squares). contains xs q) all ∙ contains-goals board q))
        s.player (inside_grid board s.player fits.scene.player.0)

    -- no walk lessens what the row says
    walk_le : (p : ℕ) (d : Dir) → IsVacant board box p → IsVacant board box (next board p d) →
        entry_at t (high_in t s) (low_in t s) p ≤ entry_at t (high_in t s) (low_in t s) (next board p d)
    walk_le p d here there = by (place_of t p) refl (place_of t q) refl
      where
        q : ℕ
        q = next board p d

        row : ℕ
        row = row_of t (high_in t s) (low_in t s)

        back : next board q (opposite d) ≡ p
        back = next_back board p d here.0 there.0

        by : (m : ℕ) → place_of t p ≡ m → (n : ℕ) → place_of t q ≡ n → byte_for t row p ≤ byte_for t row q
        by zero first zero second =
            let e : byte_for t row p ≡ byte_for t row q =
            ap (λ (k : ℕ). slice_index_or t.bytes.items (row + k) 0) (first ∙ sym second) in
            omega (arith, e)
        by zero first (suc n) second =
            let listed_q = (listed q (inside_grid board q there.0)).square (λ e. omega (arith, e, second)) in
            let keeps = passes.walk q listed_q there (opposite d) (subst (IsVacant board box) (sym back) here) in
            subst (λ (y : ℕ). place_of t y ≡ 0 → byte_for t row y ≤ byte_for t row q) back keeps.back first
        by (suc m) first n second =
            let listed_p = (listed p (inside_grid board p here.0)).square (λ e. omega (arith, e, first)) in
            (passes.walk p listed_p here d there).there

    player_open : IsVacant board box s.player
    player_open = (fits.scene.player.0, not_seen seats s.boxes s.player fits.scene.player.1)

    says_walk : (u : Scene) (d : Dir) → Walks board s d u → says t s ≤ says t u
    says_walk u d step = subst (λ (x : Scene). says t s ≤ says t x) (sym step.1)
        (walk_le s.player d player_open (step.0.0, not_seen seats s.boxes (next board s.player d) step.0.1))

    says_push : (u : Scene) (d : Dir) → Pushes board s d u →
        ((q : ℕ) → contains s.boxes q ≡ true → contains seats q ≡ false → 1 ≤ left) →
        let w = waste (next board s.player d) d in w < endless → IsLeft (says t s) w (says t u)
    says_push u d step more small =
        subst (λ (x : Scene). IsLeft (says t s) (waste q d) (says t x)) (sym step.2)
        (subst (λ (h : ℕ). Paid h (sum_over (low_of t) (insert (remove s.boxes q) r))) (sym (after (high_of t)))
        (subst (Paid ((high_in t s - high_of t q) + high_of t r)) (sym (after (low_of t)))
        (by (contains seats q) refl (contains seats r) refl)))
      where
        p : ℕ
        p = s.player

        q : ℕ
        q = next board p d

        r : ℕ
        r = next board q d

        -- what is left, with these sums of keys, pays
        Paid : ℕ → ℕ → Type 0
        Paid high low = IsLeft (says t s) (waste q d) (entry_at t high low q)

        floor : is_wall board q ≡ false
        floor = fits.scene.boxes q step.0

        after : (f : ℕ → ℕ) → sum_over f (insert (remove s.boxes q) r) ≡ (sum_over f s.boxes - f q) + f r
        after f =
            let put = sum_put_back f 0 s.boxes q fits.scene.rising step.0 in
            let new = sum_inserted f (remove s.boxes q) r (contains-remove_out s.boxes q r step.1.1) in
            omega (arith, put, new)

        back_p : next board q (opposite d) ≡ p
        back_p = next_back board p d fits.scene.player.0 floor

        back_q : next board r (opposite d) ≡ q
        back_q = next_back board q d floor step.1.0

        behind : IsVacant board box (next board q (opposite d))
        behind = subst (IsVacant board box) (sym back_p) player_open

        by : (m : Bool) → contains seats q ≡ m → (n : Bool) → contains seats r ≡ n →
            Paid ((high_in t s - high_of t q) + high_of t r) ((low_in t s - low_of t q) + low_of t r)
        by true there n to =
            let pays = (passes.seat q there d).push (seen_here seats s.boxes q there ∙ step.0) floor behind
            (step.1.0, not_seen seats s.boxes r step.1.1) in
            subst (λ (x : ℕ). Pays t waste (high_in t s) (low_in t s) x q r d) back_p pays small
        by false out true to =
            let pays = (passes.seat r to d).enter (not_seen seats s.boxes r step.1.1) (more q step.0 out) step.1.0
            (subst (λ (x : ℕ). is_wall board x ≡ false) (sym back_q) floor)
            (subst (λ (x : ℕ). is_seat t x ≡ false) (sym back_q) (no_seat q floor out))
            (subst (λ (x : ℕ). IsVacant board box (next board x (opposite d))) (sym back_q) behind) in
            subst (λ (x : ℕ). Pays t waste (high_in t s) (low_in t s) x q r d) back_p
            (subst (λ (x : ℕ). Pays t waste (high_in t s) (low_in t s) (next board x (opposite d)) x r d) back_q pays)
            small
        by false out false beyond =
            let le = walk_le p d player_open (floor, not_listed seats s.boxes q out) in
            let (a, b) = no_sums q floor out in
            let (c, e) = no_sums r step.1.0 beyond in
            let first : high_in t s ≡ (high_in t s - high_of t q) + high_of t r = omega (arith, a, c) in
            let second : low_in t s ≡ (low_in t s - low_of t q) + low_of t r = omega (arith, b, e) in
            subst (λ (h : ℕ). Paid h ((low_in t s - low_of t q) + low_of t r)) first (subst (Paid (high_in t s)) second
            (record { less = omega (arith, le); stuck = λ big. omega (arith, le, big) }))

  module _ (level : IsLevel board) (bits : List ℕ)
      (all : SetsPass board t waste seats seats (box_in bits 0) 0 0 (box_count board)) where
    set_of : (s : Scene) → FitsLevel board s →
        SetPasses board t waste seats (seen seats s.boxes) (high_in t s) (low_in t s) (room board seats s)
    set_of s fits =
        let has = seen seats s.boxes in
        let left = room board seats s in
        let few = seats_few seats s.boxes in
        let count = count_seen seats s.boxes rising fits.scene.rising in
        let size = fits.boxes in
        let highs = sum_seen seats s.boxes (high_of t) rising fits.scene.rising
        (λ q there out. (no_sums q (fits.scene.boxes q there) out).0) in
        let lows = sum_seen seats s.boxes (low_of t) rising fits.scene.rising
        (λ q there out. (no_sums q (fits.scene.boxes q there) out).1) in
        so_written board t waste seats has (0 + sum_where has (high_of t) seats) (0 + sum_where has (low_of t) seats)
        left (high_in t s) (low_in t s) left (omega (arith, highs)) (omega (arith, lows)) refl
        (all has (λ q out. no_box bits q ∙ sym (not_listed seats s.boxes q out)) (omega (arith, few, count, size)))

    -- where a box is on no seat, there may be one box more
    room_left : (s : Scene) → FitsLevel board s → (q : ℕ) → contains s.boxes q ≡ true → contains seats q ≡ false →
        1 ≤ room board seats s
    room_left s fits q there out =
        let fewer = seats_fewer seats s.boxes q fits.scene.rising there out in
        let count = count_seen seats s.boxes rising fits.scene.rising in
        let size = fits.boxes in
        omega (arith, fewer, count, size)

    table_is_part : IsRegion board waste (says t)
    table_is_part = record {
      home = λ s fits solved. says_home s fits (room board seats s) (set_of s fits) level solved;
      walk = λ s u d fits step. says_walk s fits (room board seats s) (set_of s fits) u d step;
      push = λ s u d fits step small.
          says_push s fits (room board seats s) (set_of s fits) u d step (room_left s fits) small;
    }

-- where all sets pass, the table says what is so
pub part_of_all : (board : Board) (t : RegionTable) (waste : ℕ → Dir → ℕ) (seats rest : Squares) (bits : List ℕ)
    (left : ℕ) → IsLevel board → rest ≡ seats → is_rising rest ≡ true → HasSteps board t seats →
    left ≡ box_count board → SetsPass board t waste seats rest (box_in bits 0) 0 0 left → IsRegion board waste (says t)
part_of_all board t waste seats rest bits left level same rises listed room_is all =
    table_is_part board t waste seats (subst (λ (xs : Squares). is_rising xs ≡ true) same rises) listed level bits
    (subst (λ (xs : Squares). SetsPass board t waste seats xs (box_in bits 0) 0 0 (box_count board)) same
    (subst (λ (k : ℕ). SetsPass board t waste seats rest (box_in bits 0) 0 0 k) room_is all))

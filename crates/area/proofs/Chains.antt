-- The boxes that hang together with one, as the area of a player where all other squares bar the way.
use Rattle.std.proofs.Common.{◌≡◌, ℕ, ◌+◌, ◌*◌, ◌/◌, ◌%◌, ◌^◌, ◌<◌, ◌≤◌, true, false, not, ◌&&◌, ◌↔◌, List, get_or, set, length, inl, inr, refl}
use Rattle.std.proofs.Common.{sym, ap, ◌∙◌, arith}
use Rattle.std.specs.Int.{bit_not, w64}
use Rattle.std.proofs.lemmas.Bool.{and_parts, not-true, cases_Bool, cases_eq, cases_lt, true≢false}
use Rattle.std.proofs.lemmas.List.{get_or-set_same, get_or-set_other, length-set}
use Rattle.grid.specs.declared.dir.Dir.{Dir}
use Rattle.grid.specs.declared.masks.TheConstants.{WORD_BITS}
use Rattle.grid.specs.Board.{Board, Scene, IsFree, is_wall, next}
use Rattle.grid.specs.States.{IsScene}
use Rattle.grid.specs.Masks.{has_bit}
use Rattle.grid.specs.Squares.{Squares, contains}
use Rattle.grid.specs.Rising.{is_rising}
use Rattle.area.specs.Area.{Area}
use Rattle.area.specs.Groups.{HangsWith, itself, onto}
use Rattle.area.specs.Words.{passing_from, word_bit}
use Rattle.area.specs.inside.Flooding.{FloodsFrom}
use Rattle.area.proofs.Detours.{area_step, along_walks}
use Rattle.grid.proofs.lemmas.Steps.{inside_grid}
use Rattle.area.proofs.lemmas.Norms.{area_here}
use Rattle.area.proofs.lemmas.WordBits.{has_bit-parts, word_bit-not}
use Rattle.area.proofs.lemmas.WordSets.{passing_within, passing_past, passing_rise}

module _ (board : Board) (boxes : Squares) (clear : (q : ℕ) → contains boxes q ≡ true → is_wall board q ≡ false) where
  -- the squares that are neither walls nor boxes
  pub others : Squares
  others = passing_from (λ q. not (is_wall board q) && not (contains boxes q)) 0 (length board.cells)

  -- a player on the square of a box, whose way all other squares bar
  pub ring : ℕ → Scene
  ring q = record { boxes = others; player = q }

  pub in_others : (q : ℕ) → is_wall board q ≡ false → contains others q ≡ not (contains boxes q)
  unfolding others
  in_others q open_here = (let lt = inside_grid board q open_here in
      passing_within (λ x. not (is_wall board x) && not (contains boxes x)) 0 (length board.cells) q (omega arith) (omega (arith, lt))) ∙ rw open_here refl

  others_clear : (q : ℕ) → contains others q ≡ true → is_wall board q ≡ false
  unfolding others
  others_clear q h = grind (arith, cases_lt, not-true, and_parts, passing_within, true≢false, passing_past)

  no_other : (q : ℕ) → contains boxes q ≡ true → IsFree board others q
  no_other q h = (clear q h, in_others q (clear q h) ∙ ap not h)

  others_rise : is_rising others ≡ true
  unfolding others
  others_rise = passing_rise (λ q. not (is_wall board q) && not (contains boxes q)) 0 (length board.cells)

  pub ring_scene : (q : ℕ) → contains boxes q ≡ true → IsScene board (ring q)
  unfolding ring
  ring_scene q h = record { rising = others_rise; boxes = others_clear; player = no_other q h }

  -- a chain of boxes is a walk over their squares
  pub hangs_walk : {p q : ℕ} → HangsWith board boxes p q → Area board (ring p) q
  unfolding ring
  hangs_walk {p = p} (itself h) = area_here board (ring p)
  hangs_walk {p = p} (onto {q = q} d w h) = area_step board (ring p) q d (hangs_walk w) (no_other (next board q d) h)

  pub walk_hangs : (p q : ℕ) → contains boxes p ≡ true → Area board (ring p) q → HangsWith board boxes p q
  unfolding ring
  walk_hangs p q there w = along_walks board others (λ (x : ℕ). HangsWith board boxes p x) step refl (itself there) w.1
    where
      step : (x : ℕ) (d : Dir) → HangsWith board boxes p x → IsFree board others (next board x d) → HangsWith board boxes p (next board x d)
      step x d here free = onto d here (elim (cases_Bool (contains boxes (next board x d))) [
        | inl yes_box ↦ yes_box
        | inr no_box ↦ absurd (true≢false (sym (in_others (next board x d) free.0 ∙ ap not no_box) ∙ free.1))
      ])

-- in the midst of turning words over: those before an index have each bit turned over, and the others are as they were
abbrev pub AreTurned : List ℕ → ℕ → List ℕ → Type 0
AreTurned words index now =
    (length now ≡ length words)
    × ((k j : ℕ) → k < index → j < WORD_BITS → word_bit (get_or now k 0) j ≡ not (word_bit (get_or words k 0) j))
    × ((k : ℕ) → index ≤ k → get_or now k 0 ≡ get_or words k 0)

pub turned_on : (words now : List ℕ) (index word : ℕ) → AreTurned words index now → index < length now → word ≡ get_or now index 0 →
    get_or words index 0 < 2 ^ 64 → AreTurned words (index + 1) (set now index (bit_not w64 word))
turned_on words now index word (size, before, rest) inside read fits =
    grind (arith, length-set, cases_eq, get_or-set_same, word_bit-not, get_or-set_other)

pub turned_bit : (words now : List ℕ) (index q : ℕ) → AreTurned words index now → length words ≤ index → q < WORD_BITS * length words →
    has_bit now q ≡ not (has_bit words q)
turned_bit words now index q (size, before, rest) whole lt =
    has_bit-parts now q ∙ (before (q / WORD_BITS) (q % WORD_BITS) (omega arith) (omega arith) ∙ ap not (sym (has_bit-parts words q)))

-- ---- the group

-- before a flood of the boxes from one of them: all other squares are barred
pub group_begun : (board : Board) (boxes : Squares) (square : ℕ) (barred reached : List ℕ) (clear : (q : ℕ) → contains boxes q ≡ true → is_wall board q ≡ false) →
    contains boxes square ≡ true → ((q : ℕ) → q < length board.cells → has_bit barred q ≡ not (contains boxes q)) → ((q : ℕ) → has_bit reached q ≡ false) →
    FloodsFrom board (ring board boxes clear square) square barred reached
unfolding ring
group_begun board boxes square barred reached clear there stand none = record {
  scene = ring_scene board boxes clear square there;
  player = refl;
  boxes = λ x open_here. stand x (inside_grid board x open_here) ∙ sym (in_others board boxes clear x open_here);
  within = λ x h. absurd (true≢false (sym h ∙ none x));
}

-- what it finds hangs together with that one
pub group_found : (board : Board) (boxes : Squares) (square : ℕ) (new : List ℕ) (clear : (q : ℕ) → contains boxes q ≡ true → is_wall board q ≡ false) →
    contains boxes square ≡ true → ((q : ℕ) → (has_bit new q ≡ true) ↔ Area board (ring board boxes clear square) q) → (q : ℕ) →
    (has_bit new q ≡ true) ↔ HangsWith board boxes square q
group_found board boxes square new clear there found q = (
  λ h. walk_hangs board boxes clear square q there ((found q).0 h),
  λ w. (found q).1 (hangs_walk board boxes clear w),
)

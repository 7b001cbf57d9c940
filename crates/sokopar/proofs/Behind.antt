-- The faults of a board behind its first one, and their text.
use Rattle.std.proofs.Common.{◌≡◌, ◌≢◌, ℕ, ◌++◌, ◌==◌, ◌≤◌, Bool, true, false, cond, nat_lt, List, [], ◌∷◌, drop, length, vec_len, Vec, Global, Option, Some, None, is_some, is_none}
use Rattle.std.proofs.Common.{Result, Ok, Err, OnOk, inl, inr, ◌&&◌, IsTrue, ◌↔◌, codes, append_assoc, append-nil, ap, arith, refl, subst, sym, ◌∙◌}
use Rattle.std.proofs.lemmas.Bool.{and_parts, false≢true}
use Rattle.std.proofs.lemmas.Bool.Decides.{nat_tests}
use Rattle.std.proofs.lemmas.Option.{same_Some}
use Rattle.std.proofs.lemmas.Result.{on_ok_weaker}
use Rattle.grid.specs.Board.{Board, box_cell, goal_cell}
use Rattle.grid.specs.Squares.{places_from}
use Rattle.grid.specs.Lawful.{HasFault, IsLevel, IsOpen, box_count, cell_fault, goal_count, player_count, row_count}
use Rattle.grid.specs.declared.fault.LevelFault.{LevelFault}
use Rattle.grid.specs.declared.fault.LevelFault.TheVariants.{TooTall, TooWide, NoPlayer, TwoPlayers, NoBox, Counts, Open, OutOfMemory}
use Rattle.grid.specs.declared.limits.TheConstants.{MAX_ROWS, MAX_COLS}
use Rattle.grid.proofs.lemmas.Levels.{counts_of}
use Rattle.grid.proofs.lemmas.Places.{length-places_from}
use Rattle.xsb.specs.Collection.{IsJudged}
use Rattle.xsb.specs.declared.places.RowPlace.{RowPlace}
use Rattle.sokopar.specs.Explaining.{AlsoTold, AreFaults, IsRemarkOn, IsRemarkOnFault, further, is_drawn, is_quiet, is_sound, nothing, remark_words}
use Rattle.sokopar.specs.Report.{fault_words, line}
use Rattle.sokopar.specs.declared.remark.Remark.{Remark}
use Rattle.sokopar.specs.declared.remark.Remark.TheVariants.{Players, Unequal, Exit, Solved, Lost, Frozen, Stuck, Unmatched, Sound}
use Rattle.sokopar.specs.inside.Explaining.{AddsFaults, IsWayOut, is_of_players, is_open, unequal_faults}
use Rattle.sokopar.proofs.Remarks.{small_fault}

-- ---- which they are

-- the faults that these answers show
abbrev shown : Bool → Bool → Bool → ℕ → ℕ → List LevelFault
shown none several out boxes goals = cond none (NoPlayer ∷ []) (cond several (TwoPlayers ∷ []) []) ++ unequal_faults boxes goals ++
    cond out (Open ∷ []) []

-- those behind the first one
abbrev pub behind : LevelFault → Bool → ℕ → ℕ → List LevelFault
behind first out boxes goals = cond (is_of_players first) (unequal_faults boxes goals) [] ++ cond (is_open first) [] (cond out (Open ∷ []) [])

counted : (a b c d out : Bool) (boxes goals : ℕ) (first : LevelFault) → (boxes == 0) ≡ c → (boxes == goals) ≡ d →
    cond a (Some NoPlayer) (cond b (Some TwoPlayers) (cond c (Some NoBox) (cond d None (Some (Counts boxes goals))))) ≡ Some first →
    drop 1 (shown a b out boxes goals) ≡ behind first out boxes goals
counted true b c d out boxes goals first zero same is =
    subst (λ (f : LevelFault). drop 1 (shown true b out boxes goals) ≡ behind f out boxes goals) (same_Some NoPlayer first is) refl
counted false true c d out boxes goals first zero same is =
    subst (λ (f : LevelFault). drop 1 (shown false true out boxes goals) ≡ behind f out boxes goals) (same_Some TwoPlayers first is) refl
counted false false true d out boxes goals first zero same is =
    subst (λ (f : LevelFault). drop 1 (shown false false out boxes goals) ≡ behind f out boxes goals) (same_Some NoBox first is) (rw zero refl)
counted false false false true out boxes goals first zero same is =
    absurd (let no : ◌≡◌ {A = Option LevelFault} None (Some first) = is in cc)
counted false false false false out boxes goals first zero same is =
    subst (λ (f : LevelFault). drop 1 (shown false false out boxes goals) ≡ behind f out boxes goals) (same_Some (Counts boxes goals) first is)
    (rw zero (rw same refl))

-- a board without faults of its numbers
few_shown : (board : Board) (out : Bool) → cell_fault board ≡ None →
    shown (player_count board == 0) (nat_lt 1 (player_count board)) out (box_count board) (goal_count board) ≡ cond out (Open ∷ []) []
few_shown board out cells =
    let counts = counts_of board cells in
    let one = counts.player in
    let some = counts.some_box in
    let same = counts.boxes in
    let players : (player_count board == 0) ≡ false = grind (arith, nat_tests) in
    let several : nat_lt 1 (player_count board) ≡ false = grind (arith, nat_tests) in
    let boxes : (box_count board == 0) ≡ false = grind (arith, nat_tests) in
    let goals : (box_count board == goal_count board) ≡ true = grind (arith, nat_tests) in
    rw players (rw several (rw boxes (rw goals refl)))

none_behind : (out : Bool) → drop 1 (cond out (Open ∷ []) []) ≡ []
none_behind true = refl
none_behind false = refl

-- a board with a first fault
all_behind : (board : Board) (first : LevelFault) (out : Bool) → row_count board ≤ MAX_ROWS → board.cols ≤ MAX_COLS → HasFault board first →
    drop 1 (shown (player_count board == 0) (nat_lt 1 (player_count board)) out (box_count board) (goal_count board)) ≡
    behind first out (box_count board) (goal_count board)
all_behind board first out short narrow has = elim (small_fault board first short narrow has) [
  | inl is ↦ counted (player_count board == 0) (nat_lt 1 (player_count board)) (box_count board == 0) (box_count board == goal_count board)
      out (box_count board) (goal_count board) first refl refl is
  | inr gap ↦ ap (drop 1) (few_shown board out gap.0) ∙ none_behind out
      ∙ ap (λ (f : LevelFault). behind f out (box_count board) (goal_count board)) (sym gap.2)
]

-- whether the player gets out
way_known : (board : Board) (exit : Option ℕ) → IsWayOut board exit → IsTrue (is_some exit) ↔ ((player_count board ≢ 0) × IsOpen board)
way_known board None closed = (λ some. absurd (false≢true some), λ way. absurd (closed way))
way_known board (Some q) is = (λ _. (is.0, (q, is.1.1.0, is.1.0, is.1.1.1)), λ _. refl)

-- a lawful level has none, and its player does not get out
lawful_closed : (board : Board) (exit : Option ℕ) → IsLevel board → IsWayOut board exit → is_some exit ≡ false
lawful_closed board None level closed = refl
lawful_closed board (Some q) level is = absurd (level.lawful.closed ((way_known board (Some q) is).0 refl).1)

pub lawful_faults : (board : Board) (exit : Option ℕ) → IsLevel board → IsWayOut board exit → AreFaults board (is_some exit) []
lawful_faults board exit level way = (
  way_known board exit way,
  sym (few_shown board (is_some exit) level.lawful.cells ∙ ap (λ (b : Bool). cond b (Open ∷ []) []) (lawful_closed board exit level way)),
)

-- ---- a level of which nothing is written is lawful

sound_is : (remark : Remark) → is_sound remark ≡ true → remark ≡ Sound
sound_is (Players squares) is = absurd (false≢true is)
sound_is (Unequal boxes goals) is = absurd (false≢true is)
sound_is (Exit q) is = absurd (false≢true is)
sound_is Solved is = absurd (false≢true is)
sound_is (Lost plight squares) is = absurd (false≢true is)
sound_is (Frozen squares) is = absurd (false≢true is)
sound_is Stuck is = absurd (false≢true is)
sound_is Unmatched is = absurd (false≢true is)
sound_is Sound is = refl

not_sound : (fault : LevelFault) (board : Board) → IsRemarkOnFault fault board Sound → ⊥
not_sound TooTall board is = is
not_sound TooWide board is = is
not_sound NoPlayer board is = is
not_sound TwoPlayers board is = is
not_sound NoBox board is = is
not_sound (Counts boxes goals) board is = is
not_sound Open board is = is
not_sound OutOfMemory board is = is

pub quiet_is : (remark : Remark) (wanted : Option ℕ) → is_quiet remark wanted ≡ true → remark ≡ Sound
quiet_is remark wanted quiet = sound_is remark (and_parts (is_sound remark) (is_none wanted) quiet).0

pub quiet_lawful : (judged : Result Board LevelFault) (board : Board) (remark : Remark) (wanted : Option ℕ) → IsJudged board judged →
    IsRemarkOn judged board remark → is_quiet remark wanted ≡ true → IsLevel board
quiet_lawful (Ok level) board remark wanted is on quiet = subst IsLevel is.0 is.1
quiet_lawful (Err fault) board remark wanted is on quiet =
    absurd (not_sound fault board (subst (IsRemarkOnFault fault board) (quiet_is remark wanted quiet) on))

pub quiet_undrawn : (board : Board) (exit : Option ℕ) (sound : Bool) (wanted : Option ℕ) → IsLevel board → IsWayOut board exit →
    (sound && is_none wanted) ≡ true → is_drawn (is_some exit) wanted ≡ true → ⊥
quiet_undrawn board exit sound wanted level way quiet drawn = undrawn sound (is_some exit) wanted (lawful_closed board exit level way) quiet drawn
  where
    undrawn : (sound out : Bool) (wanted : Option ℕ) → out ≡ false → (sound && is_none wanted) ≡ true → is_drawn out wanted ≡ true → ⊥
    undrawn false out wanted closed quiet drawn = false≢true quiet
    undrawn true out (Some n) closed quiet drawn = false≢true quiet
    undrawn true true None closed quiet drawn = false≢true (sym closed)
    undrawn true false None closed quiet drawn = false≢true drawn

-- ---- their text

-- one text follows another
also_append : {board : Board} {places : List RowPlace} {xs ys : List LevelFault} {a b : List ℕ} → AlsoTold board places xs a →
    AlsoTold board places ys b → AlsoTold board places (xs ++ ys) (a ++ b)
also_append nothing more = more
also_append {board} {places} {ys = ys} {b = b} (further {faults} {text} fault remark is told) more =
    let first = line (codes "also " ++ fault_words fault) ++ remark_words board.cols places remark in
    subst (AlsoTold board places (fault ∷ faults ++ ys)) (sym (append_assoc first text b)) (further fault remark is (also_append told more))

-- the line of a fault, and its sentences
pub also_said : {A E : Type 0} (result : Result A E) (old fault words one two three new : List ℕ) → one ≡ old ++ codes "also " →
    two ≡ one ++ fault → three ≡ two ++ 10 ∷ [] → OnOk result (new ≡ three ++ words) →
    OnOk result (new ≡ old ++ (line (codes "also " ++ fault) ++ words))
also_said result old fault words one two three new a b c told =
    let both : two ≡ old ++ (codes "also " ++ fault) = b ∙ ap (λ t. t ++ fault) a ∙ append_assoc old (codes "also ") fault in
    let all : three ≡ old ++ line (codes "also " ++ fault) = c ∙ ap line both ∙ append_assoc old (codes "also " ++ fault) (10 ∷ []) in
    on_ok_weaker result (λ said. said ∙ ap (λ t. t ++ words) all ∙ append_assoc old (line (codes "also " ++ fault)) words) told

-- the numbers of boxes and goals are those of their squares
pub as_counted : (board : Board) (boxes goals : Vec ℕ Global) (m n : ℕ) (faults : List LevelFault) → m ≡ vec_len boxes →
    n ≡ vec_len goals → boxes.items ≡ places_from box_cell 0 board.cells → goals.items ≡ places_from goal_cell 0 board.cells →
    unequal_faults m n ≡ faults → unequal_faults (box_count board) (goal_count board) ≡ faults
as_counted board boxes goals m n faults many more e f is =
    let boxes_ok = boxes.ok.0 in
    let goals_ok = goals.ok.0 in
    let box_len : m ≡ length boxes.items = omega (arith, many, boxes_ok) in
    let goal_len : n ≡ length goals.items = omega (arith, more, goals_ok) in
    let box_number : m ≡ box_count board = box_len ∙ ap length e ∙ length-places_from box_cell 0 board.cells in
    let goal_number : n ≡ goal_count board = goal_len ∙ ap length f ∙ length-places_from goal_cell 0 board.cells in
    ap (λ k. unequal_faults k (goal_count board)) (sym box_number) ∙ ap (unequal_faults m) (sym goal_number) ∙ is

-- no fault
pub adds_none : (board : Board) (places : List RowPlace) (old : List ℕ) → AddsFaults board places [] old old
adds_none board places old = ([], nothing, sym (append-nil old))

-- one fault
pub adds_one : {A E : Type 0} (result : Result A E) (board : Board) (places : List RowPlace) (fault : LevelFault) (remark : Remark)
    (faults : List LevelFault) (old new : List ℕ) → faults ≡ fault ∷ [] → IsRemarkOnFault fault board remark →
    OnOk result (new ≡ old ++ (line (codes "also " ++ fault_words fault) ++ remark_words board.cols places remark)) →
    OnOk result (AddsFaults board places faults old new)
adds_one result board places fault remark faults old new one is told =
    let words = line (codes "also " ++ fault_words fault) ++ remark_words board.cols places remark in
    on_ok_weaker result (λ said. subst (λ fs. AddsFaults board places fs old new) (sym one)
    (words ++ [], further fault remark is nothing, said ∙ ap (λ w. old ++ w) (sym (append-nil words)))) told

-- all further faults, if memory lasts
pub adds_further : {A E : Type 0} (result : Result A E) (board : Board) (places : List RowPlace) (first : LevelFault) (exit : Option ℕ)
    (old mid new : List ℕ) → row_count board ≤ MAX_ROWS → board.cols ≤ MAX_COLS → HasFault board first → IsWayOut board exit →
    AddsFaults board places (cond (is_of_players first) (unequal_faults (box_count board) (goal_count board)) []) old mid →
    OnOk result (AddsFaults board places (cond (is_open first) [] (cond (is_some exit) (Open ∷ []) [])) mid new) →
    OnOk result ((faults : List LevelFault) × AreFaults board (is_some exit) faults × AddsFaults board places (drop 1 faults) old new)
adds_further result board places first exit old mid new short narrow has way one then =
    let faults = shown (player_count board == 0) (nat_lt 1 (player_count board)) (is_some exit) (box_count board) (goal_count board) in
    on_ok_weaker result (λ two. (
      faults,
      (way_known board exit way, refl),
      subst (λ fs. AddsFaults board places fs old new) (sym (all_behind board first (is_some exit) short narrow has)) (
        one.0 ++ two.0,
        also_append one.1 two.1,
        two.2 ∙ ap (λ t. t ++ two.0) one.2 ∙ append_assoc old one.0 two.0,
      ),
    )) then

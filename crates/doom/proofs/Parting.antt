-- Frozen boxes, and those of them that hang together with one box.
use Rattle.std.proofs.Common.{◌≡◌, ◌↔◌, ◌⊎◌, ◌&&◌, ℕ, Bool, true, false, not, IsTrue, length, ◌≢◌, sym, ap, subst, ◌∙◌, inl, inr, arith}
use Rattle.std.proofs.lemmas.Bool.{and_from, and_parts, cases_Bool, cases_lt, not-true, true≢false}
use Rattle.grid.specs.declared.dir.Dir.{Dir}
use Rattle.grid.specs.Board.{Board, is_goal, is_wall, next, opposite}
use Rattle.grid.specs.Squares.{Squares, contains, insert, remove}
use Rattle.grid.proofs.lemmas.Squares.{contains-insert_cases, contains-remove_parts}
use Rattle.grid.proofs.lemmas.Steps.{inside_grid, next_back}
use Rattle.area.specs.Groups.{HangsWith, itself, onto}
use Rattle.area.specs.Words.{passing_from}
use Rattle.area.proofs.lemmas.Hanging.{hanging_box, hangs_test}
use Rattle.area.proofs.lemmas.WordSets.{passing_within, passing_past}
use Rattle.doom.specs.Deadlocks.{Doomed, IsDead, IsFrozen, IsHeld}
use Rattle.doom.specs.Pushed.{AreOthersFrozen, DoomedFrom, IsGroupFrozen}
use Rattle.doom.specs.inside.Locking.{AreWithin}

-- boxes that are frozen among some are so among more
pub frozen_among : (board : Board) (few more frozen : Squares) → AreWithin frozen more → IsFrozen board few frozen → IsFrozen board more frozen
frozen_among board few more frozen within is = record { some = within; off_goal = is.off_goal; blocked = is.blocked }

-- ---- frozen boxes, cut in two

module _ (board : Board) (boxes members : Squares) (clear : (q : ℕ) → contains boxes q ≡ true →
    is_wall board q ≡ false) (frozen : IsFrozen board boxes members) where
  -- the members that pass a test
  cut : (ℕ → Bool) → Squares
  cut test = passing_from (λ q. contains members q && test q) 0 (length board.cells)

  cut_in : (test : ℕ → Bool) (q : ℕ) → contains members q ≡ true → test q ≡ true → contains (cut test) q ≡ true
  unfolding cut
  cut_in test q member passes = grind (arith, inside_grid, passing_within, and_from)

  cut_parts : (test : ℕ → Bool) (q : ℕ) → contains (cut test) q ≡ true → (contains members q ≡ true) × (test q ≡ true)
  unfolding cut
  cut_parts test q h = grind (arith, cases_lt, and_parts, passing_within, true≢false, passing_past)

  -- the test passes on from a member to the members beside it
  abbrev PassesBeside : (ℕ → Bool) → Type 0
  PassesBeside test = (q : ℕ) (d : Dir) → contains members q ≡ true → test q ≡ true → contains members (next board q d) ≡ true → test (next board q d) ≡ true

  cut_held : (test : ℕ → Bool) → PassesBeside test → (q : ℕ) (d : Dir) → contains members q ≡ true → test q ≡ true → IsHeld board members q d →
      IsHeld board (cut test) q d
  cut_held test on q d member passes (inl (inl wall)) = inl (inl wall)
  cut_held test on q d member passes (inl (inr ahead)) = inl (inr (cut_in test (next board q d) ahead (on q d member passes ahead)))
  cut_held test on q d member passes (inr (inl (inl wall))) = inr (inl (inl wall))
  cut_held test on q d member passes (inr (inl (inr behind))) =
      inr (inl (inr (cut_in test (next board q (opposite d)) behind (on q (opposite d) member passes behind))))
  cut_held test on q d member passes (inr (inr dead)) = inr (inr dead)

  -- then those that pass it block one another without the rest
  cut_frozen : (test : ℕ → Bool) → PassesBeside test → (q : ℕ) → contains members q ≡ true → test q ≡ true → is_goal board q ≡ false →
      IsFrozen board boxes (cut test)
  cut_frozen test on q member passes off = record {
    some = λ x h. frozen.some x (cut_parts test x h).0;
    off_goal = (q, cut_in test q member passes, off);
    blocked = λ x h d. (let (here, well) = cut_parts test x h in cut_held test on x d here well (frozen.blocked x here d));
  }

  -- whether a box hangs together with another passes on from a member to the members beside it
  hangs_beside : (test : ℕ → Bool) (square : ℕ) → ((q : ℕ) → (test q ≡ true) ↔ HangsWith board boxes square q) → PassesBeside test
  hangs_beside test square tells x d member hangs beside =
      (tells (next board x d)).1 (onto d ((tells x).0 hangs) (frozen.some (next board x d) beside))

  -- those that hang together with a box are frozen where one of them is off goal
  group_frozen : (test : ℕ → Bool) (square : ℕ) → ((q : ℕ) → (test q ≡ true) ↔ HangsWith board boxes square q) → (q : ℕ) → contains members q ≡ true →
      test q ≡ true → is_goal board q ≡ false → IsGroupFrozen board boxes square
  group_frozen test square tells q member hangs off =
      (cut test, cut_frozen test (hangs_beside test square tells) q member hangs off, λ m h. (tells m).0 (cut_parts test m h).1)

  -- so the group of a member off goal is frozen
  pub frozen_with : (square : ℕ) → contains members square ≡ true → is_goal board square ≡ false → IsGroupFrozen board boxes square
  frozen_with square member off =
      let (test, tells) = hangs_test board boxes clear square (frozen.some square member) in
      group_frozen test square tells square member ((tells square).1 (itself (frozen.some square member))) off

  -- of frozen boxes those that hang together with a box are frozen, or the others are
  pub parted : (test : ℕ → Bool) (square : ℕ) → ((q : ℕ) → (test q ≡ true) ↔ HangsWith board boxes square q) → IsGroupFrozen board boxes square ⊎
      AreOthersFrozen board boxes square
  parted test square tells =
      let (q, member, off) = frozen.off_goal in
      elim (cases_Bool (test q)) [
        | inl hangs ↦ inl (group_frozen test square tells q member hangs off)
        | inr apart ↦ inr (
          cut (λ y. not (test y)),
          cut_frozen (λ y. not (test y)) parts q member (ap not apart) off,
          λ m h w. true≢false (sym ((tells m).1 w) ∙
              not-true (test m) (cut_parts (λ y. not (test y)) m h).1),
        )
      ]
    where
      parts : PassesBeside (λ y. not (test y))
      parts x d member apart beside = elim (cases_Bool (test (next board x d))) [
        | inl hangs ↦
            (let back : next board (next board x d) (opposite d) ≡ x =
            next_back board x d (clear x (frozen.some x member)) (clear (next board x d) (frozen.some (next board x d) beside)) in
            let there : contains boxes (next board (next board x d) (opposite d)) ≡ true = ap (contains boxes) back ∙ frozen.some x member in
            let hangs_too : HangsWith board boxes square x =
            subst (HangsWith board boxes square) back (onto (opposite d) ((tells (next board x d)).0 hangs) there) in
            absurd (true≢false (sym ((tells x).1 hangs_too) ∙ not-true (test x) apart)))
        | inr none ↦ ap not none
      ]

-- ---- what is told of a group

module _ (board : Board) (boxes : Squares) (square : ℕ) (group : Squares) (told : Bool) (are : (q : ℕ) → (contains group q ≡ true) ↔
    HangsWith board boxes square q)
    (tells : IsTrue told ↔ ((frozen : Squares) × IsFrozen board group frozen)) where
  pub group_told : IsTrue told ↔ IsGroupFrozen board boxes square
  group_told = grind (arith, frozen_among, hanging_box)

  pub others_told : ((q : ℕ) → contains boxes q ≡ true → is_wall board q ≡ false) → (members : Squares) → IsFrozen board boxes members → IsTrue told ⊎
      AreOthersFrozen board boxes square
  others_told clear members frozen = elim (parted board boxes members clear frozen (contains group) square are) [
    | inl hangs ↦ inl (group_told.1 hangs)
    | inr others ↦ inr others
  ]

-- ---- after a push

-- a box that a push left where it was stood there before
pub stood_before : (before : Squares) (from to q : ℕ) → to ≢ q → contains (insert (remove before from) to) q ≡ true → contains before q ≡ true
stood_before before from to q other there = grind (arith, contains-insert_cases, contains-remove_parts)

-- boxes that are doomed from one of them are doomed
pub doomed_if_from : (board : Board) (boxes : Squares) (q : ℕ) → contains boxes q ≡ true → DoomedFrom board boxes q → Doomed board boxes
doomed_if_from board boxes q there (inl dead) = inl (q, there, dead)
doomed_if_from board boxes q there (inr (members, frozen, _)) = inr (members, frozen)

-- where the boxes before a push were not doomed, those after it are doomed from the pushed box or not at all
pub doomed_as_from : (board : Board) (before after : Squares) (from to : ℕ) (told : Bool) → after ≡ insert (remove before from) to → contains after to ≡ true →
    ¬ (Doomed board before)
    → IsTrue told ↔ DoomedFrom board after to → ((members : Squares) → IsFrozen board after members → IsTrue told ⊎ AreOthersFrozen board after to) →
    IsTrue told ↔ Doomed board after
doomed_as_from board before after from to told moved there safe tells others = (
  λ h. doomed_if_from board after to there (tells.0 h),
  λ doomed. elim doomed [
    | inl (q, here, dead) ↦ elim (contains-insert_cases (remove before from) to q (sym (ap (λ (b : Squares). contains b q) moved) ∙ here)) [
      | inl same ↦ tells.1 (inl (subst (IsDead board) (sym same) dead))
      | inr left ↦ absurd (safe (inl (q, (contains-remove_parts before from q left).1, dead)))
    ]
    | inr (members, frozen) ↦ elim (others members frozen) [
      | inl h ↦ h
      | inr (rest, is, apart) ↦ absurd (safe (inr (rest, frozen_among board after before rest (stay rest is apart) is)))
    ]
  ],
)
  where
    stay : (rest : Squares) → IsFrozen board after rest → ((m : ℕ) → contains rest m ≡ true → ¬ (HangsWith board after to m)) → AreWithin rest before
    stay rest is apart q m = stood_before before from to q (λ same. apart q m (subst (HangsWith board after to) same (itself there)))
        (sym (ap (λ (b : Squares). contains b q) moved) ∙ is.some q m)

-- Small texts and boards, computed.
use Rattle.std.proofs.Common.{◌≡◌, ℕ, true, false, [], ◌∷◌, refl, inl, inr, subst, arith}
use Rattle.std.proofs.lemmas.Bool.Decides.{nat_tests}
use Rattle.grid.specs.Squares.{contains}
use Rattle.grid.specs.declared.dir.Dir.TheVariants.{R}
use Rattle.grid.specs.declared.moves.Letter.{Letter}
use Rattle.grid.specs.declared.cell.Cell.TheVariants.{Wall, Goal, Box, Player}
use Rattle.grid.specs.Board.{Board, is_wall, is_goal, next, start}
use Rattle.lurd.specs.declared.fault.LurdFault.TheVariants.{BadCount}
use Rattle.lurd.specs.declared.verdict.Verdict.TheVariants.{Solved, WrongCase}
use Rattle.counts.specs.Counts.{decimal}
use Rattle.lurd.specs.Text.{bytes_of, item, blank, IsText, HasTextFault}
use Rattle.lurd.specs.Verdict.{IsVerdict}

abbrev right : Letter
right = record { dir = R; push = false }

abbrev push_right : Letter
push_right = record { dir = R; push = true }

-- "Rr" is written so
written : bytes_of (push_right ∷ right ∷ []) ≡ 82 ∷ 114 ∷ []
written = refl

-- the digits "0012" write 12
twelve : decimal (48 ∷ 48 ∷ 49 ∷ 50 ∷ []) ≡ 12
twelve = refl

-- "2r R" is a text of two steps to the right and a push
a_text : IsText (50 ∷ 114 ∷ 32 ∷ 82 ∷ []) (right ∷ right ∷ push_right ∷ [])
a_text = record {
  pieces = item (50 ∷ []) right ∷ blank 32 ∷ item [] push_right ∷ [];
  each = (inr (record { all = (refl, tt); short = omega arith; positive = omega arith }), (refl, (inl refl, tt)));
  spelled = refl;
  meant = refl;
  few = omega arith;
}

-- "R 2" has a bad count at its third byte
a_bad_count : HasTextFault (82 ∷ 32 ∷ 50 ∷ []) (BadCount 3)
a_bad_count = record {
  front = 82 ∷ 32 ∷ [];
  letters = push_right ∷ [];
  rest = 50 ∷ [];
  cut = refl;
  text = record {
    pieces = item [] push_right ∷ blank 32 ∷ [];
    each = (inl refl, (refl, tt));
    spelled = refl;
    meant = refl;
    few = omega arith;
  };
  stands = (
    refl,
    record {
      digits = 50 ∷ [];
      more = [];
      cut = refl;
      some = omega arith;
      all = (refl, tt);
      whole = refl;
      bad = inr (λ (x, more, same). cc);
    },
  );
}

-- a player, a box and a goal in a row between walls
abbrev corridor : Board
corridor = record {
  cols = 5;
  cells = Wall ∷ Wall ∷ Wall ∷ Wall ∷ Wall ∷ Wall ∷ Player ∷ Box ∷ Goal ∷ Wall ∷ Wall ∷ Wall ∷ Wall ∷ Wall ∷ Wall ∷ [];
}

only_eight : (q : ℕ) → contains (8 ∷ []) q ≡ true → 8 ≡ q
only_eight q has = grind (arith, nat_tests)

-- "R" solves it
solved : IsVerdict corridor (push_right ∷ []) (Solved 1 1)
unfolding start is_wall is_goal next
solved = inr (inr (
  record { boxes = 8 ∷ []; player = 7 },
  (refl, (refl, refl), refl),
  inl (λ q has. subst (λ k. is_goal corridor k ≡ true) (only_eight q has) refl, refl),
))

-- "r" has the wrong case at its first letter
wrong_case : IsVerdict corridor (right ∷ []) (WrongCase 1)
unfolding start is_wall is_goal next
wrong_case = inr (inl ((record { boxes = 8 ∷ []; player = 7 }, (refl, (refl, refl), refl)), refl))

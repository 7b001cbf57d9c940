-- There is one verdict for each level and letters.
use Rattle.std.proofs.Common.{◌≡◌, ℕ, ◌+◌, Bool, true, false, not, if◌then◌else◌, List, [], ◌∷◌, ◌⊎◌, refl, sym, subst, ◌∙◌}
use Rattle.std.proofs.Common.{inl, inr}
use Rattle.std.proofs.lemmas.Bool.{true≢false}
use Rattle.grid.specs.declared.dir.Dir.{Dir}
use Rattle.grid.specs.declared.moves.Letter.{Letter}
use Rattle.grid.specs.Squares.{contains}
use Rattle.grid.specs.Board.{Board, Scene, Walks, Pushes, start, next, is_wall}
use Rattle.grid.proofs.lemmas.Steps.{cases_free, not_both, push_same, push_to, walk_same, walk_to}
use Rattle.lurd.specs.declared.verdict.Verdict.{Verdict}
use Rattle.lurd.specs.declared.verdict.Verdict.TheVariants.{Solved, Unsolved, Blocked, WrongCase}
use Rattle.lurd.specs.Verdict.{StepsAs, IsBlocked, HasWrongCase, IsVerdictFrom, IsVerdict}
use Rattle.lurd.specs.ExactlyOne.{ExactlyOne}
use Rattle.lurd.proofs.lemmas.Solutions.{solved_or_not}

-- ---- there is at most one

-- no step is for both cases
not_for_both : (board : Board) (s t u : Scene) (d : Dir) (push : Bool) → StepsAs board s d push t → ¬ (StepsAs board s d (not push) u)
not_for_both board s t u d true step other = not_both board s d u t other step
not_for_both board s t u d false step other = not_both board s d t u step other

-- a step for a case leads to one state
one_step : (board : Board) (s t u : Scene) (d : Dir) (push : Bool) → StepsAs board s d push t → StepsAs board s d push u → t ≡ u
one_step board s t u d true step other = push_same board s d t u step other
one_step board s t u d false step other = walk_same board s d t u step other

-- a blocked letter is a step for neither case
no_step : (board : Board) (s t : Scene) (x : Letter) (push : Bool) → IsBlocked board s x → ¬ (StepsAs board s x.dir push t)
no_step board s t x true blocked step = blocked.1 t step
no_step board s t x false blocked step = blocked.0 t step

-- two verdicts on the same letters are one
verdicts_same : (board : Board) (s : Scene) (p m : ℕ) (letters : List Letter) (v w : Verdict) → IsVerdictFrom board s p m letters v
    → IsVerdictFrom board s p m letters w → v ≡ w
verdicts_same board s p m [] v w (inl (solved, e)) (inl (also, f)) = e ∙ sym f
verdicts_same board s p m [] v w (inl (solved, e)) (inr (unsolved, f)) = absurd (unsolved solved)
verdicts_same board s p m [] v w (inr (unsolved, e)) (inl (solved, f)) = absurd (unsolved solved)
verdicts_same board s p m [] v w (inr (unsolved, e)) (inr (also, f)) = e ∙ sym f
verdicts_same board s p m (x ∷ xs) v w (inl (none, e)) (inl (also, f)) = e ∙ sym f
verdicts_same board s p m (x ∷ xs) v w (inl (none, e)) (inr (inl ((t, step), f))) = absurd (no_step board s t x (not x.push) none step)
verdicts_same board s p m (x ∷ xs) v w (inl (none, e)) (inr (inr (t, step, more))) = absurd (no_step board s t x x.push none step)
verdicts_same board s p m (x ∷ xs) v w (inr (inl ((t, step), e))) (inl (none, f)) = absurd (no_step board s t x (not x.push) none step)
verdicts_same board s p m (x ∷ xs) v w (inr (inl (wrong, e))) (inr (inl (also, f))) = e ∙ sym f
verdicts_same board s p m (x ∷ xs) v w (inr (inl ((u, other), e))) (inr (inr (t, step, more))) =
    absurd (not_for_both board s t u x.dir x.push step other)
verdicts_same board s p m (x ∷ xs) v w (inr (inr (t, step, more))) (inl (none, f)) = absurd (no_step board s t x x.push none step)
verdicts_same board s p m (x ∷ xs) v w (inr (inr (t, step, more))) (inr (inl ((u, other), f))) =
    absurd (not_for_both board s t u x.dir x.push step other)
verdicts_same board s p m (x ∷ xs) v w (inr (inr (t, step, more))) (inr (inr (u, other, rest))) =
    verdicts_same board t _ (m + 1) xs v w more (subst
    (λ (r : Scene). IsVerdictFrom board r (if x.push then p + 1 else p) (m + 1) xs w)
    (one_step board s u t x.dir x.push other step) rest)

-- ---- there is one

-- a step in the letter's direction is for its case, or for the other, or the letter is blocked
abbrev CanStep : Board → Scene → Letter → Type 0
CanStep board s x = ((t : Scene) × StepsAs board s x.dir x.push t) ⊎ (HasWrongCase board s x ⊎ IsBlocked board s x)

walked : (board : Board) (s t : Scene) (x : Letter) (push : Bool) → x.push ≡ push → Walks board s x.dir t → CanStep board s x
walked board s t x true upper step = inr (inl (t, rw upper step))
walked board s t x false lower step = inl (t, rw lower step)

pushed : (board : Board) (s t : Scene) (x : Letter) (push : Bool) → x.push ≡ push → Pushes board s x.dir t → CanStep board s x
pushed board s t x true upper step = inl (t, rw upper step)
pushed board s t x false lower step = inr (inl (t, rw lower step))

step_by : (board : Board) (s : Scene) (x : Letter) (box wall : Bool) → contains s.boxes (next board s.player x.dir) ≡ box
    → is_wall board (next board s.player x.dir) ≡ wall → CanStep board s x
step_by board s x true wall box is_one = elim (cases_free board s.boxes (next board (next board s.player x.dir) x.dir)) [
  | inl free ↦ pushed board s _ x x.push refl (push_to board s x.dir box free)
  | inr (inl stop) ↦ inr (inr (λ t w. true≢false (sym box ∙ w.0.1), λ t q. true≢false (sym stop ∙ q.1.0)))
  | inr (inr stop) ↦ inr (inr (λ t w. true≢false (sym box ∙ w.0.1), λ t q. true≢false (sym stop ∙ q.1.1)))
]
step_by board s x false true none is_one =
    inr (inr (λ t w. true≢false (sym is_one ∙ w.0.0), λ t q. true≢false (sym q.0 ∙ none)))
step_by board s x false false none is_none = walked board s _ x x.push refl (walk_to board s x.dir (is_none, none))

some_verdict : (board : Board) (s : Scene) (p m : ℕ) (letters : List Letter) → (v : Verdict) × IsVerdictFrom board s p m letters v
some_verdict board s p m [] = elim (solved_or_not board s) [
  | inl solved ↦ (Solved p m, inl (solved, refl))
  | inr unsolved ↦ (Unsolved p m, inr (unsolved, refl))
]
some_verdict board s p m (x ∷ xs) = elim (step_by board s x _ _ refl refl) [
  | inl (t, step) ↦
      let (v, is) = some_verdict board t _ (m + 1) xs in
      (v, inr (inr (t, step, is)))
  | inr (inl wrong) ↦ (WrongCase (m + 1), inr (inl (wrong, refl)))
  | inr (inr blocked) ↦ (Blocked (m + 1), inl (blocked, refl))
]

-- each level and letters have one verdict
pub one_verdict : (board : Board) (letters : List Letter) → ExactlyOne (λ v. IsVerdict board letters v)
one_verdict board letters =
    let found = some_verdict board (start board) 0 0 letters in
    (found.0, found.1, λ w is. verdicts_same board (start board) 0 0 letters w found.0 is found.1)

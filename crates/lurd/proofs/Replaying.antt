-- Replaying letters: the verdict on those that are left is that on all.
use Rattle.std.proofs.Common.{◌≡◌, ℕ, suc, ◌+◌, ◌<◌, Bool, true, false, not, List, [], ◌∷◌, length, drop, get_or}
use Rattle.std.proofs.Common.{inl, inr, refl, subst, arith, drop-cons}
use Rattle.grid.specs.declared.moves.Letter.{Letter}
use Rattle.grid.specs.Board.{Board, Scene, Walks, Pushes, start}
use Rattle.lurd.specs.declared.verdict.Verdict.{Verdict}
use Rattle.lurd.specs.declared.verdict.Verdict.TheVariants.{WrongCase}
use Rattle.lurd.specs.Verdict.{StepsAs, IsVerdict, IsVerdictFrom}

-- the first i letters lead to the state s with this number of pushes: the verdict on the others, played from s, is that on
-- all
pub record LeadTo (board : Board) (letters : List Letter) (i pushes : ℕ) (s : Scene) : Type 0 where
  pub is_rest : (v : Verdict) → IsVerdictFrom board s pushes i (drop i letters) v → IsVerdict board letters v

-- no letters lead to the start
pub lead_nowhere : {board : Board} {s : Scene} (letters : List Letter) → s ≡ start board → LeadTo board letters 0 0 s
lead_nowhere {board} [] e = record { is_rest = λ v is. subst (λ (r : Scene). IsVerdictFrom board r 0 0 [] v) e is }
lead_nowhere {board} (x ∷ xs) e = record { is_rest = λ v is. subst (λ (r : Scene). IsVerdictFrom board r 0 0 (x ∷ xs) v) e is }

-- the verdict on the letters from the next one on
next_first : {board : Board} {s : Scene} {p : ℕ} (letters : List Letter) (i : ℕ) (d : Letter) → i < length letters → LeadTo board letters i p s
    → (v : Verdict) → IsVerdictFrom board s p i (get_or letters i d ∷ drop (i + 1) letters) v → IsVerdict board letters v
next_first {board} {s} {p} letters i d inside lead v is =
    let next : i + 1 ≡ suc i = omega arith in
    lead.is_rest v (rw (drop-cons letters i d inside)
    (subst (λ (k : ℕ). IsVerdictFrom board s p i (get_or letters i d ∷ drop k letters) v) next is))

-- the next letter is a walk, in lower case
pub lead_on_lower : {board : Board} {s t : Scene} {p : ℕ} (letters : List Letter) (i : ℕ) (d : Letter) → i < length letters
    → (get_or letters i d).push ≡ false → LeadTo board letters i p s → Walks board s (get_or letters i d).dir t
    → LeadTo board letters (i + 1) p t
lead_on_lower {t = t} letters i d inside lower lead step = record {
  is_rest = λ v is. next_first letters i d inside lead v (inr (inr (t, rw lower step, rw lower is)));
}

-- the next letter is a push, in upper case
pub lead_on_upper : {board : Board} {s t : Scene} {p : ℕ} (letters : List Letter) (i : ℕ) (d : Letter) → i < length letters
    → (get_or letters i d).push ≡ true → LeadTo board letters i p s → Pushes board s (get_or letters i d).dir t
    → LeadTo board letters (i + 1) (p + 1) t
lead_on_upper {t = t} letters i d inside upper lead step = record {
  is_rest = λ v is. next_first letters i d inside lead v (inr (inr (t, rw upper step, rw upper is)));
}

-- the next letter has the wrong case
pub wrong_case : {board : Board} {s : Scene} {p : ℕ} (letters : List Letter) (i : ℕ) (d : Letter) (t : Scene) (b : Bool) →
    i < length letters → (get_or letters i d).push ≡ b → LeadTo board letters i p s →
    StepsAs board s (get_or letters i d).dir (not b) t → IsVerdict board letters (WrongCase (i + 1))
wrong_case letters i d t b inside is lead step =
    next_first letters i d inside lead (WrongCase (i + 1)) (inr (inl ((t, rw is step), refl)))

-- where the letters lead, one after the other
pub ruleset leading = (lead_nowhere, lead_on_lower, lead_on_upper)

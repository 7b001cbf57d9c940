-- Acts in order, and what becomes of known bytes.
use Rattle.std.proofs.Common.{◌≡◌, ◌≤◌, List, [], ◌∷◌, ℕ, ◌++◌, length, take, Option, Some, None, sym, ap, ◌∙◌, subst, arith, append-nil}
use Rattle.std.proofs.Common.{length-take-le}
use Rattle.std.proofs.KnownBytes.{Consumes-kept, Consumes-nil, Consumes-trans}
use Rattle.std.specs.Io.KnownBytes.{Consumes, Appends, Keeps, IsAtEnd}
use Rattle.sokopar.specs.Ends.{Act, moved, Pass, none, more, WereAll}

-- after no act no byte has moved
pub pass_none : (acts : List Act) (bytes : List ℕ) → bytes ≡ [] → Pass acts acts bytes
pass_none acts bytes is = let P : List ℕ → Type 0 = λ bs. Pass acts acts bs in subst P (sym is) none

-- one act more, which moves the first bytes of a buffer
pub pass_more : (before acts new : List Act) (bytes all buffer : List ℕ) (n : ℕ) → Pass before acts bytes → new ≡ acts ++ moved (take n buffer) ∷ []
    → all ≡ bytes ++ take n buffer → 1 ≤ n → n ≤ length buffer → Pass before new all
pass_more before acts new bytes all buffer n pass is_new is_all some few =
    let long : length (take n buffer) ≡ n = length-take-le n buffer few in
    let next = more (take n buffer) pass (omega (arith, long)) in
    let P : List Act → Type 0 = λ (acts₁ : List Act). Pass before acts₁ all in
    let Q : List ℕ → Type 0 = λ bs. Pass before (acts ++ moved (take n buffer) ∷ []) bs in
    subst P (sym is_new) (subst Q (sym is_all) next)

-- no byte of what was known is gone at first
pub consumes_none : (known : Option (List ℕ)) (bytes : List ℕ) → bytes ≡ [] → Consumes known known bytes
consumes_none known bytes is = subst (λ bs. Consumes known known bs) (sym is) (Consumes-nil known)

-- some bytes more are gone
pub consumes_more : (old mid new : Option (List ℕ)) (bytes all part : List ℕ) → Consumes old mid bytes → Consumes mid new part → all ≡ bytes ++ part →
    Consumes old new all
consumes_more old mid new bytes all part p q is = subst (λ bs. Consumes old new bs) (sym is) (Consumes-trans old mid new bytes part p q)

-- a read that fails takes none of them
pub consumes_kept : (old mid new : Option (List ℕ)) (bytes : List ℕ) → Consumes old mid bytes → Keeps mid new → Consumes old new bytes
consumes_kept = Consumes-kept

-- at the end all of them are gone
pub were_all : (old mid new : Option (List ℕ)) (bytes buffer : List ℕ) (n : ℕ) → Consumes old mid bytes → Consumes mid new (take n buffer) → n ≡ 0 →
    IsAtEnd new → WereAll old new bytes
were_all None mid new bytes buffer n p q zero_long end = tt
were_all (Some xs) None new bytes buffer n p q zero_long end = absurd p
were_all (Some xs) (Some ys) None bytes buffer n p q zero_long end = absurd q
were_all (Some xs) (Some ys) (Some zs) bytes buffer n p q zero_long end =
    let gone : ys ≡ [] = q ∙ ap (λ (k : ℕ). take k buffer ++ zs) zero_long ∙ end in
    (p ∙ ap (λ (l : List ℕ). bytes ++ l) gone ∙ append-nil bytes, end)

-- a write that takes no byte keeps what is held
pub keeps_none : (old new : Option (List ℕ)) (text : List ℕ) (n : ℕ) → Appends old new (take n text) → n ≡ 0 → Keeps old new
keeps_none None new text n p is = tt
keeps_none (Some xs) None text n p is = absurd p
keeps_none (Some xs) (Some ys) text n p is = p ∙ ap (λ (k : ℕ). xs ++ take k text) is ∙ append-nil xs

-- bytes that were all that was left are gone
pub all_consumed : (old new : Option (List ℕ)) (bytes : List ℕ) → WereAll old new bytes → Consumes old new bytes
all_consumed None new bytes h = tt
all_consumed (Some xs) None bytes h = absurd h
all_consumed (Some xs) (Some ys) bytes h = h.0 ∙ sym (ap (λ (l : List ℕ). bytes ++ l) h.1 ∙ append-nil bytes)

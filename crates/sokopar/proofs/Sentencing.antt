-- Texts one after the other.
use Rattle.std.proofs.Common.{◌≡◌, ℕ, List, [], ◌∷◌, ◌++◌, Result, Ok, Err, OnOk, codes, ap, ◌∙◌, append_assoc}
use Rattle.std.proofs.Common.{Bool, true, false, cond, eqb, sym}
use Rattle.std.proofs.lemmas.Bool.{eqb-true}
use Rattle.sokopar.specs.Explaining.{sentence}

-- one text follows another
pub then_said : {A E : Type 0} (result : Result A E) (old mid new first second : List ℕ) → mid ≡ old ++ first →
    OnOk result (new ≡ mid ++ second) → OnOk result (new ≡ old ++ (first ++ second))
then_said (Ok a) old mid new first second before after = after ∙ ap (λ t. t ++ second) before ∙ append_assoc old first second
then_said (Err e) old mid new first second before after = tt

-- four texts in turn make a sentence
pub sentence_said : {A E : Type 0} (result : Result A E) (old a b c d one two three four five new : List ℕ) → one ≡ old ++ codes "  " →
    two ≡ one ++ a → three ≡ two ++ b → four ≡ three ++ c → five ≡ four ++ d → OnOk result (new ≡ five ++ 10 ∷ []) →
    OnOk result (new ≡ old ++ sentence (a ++ b ++ c ++ d))
unfolding sentence
sentence_said (Err e) old a b c d one two three four five new first second third fourth fifth last = tt
sentence_said (Ok x) old a b c d one two three four five new first second third fourth fifth last =
    let two_is : three ≡ one ++ (a ++ b) = third ∙ ap (λ t. t ++ b) second ∙ append_assoc one a b in
    let three_is : four ≡ one ++ (a ++ b ++ c) = fourth ∙ ap (λ t. t ++ c) two_is ∙ append_assoc one (a ++ b) c in
    let four_is : five ≡ one ++ (a ++ b ++ c ++ d) = fifth ∙ ap (λ t. t ++ d) three_is ∙ append_assoc one (a ++ b ++ c) d in
    let all : five ≡ old ++ (codes "  " ++ (a ++ b ++ c ++ d)) =
    four_is ∙ ap (λ t. t ++ (a ++ b ++ c ++ d)) first ∙ append_assoc old (codes "  ") (a ++ b ++ c ++ d) in
    last ∙ ap (λ t. t ++ 10 ∷ []) all ∙ append_assoc old (codes "  " ++ (a ++ b ++ c ++ d)) (10 ∷ [])

-- three texts in turn
pub three_put : {A E : Type 0} (result : Result A E) (old first second third one two new : List ℕ) → one ≡ old ++ first → two ≡ one ++ second →
    OnOk result (new ≡ two ++ third) → OnOk result (new ≡ old ++ (first ++ second ++ third))
three_put (Err e) old first second third one two new before mid after = tt
three_put (Ok a) old first second third one two new before mid after =
    after ∙ ap (λ t. t ++ third) (mid ∙ ap (λ t. t ++ second) before ∙ append_assoc old first second) ∙ append_assoc old (first ++ second) third

-- a text that is there unless something is so
pub unless_said : {A E : Type 0} (result : Result A E) (old new words : List ℕ) (b : Bool) → b ≡ false → OnOk result (new ≡ old ++ words) →
    OnOk result (new ≡ old ++ cond b [] words)
unless_said (Err e) old new words b is said = tt
unless_said (Ok a) old new words b is said = said ∙ ap (λ (x : Bool). old ++ cond x [] words) (sym is)

-- two numbers that differ
pub unequal : (a b : ℕ) → (a ≡ b → ⊥) → (x : Bool) → eqb a b ≡ x → eqb a b ≡ false
unequal a b differ true e = absurd (differ (eqb-true a b e))
unequal a b differ false e = e

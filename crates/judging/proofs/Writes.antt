-- What `write!` appends to a text.
use Rattle.std.proofs.Common.{◌≡◌, ◌++◌, ℕ, List, Result, Ok, Err, OnOk}
use Rattle.std.specs.Fmt.{WritesInCalls}
use Rattle.std.proofs.lemmas.Fmt.{contents_after_writes}
use Rattle.std.proofs.lemmas.Result.{on_ok_weaker}

pub wrote : {A E : Type 0} (r : Result A E) (old bs new : List ℕ) →
    OnOk r (WritesInCalls (λ (s : List ℕ) (more : List ℕ) (t : List ℕ). t ≡ s ++ more) old bs new) →
    OnOk r (new ≡ old ++ bs)
wrote r old bs new = on_ok_weaker r (contents_after_writes _ (λ s. s) (λ _ _ _ e. e) old bs new)

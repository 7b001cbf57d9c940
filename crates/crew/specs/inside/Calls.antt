-- Calls of a function at a `&mut`.
use Rattle.std.specs.Prelude.{◌≡◌}
use denote.Ref.{MutBor}
use denote.Param.Members.{Shared}

-- a call of f at a `&mut` to x may give r and leave y there
pub record Leaves {F T A : Type 0} (g : Shared F (MutBor T × Unit {0}) (A × (MutBor T × Unit {0}))) (f : F) (x : T)
    (r : A) (y : T) : Type 0 where
  pub argument : MutBor T
  pub argument_is : argument.now ≡ x
  pub after_call : MutBor T
  pub call : g.post f (argument, tt) (r, (after_call, tt))
  pub left : after_call.now ≡ y

use Rattle.std.proofs.Common.{inl, inr, refl}
use Rattle.corrals.proofs.checking.is_ready_along.Goals as goal

pub returns-then-useless-clause-ready : goal.returns-then-useless-clause-ready
returns-then-useless-clause-ready c told m allowed = inr (inl (c.if-useless.ensures refl m allowed))

use Rattle.std.proofs.Common.{◌≡◌, IfOk, subst}
use Rattle.claims.specs.Hands.{newcomer}
use Rattle.crew.proofs.lent.ledger_of.Goals as goal

pub returns : goal.returns
returns c = subst (λ n. IfOk c.new.result (λ made. (made.0.len ≡ n) × (made.1 ≡ newcomer made.0))) c.len.ensures c.new.ensures

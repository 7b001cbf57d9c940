use Rattle.std.proofs.Common.{◌≡◌, ℕ, length}
use Rattle.claims.specs.Hands.{newcomer}
use Rattle.crew.specs.inside.Desks.{AreRoomy, HaveDrawers}
use Rattle.crew.proofs.desks.deal.Given as goal

abbrev pub invariant-loop-place : goal.invariant-loop-place
invariant-loop-place l = record {
  same : length l.desks ≡ length l.fn.desks;
  rest : l.rest ≡ newcomer l.ledger;
  drawers : HaveDrawers l.ledger l.place l.desks;
  room : (size : ℕ) → AreRoomy size l.fn.desks → AreRoomy size l.desks;
}

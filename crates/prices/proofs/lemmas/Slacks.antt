-- Pushes that never help.
use Rattle.std.proofs.Common.{◌≡◌, ℕ, suc, subst}
use Rattle.grid.specs.declared.square.Push.{Push}
use Rattle.grid.specs.Board.{Board, Scene}
use Rattle.grid.specs.States.{IsScene}
use Rattle.area.specs.After.{IsPushed}
use Rattle.prices.specs.Helping.{NeverHelps, SlackView}
use Rattle.prices.specs.Solving.{NoneWithin}
use Rattle.prices.proofs.lemmas.Helping.{never_leads_on}

-- a push that never helps leads to no solution with one push less
pub never_solves : (board : Board) (s t : Scene) (p : Push) → IsScene board s → IsPushed board s p t →
    (v : SlackView) (m : ℕ) → (v.board ≡ board) × (v.scene ≡ s) →
    NeverHelps v.board (suc m) v.scene p.square p.dir → NoneWithin board m t
never_solves board s t p scene pushed v m same never = never_leads_on board m s t p scene
    (subst (λ (b : Board). NeverHelps b (suc m) s p.square p.dir) same.0
    (subst (λ (x : Scene). NeverHelps v.board (suc m) x p.square p.dir) same.1 never)) pushed

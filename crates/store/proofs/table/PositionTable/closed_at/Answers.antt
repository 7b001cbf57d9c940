use Rattle.std.proofs.Common.{◌≡◌, Some, option_map, ap, sym, subst, ◌∙◌, arith}
use Rattle.std.specs.Prelude.{slice_get}
use Rattle.grid.specs.Board.{Scene}
use Rattle.store.specs.Entries.{Closed}
use Rattle.store.specs.FoundView.{FoundView}
use Rattle.store.proofs.Tails.{seen_at}
use Rattle.store.proofs.table.PositionTable.closed_at.Goals as goal

pub returns : goal.returns
returns g c =
    let a = c.self.inside in
    subst (λ (v : FoundView). Some c.position.result ≡ option_map (λ (e : Closed). e.0) (slice_get v.seen c.args.index)) c.self.view_is
    (ap (λ (m : Scene). Some m) c.position.ensures ∙
    ap (option_map (λ (e : Closed). e.0)) (c.in_ok-key.ensures.entry ∙ sym (seen_at a.start a.table.entries c.args.index (omega arith))))

use Rattle.std.proofs.Common.{◌≡◌, length, sym, ap, ◌∙◌, subst, arith}
use Rattle.std.proofs.lemmas.Iterator.Adapters.{YieldsList-from_vec}
use Rattle.std.proofs.lemmas.Iterator.Consumers.{YieldsList-turn}
use Rattle.claims.specs.Hands.{DrawerView}
use Rattle.claims.specs.inside.Plays.{Sat}
use Rattle.claims.proofs.Auditing.{enters_gathered, joins_gathered}
use Rattle.claims.proofs.ledger.gathered.Goals as goal

pub load_new_seat-seat-requires : goal.load_new_seat-seat-requires
load_new_seat-seat-requires c = let words = c.requires.words in (omega arith, enters_gathered _ _)

pub join_seat-requires : goal.join_seat-requires
join_seat-requires c =
    let gives = c.into_iter-drawer-iterator.ensures.into_iter_gives in
    let all = YieldsList-from_vec {s = c.into_iter-drawer-iterator.result} c.args.drawers.items gives.0 (gives.1 ∙ c.args.drawers.ok.0) in
    let turn = YieldsList-turn all c.loop-drawer.yielded c.loop-drawer.drawer-iterator c.loop-drawer.yielded_by c.next.result c.next.new.self c.in-Some.drawer
    c.in-Some.is c.next.ensures.steps in
    let fits = subst (λ (d : DrawerView). (d.ledger.table ≡ c.args.shared.now.table_id) × (d.ledger.len ≡ c.args.shared.now.key)) (sym turn.1)
    (c.requires.drawers (length c.loop-drawer.yielded) c.in-Some.drawer turn.0) in
    let words = c.requires.words in (
      c.loop-drawer.invariant.table,
      ap (λ (d : DrawerView). d.ledger.table) c.drawer.view_is ∙ fits.0,
      ap (λ (me : Sat). me.1) c.drawer.invariant.seated,
      omega arith,
      joins_gathered _ _ c.loop-drawer.seat.me _ c.drawer.inside c.in-Some.drawer c.loop-drawer.invariant.hands c.drawer.view_is fits.1,
    )

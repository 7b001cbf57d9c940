use Rattle.std.proofs.Common.{rules, sym, ◌∙◌}
use Rattle.claims.proofs.Seats.{agrees, met_is, joins_meeting, loads_meeting, splits_meeting}
use Rattle.claims.proofs.ledger.Ledger.meet.Goals as goal

pub join_seat-requires : goal.join_seat-requires
join_seat-requires c =
    let len = agrees c.drawer.inside c.self.inside _ _ c.drawer.view_is c.self.view_is c.requires.0 c.self.invariant in
    let other = agrees c.other.inside c.self.inside _ _ c.other.view_is c.self.view_is c.requires.1 c.self.invariant in (
      search rules,
      search rules,
      search rules,
      search rules,
      joins_meeting _ _ _ c.drawer.inside.seat.me.0 c.other.inside.seat.me.0 (len ∙ sym other),
    )

pub load-requires : goal.load-requires
load-requires c =
    let len = agrees c.drawer.inside c.self.inside _ _ c.drawer.view_is c.self.view_is c.requires.0 c.self.invariant in
    let joined = met_is c.self.inside.table.shared.key c.drawer.inside.seat.me c.other.inside.seat.me
    c.drawer.invariant.seated c.other.invariant.seated len in
    (search rules, search rules, loads_meeting _ _ _ c.join_seat.new.seat.me _ _ (c.join_seat.ensures.2 ∙ joined))

pub split_seat-other_seat-requires : goal.split_seat-other_seat-requires
split_seat-other_seat-requires c =
    let len = agrees c.drawer.inside c.self.inside _ _ c.drawer.view_is c.self.view_is c.requires.0 c.self.invariant in
    let joined = met_is c.self.inside.table.shared.key c.drawer.inside.seat.me c.other.inside.seat.me
    c.drawer.invariant.seated c.other.invariant.seated len in
    let is = c.load.ensures.2.0 ∙ (c.join_seat.ensures.2 ∙ joined) in
    (search rules, search rules, splits_meeting _ _ c.load.new.seat.me _ _ is)

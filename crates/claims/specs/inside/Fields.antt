-- What the fields of a ledger and of a drawer say.
use Rattle.std.specs.Prelude.{◌≡◌, suc}
use Rattle.claims.specs.declared.ledger.TheConstants.{PLACES}
use Rattle.claims.specs.declared.drawer.Drawer.TheInside.{Inside as DrawerInside}
use Rattle.claims.specs.declared.ledger.Ledger.TheInside.{Inside as LedgerInside}
use Rattle.claims.specs.Hands.{LedgerView, DrawerView}
use Rattle.claims.specs.inside.Views.{first_hand}
use Rattle.claims.specs.inside.Plays.{sat}

abbrev pub ledger_view : LedgerInside → LedgerView
ledger_view a = record { table = a.table.shared.table_id; len = a.len }

-- the table has a word for the next number and one for each place, and knows the length
abbrev pub IsSoundLedger : LedgerInside → Type 0
IsSoundLedger a = (a.table.shared.table_id.words ≡ suc PLACES) × (a.table.shared.key ≡ a.len)

abbrev pub drawer_view : DrawerInside → DrawerView
drawer_view a =
    record { ledger = record { table = a.seat.table_id; len = a.seat.me.0.len }; hand = first_hand a.seat.me.0.hands }

-- the seat has one hand, and the drawer remembers its place and whether it is spent out
pub record IsSoundDrawer (a : DrawerInside) : Type 0 where
  pub seated : a.seat.me ≡ sat a.seat.me.0.len (first_hand a.seat.me.0.hands)
  pub place : a.place ≡ (first_hand a.seat.me.0.hands).place
  pub spent : a.spent ≡ (first_hand a.seat.me.0.hands).spent

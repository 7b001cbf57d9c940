use Rattle.std.proofs.Common.{rules, ◌≡◌, None, Some}
use Rattle.std.specs.Map.{lookup, keys_of}
use Rattle.std.specs.List.{position_or_len}
use Rattle.store.specs.Entries.{same_scene}
use Rattle.store.proofs.EntriesOf.{comes_last, gives_way, is_known}
use Rattle.store.proofs.labels.enter.Goals as goal

pub returns-then-known-label-clause-ok : goal.returns-then-known-label-clause-ok
returns-then-known-label-clause-ok g c =
    let es = c.args.map.now.entries in
    let occupied = c.in-Occupied.is in
    let value = c.in_ok-entry.ensures.value in
    let read = c.get-known.ensures in
    let there : lookup (same_scene c.args.key) es ≡ Some c.get-known.result.now = search (rules, value, read, occupied) in
    is_known c.args.key c.get-known.result.now c.args.label es _ there c.if-known-label.true (search rules)

pub returns-in-Vacant-clause-ok : goal.returns-in-Vacant-clause-ok
returns-in-Vacant-clause-ok g c =
    let es = c.args.map.now.entries in
    let vacant = c.in-Vacant.is in
    let found = c.in_ok-entry.ensures.found in
    let none : lookup (same_scene c.args.key) es ≡ None = search (rules, found, vacant) in
    let place = c.in_ok-entry.ensures.index in
    let told = c.index-place.ensures in
    let at : c.index-place.result ≡ position_or_len (same_scene c.args.key) (keys_of es) = search (rules, place, told, vacant) in
    comes_last c.args.key c.args.label es _ c.index-place.result none at (search rules)

pub returns-else-known-label-clause-ok : goal.returns-else-known-label-clause-ok
returns-else-known-label-clause-ok g c =
    let es = c.args.map.now.entries in
    let occupied = c.in-Occupied.is in
    let value = c.in_ok-entry.ensures.value in
    let read = c.get-known.ensures in
    let there : lookup (same_scene c.args.key) es ≡ Some c.get-known.result.now = search (rules, value, read, occupied) in
    let place = c.in_ok-entry.ensures.index in
    let told = c.index-place-in-Occupied.ensures in
    let at : c.index-place-in-Occupied.result ≡ position_or_len (same_scene c.args.key) (keys_of es) = search (rules, place, told, occupied) in
    gives_way c.args.key c.get-known.result.now c.args.label es _ c.index-place-in-Occupied.result there at c.if-known-label.false (search rules)

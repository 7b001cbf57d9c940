use Rattle.std.proofs.Common.{rules, sym, ap, not, ◌∙◌}
use Rattle.store.proofs.Keeping.{inserted_parts, kept_open, occupied_closed, occupied_open, vacant_changes}
use Rattle.store.proofs.entering.enter.Goals as goal

pub returns-then-index-start-clause-waiting : goal.returns-then-index-start-clause-waiting
returns-then-index-start-clause-waiting g c =
    let es = c.args.table.now.entries in
    kept_open c.args.start es _ c.args.key.now c.args.origin (search rules)
    (occupied_closed c.args.key.now c.copy.result c.args.origin c.args.start es c.index-index.result c.get-known.result.now
    c.copy.ensures (search (rules, c.in-Ok-Occupied.ensures.value, c.get-known.ensures))
    (search (rules, c.in-Ok-Occupied.ensures.index, c.index-index.ensures))
    c.if-index-start.true)

pub returns-then-not-exceeds-clause-waiting : goal.returns-then-not-exceeds-clause-waiting
returns-then-not-exceeds-clause-waiting g c =
    let es = c.args.table.now.entries in
    kept_open c.args.start es _ c.args.key.now c.args.origin (search rules) (ap not (sym c.if-not-exceeds.true) ∙
    occupied_open c.args.key.now c.copy.result c.args.origin c.args.start es c.index-index.result c.get-known.result.now
    c.copy.ensures (search (rules, c.in-Ok-Occupied.ensures.value, c.get-known.ensures))
    (search (rules, c.in-Ok-Occupied.ensures.index, c.index-index.ensures))
    c.exceeds.result c.requires.found c.if-index-start.false c.exceeds.ensures)

pub returns-in-Ok-Vacant-clause-found : goal.returns-in-Ok-Vacant-clause-found
returns-in-Ok-Vacant-clause-found g c =
    let es = c.args.table.now.entries in
    (inserted_parts c.args.start es _ c.args.key.now c.args.origin c.requires.found (vacant_changes c.args.key.now c.copy.result
    c.args.origin c.args.start es c.requires.found c.copy.ensures (search (rules, c.in-Ok-Vacant.ensures.found))) (search rules)).2

pub returns-in-Ok-Vacant-clause-seen : goal.returns-in-Ok-Vacant-clause-seen
returns-in-Ok-Vacant-clause-seen g c =
    let es = c.args.table.now.entries in
    (inserted_parts c.args.start es _ c.args.key.now c.args.origin c.requires.found (vacant_changes c.args.key.now c.copy.result
    c.args.origin c.args.start es c.requires.found c.copy.ensures (search (rules, c.in-Ok-Vacant.ensures.found))) (search rules)).0

pub returns-in-Ok-Vacant-clause-waiting : goal.returns-in-Ok-Vacant-clause-waiting
returns-in-Ok-Vacant-clause-waiting g c =
    let es = c.args.table.now.entries in
    (inserted_parts c.args.start es _ c.args.key.now c.args.origin c.requires.found (vacant_changes c.args.key.now c.copy.result
    c.args.origin c.args.start es c.requires.found c.copy.ensures (search (rules, c.in-Ok-Vacant.ensures.found))) (search rules)).1

pub returns-else-not-exceeds-clause-found : goal.returns-else-not-exceeds-clause-found
returns-else-not-exceeds-clause-found g c =
    let es = c.args.table.now.entries in
    (inserted_parts c.args.start es _ c.args.key.now c.args.origin c.requires.found (ap not (sym c.if-not-exceeds.false) ∙
    occupied_open c.args.key.now c.copy.result c.args.origin c.args.start es c.index-index.result c.get-known.result.now
    c.copy.ensures (search (rules, c.in-Ok-Occupied.ensures.value, c.get-known.ensures))
    (search (rules, c.in-Ok-Occupied.ensures.index, c.index-index.ensures))
    c.exceeds.result c.requires.found c.if-index-start.false c.exceeds.ensures) (search rules)).2

pub returns-else-not-exceeds-clause-seen : goal.returns-else-not-exceeds-clause-seen
returns-else-not-exceeds-clause-seen g c =
    let es = c.args.table.now.entries in
    (inserted_parts c.args.start es _ c.args.key.now c.args.origin c.requires.found (ap not (sym c.if-not-exceeds.false) ∙
    occupied_open c.args.key.now c.copy.result c.args.origin c.args.start es c.index-index.result c.get-known.result.now
    c.copy.ensures (search (rules, c.in-Ok-Occupied.ensures.value, c.get-known.ensures))
    (search (rules, c.in-Ok-Occupied.ensures.index, c.index-index.ensures))
    c.exceeds.result c.requires.found c.if-index-start.false c.exceeds.ensures) (search rules)).0

pub returns-else-not-exceeds-clause-waiting : goal.returns-else-not-exceeds-clause-waiting
returns-else-not-exceeds-clause-waiting g c =
    let es = c.args.table.now.entries in
    (inserted_parts c.args.start es _ c.args.key.now c.args.origin c.requires.found (ap not (sym c.if-not-exceeds.false) ∙
    occupied_open c.args.key.now c.copy.result c.args.origin c.args.start es c.index-index.result c.get-known.result.now
    c.copy.ensures (search (rules, c.in-Ok-Occupied.ensures.value, c.get-known.ensures))
    (search (rules, c.in-Ok-Occupied.ensures.index, c.index-index.ensures))
    c.exceeds.result c.requires.found c.if-index-start.false c.exceeds.ensures) (search rules)).1

use Rattle.std.proofs.Common.{sym}
use Rattle.store.proofs.Indices.{place_kept, place_less}
use Rattle.store.proofs.batches.changes_nothing.Goals as goal

pub returns-then-index-start : goal.returns-then-index-start
returns-then-index-start g c = λ _.
    place_kept c.args.offer.now.0 c.args.offer.now.1 c.args.start c.args.index c.args.table.now.entries
    (c.requires.index c.if-index-eq-NOWHERE.false) c.if-index-start.true

pub returns : goal.returns
returns g c =
    place_less c.args.offer.now.0 c.args.offer.now.1 c.args.start c.args.index c.args.table.now.entries c.in-Some.field-0-0.now c.in-Some.known.now
    c.exceeds.result c.requires.found (c.requires.index c.if-index-eq-NOWHERE.false) (sym c.in-Some.ensures.entry) c.in-Some.ensures.value
    c.exceeds.ensures

use Rattle.std.proofs.lemmas.List.{take-append-le}
use Rattle.crew.proofs.Batches.{is_batch}
use Rattle.crew.proofs.batch.draw_batch.Goals as goal

pub returns-clause-batch : goal.returns-clause-batch
returns-clause-batch g c =
    let count = c.in_ok-count.count in let ranks = c.draw_ranks.new.ranks in let drawn = c.in_ok-count.ensures.drawn in
    is_batch c.args.worker.now.shared.now.layer c.args.drawer.now.hand c.draw_ranks.new.drawer.hand count ranks _ c.expand_each.new.parcels
    (take-append-le count ranks _ drawn.few) drawn c.expand_each.ensures.expanded

use Rattle.std.proofs.Common.{ap, ◌∙◌, position}
use Rattle.std.specs.Map.{keys_of}
use Rattle.grid.specs.Board.{Scene}
use Rattle.store.specs.Entries.{same_scene}
use Rattle.store.proofs.Indices.{stands_found}
use Rattle.store.proofs.batches.index_of.Goals as goal

pub returns-in-Some : goal.returns-in-Some
returns-in-Some g c = λ _.
    let es = c.args.table.now.entries in
    stands_found c.args.key.now c.in-Some.index es
    (c.in-Some.ensures.index ∙ ap (λ (m : Scene). position (same_scene m) (keys_of es)) c.of-probe.ensures)

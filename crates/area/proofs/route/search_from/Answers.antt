use Rattle.std.proofs.Common.{arith}
use Rattle.grid.proofs.lemmas.Steps.{inside_grid}
use Rattle.area.proofs.route.search_from.Goals as goal

pub block_boxes-requires-clause-inside : goal.block_boxes-requires-clause-inside
block_boxes-requires-clause-inside c = λ q h. omega (arith, inside_grid c.args.level.now q (c.requires.scene.boxes q h))

use Rattle.std.proofs.Common.{sym, ◌∙◌}
use Rattle.grid.specs.declared.dir.Dir.{Dir}
use Rattle.grid.proofs.lemmas.Steps.{inside_grid}
use Rattle.prices.proofs.lemmas.Looks.{told_by_four}
use Rattle.regions.specs.inside.Listing.{WalksListed}
use Rattle.regions.proofs.listing.are_walks_listed_from.Goals as goal

pub returns : goal.returns
returns c = told_by_four
    (λ (d : Dir). WalksListed c.args.look.now c.args.walks.now c.args.square d)
    c.is_walk_listed_to-down.result c.is_walk_listed_to-left.result c.is_walk_listed_to-right.result c.is_walk_listed_to-up.result
    c.is_walk_listed_to-down.ensures c.is_walk_listed_to-left.ensures c.is_walk_listed_to-right.ensures c.is_walk_listed_to-up.ensures

pub is_walk_listed_to-down-requires : goal.is_walk_listed_to-down-requires
is_walk_listed_to-down-requires c = inside_grid c.args.look.now.level.now c.args.square (sym c.is_wall.ensures ∙ c.if-is_wall.false)

pub is_walk_listed_to-left-requires : goal.is_walk_listed_to-left-requires
is_walk_listed_to-left-requires c = inside_grid c.args.look.now.level.now c.args.square (sym c.is_wall.ensures ∙ c.if-is_wall.false)

pub is_walk_listed_to-right-requires : goal.is_walk_listed_to-right-requires
is_walk_listed_to-right-requires c = inside_grid c.args.look.now.level.now c.args.square (sym c.is_wall.ensures ∙ c.if-is_wall.false)

pub is_walk_listed_to-up-requires : goal.is_walk_listed_to-up-requires
is_walk_listed_to-up-requires c = inside_grid c.args.look.now.level.now c.args.square (sym c.is_wall.ensures ∙ c.if-is_wall.false)

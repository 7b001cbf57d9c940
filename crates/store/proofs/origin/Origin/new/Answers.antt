use Rattle.std.proofs.Common.{◌+◌, ◌*◌, ◌<◌, rules, ◌∙◌}
use Rattle.store.specs.declared.origin.TheConstants.{DIRECTIONS, SQUARES}
use Rattle.store.specs.inside.Packed.{parted}
use Rattle.store.proofs.Packing.{parted_packed}
use Rattle.store.proofs.origin.Origin.new.Goals as goal

pub returns : goal.returns
returns c =
    let r = c.args.rank in let s = c.from.result in let d = c.args.push.dir in
    let lt : s < SQUARES = search rules in
    (λ i. parted ((r * SQUARES + s) * DIRECTIONS + c.number_of.ensures i)) ∙ parted_packed r s d lt ∙
    (λ i. (r, record { square = (c.from.ensures ∙ c.square.view_is) i; dir = d }))

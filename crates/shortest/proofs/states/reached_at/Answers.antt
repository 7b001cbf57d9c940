use Rattle.std.proofs.Common.{sym}
use Rattle.prices.proofs.lemmas.Lists.{in_range}
use Rattle.shortest.proofs.states.reached_at.Goals as goal

pub returns : goal.returns
returns c =
    let (x, at) = in_range c.args.listed.now.entries c.args.place c.requires in
    (x, at, sym (c.position.ensures x at), sym (c.label.ensures x at).0)

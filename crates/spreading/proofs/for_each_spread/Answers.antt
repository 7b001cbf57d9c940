use Rattle.std.proofs.Common.{refl}
use Rattle.std.specs.Fork.{ChangesAt}
use Rattle.spreading.proofs.Parted.{changes_all}
use Rattle.spreading.proofs.for_each_spread.Goals as goal

pub returns : goal.returns
returns g c i d low = (refl, changes_all (ChangesAt g.F.Fn c.args.f.now) c.args.s.now c.spread_from.new.s c.spread_from.ensures i d low)

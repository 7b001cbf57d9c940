use Rattle.std.proofs.Common.{refl}
use Rattle.std.specs.Fork.{AcceptsAt, ChangesAt}
use Rattle.spreading.proofs.Parted.{holds_only, changes_only}
use Rattle.spreading.proofs.at_only.Goals as goal

pub f-requires : goal.f-requires
f-requires g c = holds_only (AcceptsAt g.F.Fn c.args.f.now) c.args.place c.args.one.now c.requires.one c.requires.accepts _ _ refl

pub returns : goal.returns
returns g c =
    changes_only (ChangesAt g.F.Fn c.args.f.now) c.args.place c.args.one.now c.f.new.arg3 c.requires.one _
    (record { argument = _; argument_is = refl; after_call = _; call = c.f.ensures; left = refl })

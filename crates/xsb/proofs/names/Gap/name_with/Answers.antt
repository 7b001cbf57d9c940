use Rattle.std.proofs.Common.{refl}
use Rattle.xsb.proofs.GapNames.{name_of-gaps}
use Rattle.xsb.proofs.names.Gap.name_with.Goals as goal

pub returns : goal.returns
returns c = name_of-gaps c.args.self.now c.args.after.now _ _ _ _ c.or.ensures c.unwrap_or.ensures refl c.trim.ensures
